use Rattle.std.proofs.Common.{◌++◌, sym, ap, ◌∙◌}
use Rattle.std.specs.Prelude.{remove}
use Rattle.std.proofs.lemmas.List.Edits.{remove-append_right}
use Rattle.zre_peer.proofs.groups.Groups.remove_at.Goals as goal

pub returns-else-i-few : goal.returns-else-i-few
returns-else-i-few c =
    ap (λ more. c.self.inside.few ++ more) c.remove_at.ensures
    ∙ sym (remove-append_right c.self.inside.few c.self.inside.more c.len-few.result c.args.i (sym c.len-few.ensures) c.if-i-few.false)
    ∙ ap (λ groups. remove groups c.args.i) c.self.view_is

use Rattle.std.proofs.Common.{map, ap, ◌∙◌}
use Rattle.std.specs.Prelude.{remove}
use Rattle.zre_peer.proofs.IndexedNames.{left_named}
use Rattle.zre_peer.proofs.group_table.GroupTable.remove_at.Goals as goal

pub returns : goal.returns
returns c =
    ap (map (λ name. name.items)) c.shift_remove_index.ensures.keys
    ∙ left_named (λ name. name.items) c.self.inside.names.keys c.args.i
    ∙ ap (λ groups. remove groups c.args.i) c.self.view_is

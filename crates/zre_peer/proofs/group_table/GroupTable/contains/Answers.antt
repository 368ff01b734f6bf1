use Rattle.std.proofs.Common.{ap, ◌∙◌}
use Rattle.std.specs.List.{list_any}
use Rattle.std.specs.Str.{bytes_eq}
use Rattle.zre_peer.proofs.IndexedNames.{any_named}
use Rattle.zre_peer.proofs.group_table.GroupTable.contains.Goals as goal

pub returns : goal.returns
returns c =
    c.contains.ensures
    ∙ any_named (λ name. name.items) c.args.group.now c.self.inside.names.keys
    ∙ ap (list_any (λ x. bytes_eq x c.args.group.now)) c.self.view_is

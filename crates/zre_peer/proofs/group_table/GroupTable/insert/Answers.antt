use Rattle.std.proofs.Common.{map, ap, ◌∙◌}
use Rattle.zre_peer.specs.Members.{with_group}
use Rattle.zre_peer.proofs.IndexedNames.{joined_named}
use Rattle.zre_peer.proofs.group_table.GroupTable.insert.Goals as goal

pub returns-clause-ok : goal.returns-clause-ok
returns-clause-ok c =
    ap (map (λ name. name.items)) c.in_ok-insert.ensures.keys
    ∙ joined_named (λ name. name.items) c.in_ok-from_slice.field-0 c.self.inside.names.keys
    ∙ (λ i. with_group (c.self.view_is i) (c.in_ok-from_slice.ensures.items i))

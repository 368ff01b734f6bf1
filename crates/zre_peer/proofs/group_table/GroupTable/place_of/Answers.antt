use Rattle.std.proofs.Common.{◌∙◌}
use Rattle.zre_peer.proofs.IndexedNames.{place_named, place_within}
use Rattle.zre_peer.proofs.group_table.GroupTable.place_of.Goals as goal

pub returns-clause-place : goal.returns-clause-place
returns-clause-place c =
    place_within c.args.group.now _ _ _ c.self.view_is
    (c.get_index_of.ensures.index ∙ place_named (λ name. name.items) c.args.group.now c.self.inside.names.keys)

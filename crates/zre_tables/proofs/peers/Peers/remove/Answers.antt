use Rattle.std.proofs.Common.{ap, ◌∙◌}
use Rattle.zre_tables.specs.Rows.{row_at}
use Rattle.zre_tables.proofs.SumsAgreeWithRows.{remove_agrees}
use Rattle.zre_tables.proofs.RowsInOrder.{at_gone}
use Rattle.zre_tables.proofs.peers.Peers.remove.Goals as goal

pub invariant_of-self : goal.invariant_of-self
invariant_of-self c =
    let i = c.self.inside in
    remove_agrees i.rows.all.items c.remove.new.self.all.items i.heard c.forget.new.self i.rewound c.args.link c.forget.ensures c.remove.ensures.rising
    (λ q. ap (row_at q) c.remove.ensures.rows ∙ at_gone c.args.link q i.rows.all.items c.self.invariant.rising) c.self.invariant

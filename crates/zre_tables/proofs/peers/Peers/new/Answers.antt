use Rattle.zre_tables.proofs.SumsAgreeWithRows.{none_agree}
use Rattle.zre_tables.proofs.peers.Peers.new.Goals as goal

pub invariant_of-result : goal.invariant_of-result
invariant_of-result c = none_agree c.new.result.all.items c.new-2.result c.new.ensures.empty c.new-2.ensures c.new.ensures.rising

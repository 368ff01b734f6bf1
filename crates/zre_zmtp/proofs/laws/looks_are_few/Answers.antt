use Rattle.zre_zmtp.specs.Stream.{Any, Traffic}
use Rattle.zre_zmtp.proofs.LooksByTurn.{nothing_kept, all_paid}
use Rattle.zre_zmtp.proofs.laws.looks_are_few.Goals as goal

pub returns-clause-looks : goal.returns-clause-looks
returns-clause-looks g c = all_paid c.feed_pieces_counted.result _ _ _ _ _ (nothing_kept Any Traffic _ c.traffic-reader.ensures) c.feed_pieces_counted.ensures.looks.paid

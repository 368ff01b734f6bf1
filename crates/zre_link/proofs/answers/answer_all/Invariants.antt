use Rattle.std.proofs.Common.{length}
use Rattle.zre_zmtp.specs.Ping.{contexts_in}
use Rattle.zre_link.proofs.PongsQueued.{IsAnswering}
use Rattle.zre_link.proofs.answers.answer_all.Given as goal

abbrev pub invariant-items : goal.invariant-items
invariant-items l = IsAnswering (contexts_in l.items) (contexts_in l.rest) l.initial.queue l.queue l.initial.written l.written

abbrev pub decreases-items : goal.decreases-items
decreases-items l = length l.rest

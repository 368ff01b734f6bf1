use Rattle.std.proofs.Common.{sym, ◌∙◌}
use Rattle.zre_shared.proofs.FramesOfWrites.{write_of-some}
use Rattle.zre_shared.proofs.replica.Replica.take.Goals as goal

pub put-requires : goal.put-requires
put-requires c = (write_of-some c.args.frame.now c.in-Some.write (sym c.in_ok-write.ensures ∙ c.in-Some.is)).is

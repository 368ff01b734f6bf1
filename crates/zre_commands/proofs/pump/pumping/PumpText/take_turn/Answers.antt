use Rattle.std.proofs.Common.{arith}
use Rattle.std.proofs.lemmas.List.{length-take}
use Rattle.zre_commands.proofs.pump.PumpProgress.{turned}
use Rattle.zre_commands.proofs.pump.pumping.PumpText.take_turn.Goals as goal

pub returns-clause-turned : goal.returns-clause-turned
returns-clause-turned g c = λ o h going. turned c.tell-next.result _ _ o _ _ _ _ _ _ (omega (arith, length-take c.in-Ok.read c.read.new.buf, c.in-Ok.ensures.bound, c.if-read-eq0.false)) (c.tell-next.ensures.told o h going)

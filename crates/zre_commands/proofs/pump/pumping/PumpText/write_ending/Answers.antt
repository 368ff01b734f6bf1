use Rattle.std.proofs.Common.{[]}
use Rattle.zre_outside.proofs.AnswersThatAreErrors.{on_err}
use Rattle.zre_outside.proofs.GatheredText.{through_end}
use Rattle.zre_commands.proofs.pump.pumping.PumpText.write_ending.Goals as goal

pub returns-in_err-write_gathered-clause-front : goal.returns-in_err-write_gathered-clause-front
returns-in_err-write_gathered-clause-front g c = λ o h e.
    let t = (g.M.Machine.says c.args.machine.now).ending o in
    on_err c.from_residual-in_err-write_gathered.result (through_end [] _ _ _ _ t (rw c.clear.ensures at (c.in_ok-is_bad.ensures.ending o h e)) c.in_err-write_gathered.ensures.front)

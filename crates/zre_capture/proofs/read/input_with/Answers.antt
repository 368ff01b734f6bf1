use Rattle.zre_outside.specs.declared.entry.Input.TheVariants as got
use Rattle.zre_capture.proofs.FieldByField.{never_alone}
use Rattle.zre_capture.proofs.read.input_with.Goals as goal

pub returns-in-Tick : goal.returns-in-Tick
returns-in-Tick c = rw c.in-Tick.is (never_alone got.Tick c.args.rest.now)

pub returns-in-End : goal.returns-in-End
returns-in-End c = rw c.in-End.is (never_alone got.End c.args.rest.now)

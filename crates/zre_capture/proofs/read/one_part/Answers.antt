use Rattle.std.proofs.Common.{sym}
use Rattle.zre_capture.proofs.FieldByField.{one-whole, one-cut}
use Rattle.zre_capture.proofs.read.one_part.Goals as goal

pub returns-in-None : goal.returns-in-None
returns-in-None c = sym (one-whole c.args.octet c.args.text.now c.in-None.ensures.none)

pub returns-in-Some : goal.returns-in-Some
returns-in-Some c = sym (one-cut c.args.octet c.args.text.now c.in-Some.field-0.0.now c.in-Some.field-0.1.now c.in-Some.ensures.parts c.in-Some.ensures.first)

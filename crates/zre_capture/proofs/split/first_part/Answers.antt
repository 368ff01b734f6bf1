use Rattle.zre_capture.proofs.TextParts.{between-cut, between-whole}
use Rattle.zre_capture.proofs.split.first_part.Goals as goal

pub returns-in_err-first-clause-parts : goal.returns-in_err-first-clause-parts
returns-in_err-first-clause-parts c = rw c.from_residual.ensures (between-whole c.args.octet c.args.text.now c.in_err-first.ensures.none)

pub returns-clause-parts : goal.returns-clause-parts
returns-clause-parts c = between-cut c.args.octet c.args.text.now c.in_ok-first.first.now c.in_ok-first.rest.now c.in_ok-first.ensures.parts c.in_ok-first.ensures.first

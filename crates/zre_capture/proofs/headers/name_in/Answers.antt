use Rattle.zre_capture.specs.Parts.{between}
use Rattle.std.proofs.Common.{[]}
use Rattle.zre_capture.proofs.TextParts.{between-cut, between-whole}
use Rattle.zre_capture.proofs.HeaderLists.{name_first}
use Rattle.zre_capture.proofs.headers.name_in.Goals as goal

pub returns-in-Some : goal.returns-in-Some
returns-in-Some c =
    name_first (between 61 c.args.member.now) c.in-Some.name.now (between 61 c.in-Some.field-0-1.now) (between-cut 61 c.args.member.now c.in-Some.name.now c.in-Some.field-0-1.now c.in-Some.ensures.parts c.in-Some.ensures.first)

pub returns-in-None : goal.returns-in-None
returns-in-None c = name_first (between 61 c.args.member.now) c.args.member.now [] (between-whole 61 c.args.member.now c.in-None.ensures.none)

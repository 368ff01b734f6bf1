use Rattle.std.proofs.Common.{sym, ◌∙◌}
use Rattle.zre_net.proofs.TextLineByLine.{head-cut, head-whole, moves-whole}
use Rattle.zre_net.proofs.reading.reader.MoveReader.new.Goals as goal

pub returns-in-Some : goal.returns-in-Some
returns-in-Some c = sym (head-cut c.args.text.now c.in-Some.field-0-0.now c.in-Some.rest.now c.in-Some.ensures.parts c.in-Some.ensures.first)

pub returns-in-None : goal.returns-in-None
returns-in-None c = moves-whole c.args.text.now c.in-None.ensures.none ∙ sym (head-whole c.args.text.now c.in-None.ensures.none)

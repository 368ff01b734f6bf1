use Rattle.std.proofs.Common.{rules}
use Rattle.zre_tests.proofs.pipes.both_talk.Goals as goal

pub returns-clause-pipes : goal.returns-clause-pipes
returns-clause-pipes g c = c.given_back.ensures.pipes c.args.pipes.now (search rules) (search rules)

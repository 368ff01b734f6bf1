use Rattle.std.proofs.Common.{◌++◌}
use Rattle.zre_records.proofs.audit.AuditorAtEnd.{nothing_written}
use Rattle.zre_records.proofs.audit.auditor.AuditorMachine.feed.Goals as goal

pub returns-clause-fed : goal.returns-clause-fed
returns-clause-fed c = λ o f going. c.in_ok-take.ensures o f going

pub returns-clause-text : goal.returns-clause-text
returns-clause-text c = λ o f going. nothing_written o c.args.piece.now c.args._out.now

pub returns-clause-stop : goal.returns-clause-stop
returns-clause-stop c = λ o f going. c.going.ensures (o ++ c.args.piece.now) (c.in_ok-take.ensures o f going)

use Rattle.std.proofs.Common.{sym, append-nil}
use Rattle.zre_records.proofs.table.tabulator.TabulatorMachine.begin.Goals as goal

pub returns : goal.returns
returns c = record { head = λ _. sym (append-nil c.args._out.now) }

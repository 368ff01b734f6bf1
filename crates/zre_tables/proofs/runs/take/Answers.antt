use Rattle.std.proofs.Common.{refl}
use Rattle.zre_tables.proofs.RunsOfRows.{run_in, of_err}
use Rattle.zre_values.proofs.AnswersThatAreOk.{on_ok}
use Rattle.zre_tables.proofs.runs.take.Goals as goal

pub returns-in-Some-clause-ok : goal.returns-in-Some-clause-ok
returns-in-Some-clause-ok c = λ n id ms h.
    let r = run_in n id ms c.args.peer.now.run c.in-Some.running h c.in-Some.is in
    on_ok c.go_on.result (c.go_on.ensures.ok n id ms r) (λ a. (a.0, (c.go_on.new.running, refl, a.1), a.2))

pub returns-in-Some-clause-refused : goal.returns-in-Some-clause-refused
returns-in-Some-clause-refused c = λ n id ms h.
    let r = run_in n id ms c.args.peer.now.run c.in-Some.running h c.in-Some.is in
    of_err c.go_on.result (c.go_on.ensures.refused n id ms r) (λ e a other.
    let f = a other in
    (f.0, f.1, (c.go_on.new.running, refl, f.2, f.3), f.4))

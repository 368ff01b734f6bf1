use Rattle.std.proofs.Common.{Ok, Err}
use Rattle.std.proofs.lemmas.Result.{err_from_is_err_and}
use Rattle.zre_peer.proofs.RunsOfNumberedLists.{keeps_its_list}
use Rattle.zre_peer.proofs.peer_run.Run.next.Goals as goal

pub returns-clause-ledger : goal.returns-clause-ledger
returns-clause-ledger c = λ ms s. keeps_its_list {A = Unit {0}} (Ok tt) ms c.args.message (c.in_ok-take.ensures.ok ms s).1.ordered tt

pub returns-in_err-take-clause-ledger : goal.returns-in_err-take-clause-ledger
returns-in_err-take-clause-ledger c = λ ms s.
    let p = err_from_is_err_and c.from_residual.result c.from_residual.ensures.1 in
    rw (p.1, p.2)
    (keeps_its_list {A = Unit {0}} (Err c.in_err-take.field-0.0) ms c.args.message tt (λ ne. let h = c.in_err-take.ensures.refused ms s ne in (h.0, h.2)))

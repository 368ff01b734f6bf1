use Rattle.std.proofs.Common.{◌≡◌, sym, subst}
use Rattle.std.specs.Prelude.{OnOk}
use Rattle.std.specs.List.{AllByRecursion}
use Rattle.zre_net.specs.Agreement.{IsAgreed}
use Rattle.zre_net.specs.Said.{said as said_by}
use Rattle.zre_net.proofs.SchedulesAgree.{ran_agreed}
use Rattle.zre_net.proofs.CarriedOctets.{MayStart}
use Rattle.zre_net.proofs.FieldsOfStarts.{are_fielded}
use Rattle.zre_net.proofs.running.schedule.run_schedule.Goals as goal

pub returns-clause-agreed : goal.returns-clause-agreed
returns-clause-agreed c =
    let e = c.moves.ensures in
    subst (λ ms. OnOk c.run.result (IsAgreed ms)) e (ran_agreed c.run.result c.moves.result (subst (AllByRecursion MayStart) (sym e) (are_fielded c.args.schedule.now)) (λ answer. answer ≡ said_by c.moves.result) c.run.ensures.told)

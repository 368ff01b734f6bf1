use Rattle.std.proofs.Common.{◌≡◌, ◌≢◌, ◌<◌, ◌≤◌, ℕ, Bool, List, false, true, length, Result, Ok, Err, ap, sym, subst, ◌∙◌, arith}
use Rattle.std.specs.Result.{IfErr, IsErrAnd}
use Rattle.std.proofs.lemmas.Bool.{false≢true}
use Rattle.zre_values.specs.declared.limits.TheConstants.{OWN_GROUPS}
use Rattle.zre_group.specs.JoinFault.{IsCause}
use Rattle.zre_group.specs.Own.{OwnGroups, is_joined}
use Rattle.zre_group.specs.declared.own.JoinFault.{JoinFault}
use Rattle.zre_group.specs.declared.own.JoinFault.TheVariants.{OutOfMemory}
use Rattle.zre_group.proofs.own.Own.join.Goals as goal

-- the test of the fields is the test of the value
test_is : (inside now : OwnGroups) (group : List ℕ) (found b : Bool) → inside ≡ now → found ≡ is_joined inside group → found ≡ b → is_joined now group ≡ b
test_is inside now group found b view test is = ap (λ (own : OwnGroups). is_joined own group) (sym view) ∙ sym test ∙ is

not_joined : (inside now : OwnGroups) (group : List ℕ) (found : Bool) (P : Type 0) → inside ≡ now → found ≡ is_joined inside group → found ≡ false → is_joined now group ≡ true → P
not_joined inside now group found P view test is joined = absurd (false≢true (sym (test_is inside now group found false view test is) ∙ joined))

memory_alone : (r : Result ℕ JoinFault) (inside now : OwnGroups) (group : List ℕ) (found : Bool) → IsErrAnd r (λ fault. fault ≡ OutOfMemory) → inside ≡ now → found ≡ is_joined inside group → found ≡ false → length inside.groups ≤ OWN_GROUPS → length inside.groups ≢ OWN_GROUPS → IfErr r (IsCause now group)
memory_alone (Ok status) inside now group found fault view test is most other = tt
memory_alone (Err e) inside now group found fault view test is most other =
    subst (IsCause now group) (sym fault)
    (test_is inside now group found false view test is, subst (λ (own : OwnGroups). length own.groups < OWN_GROUPS) view (omega arith))

pub returns-then-contains-clause-limit : goal.returns-then-contains-clause-limit
returns-then-contains-clause-limit c = λ apart _.
    absurd (false≢true (sym apart ∙ test_is _ c.args.self.now c.args.group.now c.contains.result true c.self.view_is c.contains.ensures c.if-contains.true))

pub returns-then-len-eq-OWN_GROUPS-clause-same : goal.returns-then-len-eq-OWN_GROUPS-clause-same
returns-then-len-eq-OWN_GROUPS-clause-same c = not_joined _ c.args.self.now c.args.group.now c.contains.result _ c.self.view_is c.contains.ensures c.if-contains.false

pub returns-in_err-copy-clause-same : goal.returns-in_err-copy-clause-same
returns-in_err-copy-clause-same c = not_joined _ c.args.self.now c.args.group.now c.contains.result _ c.self.view_is c.contains.ensures c.if-contains.false

pub returns-in_err-copy-clause-cause : goal.returns-in_err-copy-clause-cause
returns-in_err-copy-clause-cause c =
    memory_alone c.from_residual.result _ c.args.self.now c.args.group.now c.contains.result c.from_residual.ensures.1 c.self.view_is c.contains.ensures c.if-contains.false
    c.self.invariant (λ e. c.if-len-eq-OWN_GROUPS.false (c.len.ensures ∙ e))

pub returns-in_err-push-clause-same : goal.returns-in_err-push-clause-same
returns-in_err-push-clause-same c = not_joined _ c.args.self.now c.args.group.now c.contains.result _ c.self.view_is c.contains.ensures c.if-contains.false

pub returns-in_err-push-clause-cause : goal.returns-in_err-push-clause-cause
returns-in_err-push-clause-cause c =
    memory_alone c.from_residual-in_err-push.result _ c.args.self.now c.args.group.now c.contains.result c.from_residual-in_err-push.ensures.1 c.self.view_is c.contains.ensures c.if-contains.false
    c.self.invariant (λ e. c.if-len-eq-OWN_GROUPS.false (c.len.ensures ∙ e))

pub returns-clause-same : goal.returns-clause-same
returns-clause-same c = not_joined _ c.args.self.now c.args.group.now c.contains.result _ c.self.view_is c.contains.ensures c.if-contains.false

use Rattle.std.proofs.Common.{◌≡◌, ◌++◌, ◌∙◌, List, ap, sym, subst, ℕ}
use Rattle.std.specs.Prelude.{IfSome}
use Rattle.std.proofs.lemmas.Bool.{OnTrue_at}
use Rattle.zre_peer.specs.declared.event.Event.{Event}
use Rattle.zre_net.specs.Said.{said}
use Rattle.zre_net.proofs.HandedOutEvents.{said_on}
use Rattle.zre_net.proofs.MovesInTurn.{goes_first, none_came, next_stops, next_comes, all_came}
use Rattle.zre_records.specs.simulate.Simulate.{told_lines}
use Rattle.zre_records.proofs.simulate.answer.try_moves.Goals as goal

pub lines-init : goal.lines-init
lines-init c = none_came _ _ (goes_first c.in_ok-network.network c.in_ok-network.ensures, c.new-2.ensures)

pub returns-then-not-branch-clause-refused : goal.returns-then-not-branch-clause-refused
returns-then-not-branch-clause-refused c =
    let l = c.lines in let p = l.invariant in
    next_stops _ _ _ (λ came. IfSome l.kept (λ text. text ≡ told_lines (said came))) l.line l.network _ c.in-Some.one p c.in_ok-one.ensures c.in-Some.is (sym c.if-not-branch.true ∙ c.in_ok-take.ensures.good p.came p.is.0.runs)

pub lines-preserved : goal.lines-preserved
lines-preserved c =
    let l = c.lines in let p = l.invariant in let good = c.if-not-branch.false in let took = c.in_ok-take.ensures in
    next_comes _ _ _ (λ came. IfSome l.kept (λ text. text ≡ told_lines (said came))) l.line l.network _ c.in-Some.one p c.in_ok-one.ensures c.in-Some.is
    (λ came. IfSome c.keep_told.new.kept (λ text. text ≡ told_lines (said came))) _ c.take.new.self c.in-Some-checked_add.ensures.1 (OnTrue_at good (took.runs p.came p.is.0.runs))
    (subst (λ (es : List (ℕ × Event)). IfSome c.keep_told.new.kept (λ text. text ≡ told_lines es))
    (ap (λ es. said p.came ++ es) (c.as_slice.ensures ∙ OnTrue_at good (took.told p.came p.is.0.runs)) ∙ sym (said_on p.came c.in-Some.one))
    (c.in_ok-keep_told.ensures (said p.came) p.is.1))

pub returns-clause-told : goal.returns-clause-told
returns-clause-told c =
    let all = all_came _ _ _ _ _ c.lines.invariant c.in_ok-one.ensures c.in_default.is in
    (all.0.runs.all_good, all.1)

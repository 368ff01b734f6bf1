use Rattle.std.proofs.Common.{[], ◌∷◌, ◌++◌, None, ap, sym, ◌∙◌, subst, is_some}
use Rattle.zre_audit.specs.Told.{Runs}
use Rattle.zre_audit.proofs.RunsOfOnePeer.{Changes, changed, found}
use Rattle.zre_audit.proofs.peer_runs.begin.Goals as goal

pub returns-in-Some : goal.returns-in-Some
returns-in-Some c =
    let some = sym c.in-Some.ensures.value in
    let x = c.push.new.self in
    let n = c.get_mut.follows.lender x in
    changed c.args.runs.now n c.args.id.0 x (λ xs. xs ++ [] ∷ []) ((c.get_mut.follows.holds x).3 (ap is_some some)).0
    (c.in_ok-push.ensures.ok ∙ ap (λ o. c.in-Some.lists.now ++ o ∷ []) c.new.ensures ∙ ap (λ xs. xs ++ [] ∷ []) (sym (found c.args.runs.now c.args.id.0 _ c.in-Some.ensures.value)))

pub returns : goal.returns
returns c =
    let x = c.of.result in
    let n = c.insert.new.self in
    let same = c.get_mut.follows.holds-at-none in
    changed c.args.runs.now n c.args.id.0 x (λ xs. xs ++ [] ∷ []) (subst (λ (b : Runs). Changes b n c.args.id.0 x) same c.in_ok-insert.ensures.updates.0)
    (c.of.ensures ∙ ap (λ o. o ∷ []) c.new-2.ensures ∙ sym (ap (λ xs. xs ++ [] ∷ []) (found c.args.runs.now c.args.id.0 None c.in_default.ensures.value)))

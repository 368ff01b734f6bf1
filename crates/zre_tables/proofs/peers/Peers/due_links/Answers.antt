use Rattle.std.proofs.Common.{ℕ, ◌==◌, List, is_some, ap, sym, ◌∙◌, subst, refl, ◌-◌, ◌^◌}
use Rattle.std.proofs.lemmas.Result.{IfOk-weaker}
use Rattle.std.specs.List.{list_any}
use Rattle.std.specs.List.Sorted.{IsStrictlyIncreasing}
use Rattle.std.specs.Map.{keys_of}
use Rattle.zre_tables.specs.declared.peer.Peer.{Peer}
use Rattle.zre_tables.specs.Rows.{row_at}
use Rattle.zre_tables.specs.Searches.{row_silent}
use Rattle.zre_tables.proofs.ListedRows.{all_keys, among_keys}
use Rattle.zre_tables.proofs.SumsAgreeWithRows.{rests, idle_by}
use Rattle.zre_tables.proofs.peers.Peers.due_links.Goals as goal

pub returns-then-self-clause-rising : goal.returns-then-self-clause-rising
returns-then-self-clause-rising c =
    IfOk-weaker c.links.result _ _ (λ links e. subst IsStrictlyIncreasing (sym (e ∙ ap (λ (es : List (ℕ × Peer)). keys_of es) (sym c.self.view_is)))
    (all_keys (row_silent c.args.span c.args.now) c.self.inside.rows.all.items c.self.invariant.rising)) c.links.ensures

pub returns-then-self-clause-all : goal.returns-then-self-clause-all
returns-then-self-clause-all c =
    IfOk-weaker c.links.result _ _ (λ links e n x at t. ap (λ (xs : List ℕ). list_any (λ k. k == n) xs) e ∙ among_keys (row_silent c.args.span c.args.now) c.args.self.now n x at) c.links.ensures

pub returns-clause-all : goal.returns-clause-all
returns-clause-all c = λ n x at t.
    let h = c.self.invariant.times in
    let here = ap (row_at n) c.self.view_is ∙ at in
    c.in_ok-due.ensures.expired.members n ∙ rests _ _ c.in-Some.latest _ refl (h.timed n ∙ ap is_some here)
    (idle_by _ x.active (2 ^ 64 - 1) c.in-Some.latest (h.moments c.if-self.false n x here) (h.past n) (λ m. c.in-Some.ensures x.active m t))

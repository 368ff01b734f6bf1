use Rattle.std.proofs.Common.{ℕ, ◌==◌, List, ap, sym, ◌∙◌, subst, rules}
use Rattle.std.proofs.lemmas.Result.{IfOk-weaker}
use Rattle.std.specs.List.{list_any}
use Rattle.std.specs.List.Sorted.{IsStrictlyIncreasing}
use Rattle.zre_tables.specs.declared.peer.Peer.{Peer}
use Rattle.zre_tables.specs.Rows.{numbers_of, row_at}
use Rattle.zre_tables.specs.Searches.{row_silent}
use Rattle.zre_tables.proofs.ListedRows.{same_numbers}
use Rattle.zre_tables.proofs.peers.Peers.silent.Goals as goal

pub returns-clause-found : goal.returns-clause-found
returns-clause-found c =
    let i = c.self.inside in
    let test = row_silent c.args.limit c.args.now in
    let seen = c.self.view_is ∙ c.in_ok-links.ensures.rows in
    let rising = subst IsStrictlyIncreasing (sym c.as_slice.ensures) c.in_ok-links.ensures.rising in
    IfOk-weaker c.among.result _ _ (λ found e.
    e ∙ same_numbers test i.rows.all.items c.as_slice.result.now c.self.invariant.rising rising
    (λ n x at t. ap (λ (xs : List ℕ). list_any (λ k. k == n) xs) c.as_slice.ensures ∙ c.in_ok-links.ensures.all n x (ap (row_at n) (sym seen) ∙ at) t)
    ∙ ap (λ (es : List (ℕ × Peer)). numbers_of test es) seen) (c.among.ensures test (λ x b r. search rules))

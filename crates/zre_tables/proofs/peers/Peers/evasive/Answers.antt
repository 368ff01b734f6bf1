use Rattle.std.proofs.Common.{ℕ, ◌==◌, List, ap, sym, ◌∙◌, subst, rules}
use Rattle.std.proofs.lemmas.Bool.{and_parts}
use Rattle.std.proofs.lemmas.Result.{IfOk-weaker}
use Rattle.std.specs.List.{list_any}
use Rattle.std.specs.List.Sorted.{IsStrictlyIncreasing}
use Rattle.std.specs.Prelude.{◌&&◌, not, is_some}
use Rattle.zre_tables.specs.declared.peer.Peer.{Peer}
use Rattle.zre_tables.specs.Rows.{numbers_of, row_at}
use Rattle.zre_tables.specs.Searches.{row_silent, row_evasive}
use Rattle.zre_tables.proofs.ListedRows.{same_numbers}
use Rattle.zre_tables.proofs.peers.Peers.evasive.Goals as goal

pub returns-then-not-are_many-clause-found : goal.returns-then-not-are_many-clause-found
returns-then-not-are_many-clause-found c =
    let i = c.self-then-not-self.inside in
    let test = row_evasive c.args.evasive c.args.expired c.args.now in
    let seen = c.self-then-not-self.view_is ∙ c.in_ok-links.ensures.rows in
    let rising = subst IsStrictlyIncreasing (sym c.as_slice-due.ensures) c.in_ok-links.ensures.rising in
    IfOk-weaker c.among.result _ _ (λ found e.
    e ∙ same_numbers test i.rows.all.items c.as_slice-due.result.now c.self-then-not-self.invariant.rising rising
    (λ n x at t. ap (λ (xs : List ℕ). list_any (λ k. k == n) xs) c.as_slice-due.ensures ∙ c.in_ok-links.ensures.all n x (ap (row_at n) (sym seen) ∙ at)
    (and_parts (is_some x.run && not (row_silent c.args.expired c.args.now x)) (row_silent c.args.evasive c.args.now x) t).1)
    ∙ ap (λ (es : List (ℕ × Peer)). numbers_of test es) seen) (c.among.ensures test (λ x b r. search rules))

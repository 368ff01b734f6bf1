use Rattle.std.proofs.Common.{◌≡◌, ℕ, ◌≤◌, List, None, Some, length, nat_cmp, Result, Ok, Err, IfOk, IfErr, subst, rules}
use Rattle.std.proofs.lemmas.List.Sorted.{answers_always}
use Rattle.std.specs.BTreeMap.{insert_entry}
use Rattle.std.specs.List.{insert, slice_get}
use Rattle.std.specs.List.Sorted.{IsStrictlySortedBy, IsBinarySearchResult, IsSearchInRange}
use Rattle.std.specs.Map.{keys_of}
use Rattle.zre_tables.specs.Rows.{row_at}
use Rattle.zre_tables.proofs.RowsInOrder.{search_ok, search_err, absent, come}
use Rattle.zre_tables.proofs.rows.Rows.search.Goals as goal

is_there : {V : Type 0} (es : List (ℕ × V)) (n : ℕ) (r : Result ℕ ℕ) → IsSearchInRange r (length es) → IsBinarySearchResult (λ (e : ℕ × V). nat_cmp e.0 n) es r
    → IfOk r (λ i. (x : V) × (slice_get es i ≡ Some (n, x)))
is_there es n (Ok i) l h = search_ok es n i l h
is_there es n (Err i) l h = tt

is_not : {V : Type 0} (es : List (ℕ × V)) (n : ℕ) (r : Result ℕ ℕ) → IsStrictlySortedBy nat_cmp (keys_of es) → IsSearchInRange r (length es) → IsBinarySearchResult (λ (e : ℕ × V). nat_cmp e.0 n) es r
    → IfErr r (λ i. (i ≤ length es) × (row_at n es ≡ None) × ((x : V) → insert es i (n, x) ≡ insert_entry nat_cmp es n x))
is_not es n (Ok i) up l h = tt
is_not es n (Err i) up l h = let p = search_err es n i up h in (l, absent es n i p, λ x. come es n i x l p)

pub returns-clause-ok : goal.returns-clause-ok
returns-clause-ok g c =
    let by_number = c.binary_search_by_key.ensures.position (λ e. e.0) (answers_always _ _ _ (λ f a r h called. search rules)) in
    subst (λ es. IfOk c.binary_search_by_key.result (λ i. (x : _) × (slice_get es i ≡ Some (c.args.number, x)))) c.deref.ensures.value
    (is_there c.deref.result.now c.args.number c.binary_search_by_key.result c.binary_search_by_key.ensures.bound by_number)

pub returns-clause-err : goal.returns-clause-err
returns-clause-err g c =
    let by_number = c.binary_search_by_key.ensures.position (λ e. e.0) (answers_always _ _ _ (λ f a r h called. search rules)) in
    rw (← c.deref.ensures.value) (is_not c.deref.result.now c.args.number c.binary_search_by_key.result (rw c.deref.ensures.value c.requires) c.binary_search_by_key.ensures.bound by_number)

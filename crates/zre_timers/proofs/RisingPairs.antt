-- The keys of a part of the queue, sorted, are those whose moments are in its range.
use Rattle.std.proofs.Common.{◌≡◌, ℕ, ◌<◌, ◌^◌, ◌-◌, ◌==◌, ◌&&◌, ◌||◌, not, nat_le, Bool, true, false, cond, List, [], ◌∷◌, Option, Some, None, IsSome, map, refl, sym, ap, ◌∙◌, subst, arith}
use Rattle.std.specs.declared.ops.Bound.TheVariants.{Included}
use Rattle.std.specs.BTreeMap as tree
use Rattle.std.specs.BTreeMap.{is_at}
use Rattle.std.specs.BTreeMap.Range.{range_contains}
use Rattle.std.specs.BTreeSet as set
use Rattle.std.specs.Cmp.{nat_eq_equiv}
use Rattle.std.specs.List.{list_any, filter, AllByRecursion, IsDistinct}
use Rattle.std.specs.List.Sorted.{IsPermutation, IsSorted}
use Rattle.std.specs.Option.{option_map_or}
use Rattle.std.specs.Ordering.{nat_cmp, ordering_then, is_le, is_lt, eq_by_cmp}
use Rattle.std.proofs.lemmas.Bool.{eqb-true, eq-eqb, false≢true, or_right, and_parts, and_from}
use Rattle.std.proofs.lemmas.Bool.Decides.{nat_tests}
use Rattle.std.proofs.lemmas.List.Sorted.{list_any-IsPermutation, IsNonDecreasingBy-from_sort}
use Rattle.std.proofs.lemmas.Map.Keys.{IsDistinct-from_sorted, IsDistinct-IsPermutation, IsStrictlyIncreasing-from_distinct}
use Rattle.zre_values.specs.Keys.{IsRisingListOf}
use Rattle.zre_timers.specs.Agreement.{Agree, by_moment}
use Rattle.zre_timers.proofs.PairsInBothSets.{same_pair, is_this}

-- ---- the range, pair by pair

abbrev pub between : ℕ → ℕ → ℕ × ℕ → Bool
between first last = range_contains by_moment (Included (first, 0)) (Included (last, 2 ^ 64 - 1))

from_first : (first a k : ℕ) → is_le (ordering_then (nat_cmp first a) (nat_cmp 0 k)) ≡ nat_le first a
from_first first a k = grind (arith, nat_tests)

up_to_last : (last a k : ℕ) → k < 2 ^ 64 → not (is_lt (ordering_then (nat_cmp last a) (nat_cmp (2 ^ 64 - 1) k))) ≡ nat_le a last
up_to_last last a k fits = grind (arith, nat_tests)

between_moments : (first last a k : ℕ) → k < 2 ^ 64 → between first last (a, k) ≡ (nat_le first a && nat_le a last)
between_moments first last a k fits i = from_first first a k i && up_to_last last a k fits i

-- ---- lists of pairs

abbrev has : List (ℕ × ℕ) → ℕ × ℕ → Bool
has qs q = list_any (is_at (by_moment q)) qs

has_itself : (q : ℕ × ℕ) → is_at (by_moment q) q ≡ true
has_itself q = same_pair q.0 q.1 q.0 q.1 ∙ and_from (q.1 == q.1) (q.0 == q.0) (eq-eqb q.1 q.1 refl) (eq-eqb q.0 q.0 refl)

-- a pair that passes a test is in the list
any_gives : (test : ℕ × ℕ → Bool) (P : Type 0) (qs : List (ℕ × ℕ)) → ((q : ℕ × ℕ) → test q ≡ true → has qs q ≡ true → P) → list_any test qs ≡ true → P
any_gives test P [] gives one = absurd (false≢true one)
any_gives test P (q ∷ qs) gives one =
    elim (test q) as (λ b. test q ≡ b → (b || list_any test qs) ≡ true → P) [
      | true ↦ λ e _. gives q e (ap (λ b. b || has qs q) (has_itself q))
      | false ↦ λ _ rest. any_gives test P qs (λ x e there. gives x e (or_right (is_at (by_moment x) q) (has qs x) there)) rest
    ] refl one

any_other : (test other : ℕ × ℕ → Bool) → ((q : ℕ × ℕ) → test q ≡ true → other q ≡ true) → (qs : List (ℕ × ℕ)) → list_any test qs ≡ true → list_any other qs ≡ true
any_other test other implies [] one = one
any_other test other implies (q ∷ qs) one =
    elim (test q) as (λ b. test q ≡ b → (b || list_any test qs) ≡ true → (other q || list_any other qs) ≡ true) [
      | true ↦ λ e _. ap (λ b. b || list_any other qs) (implies q e)
      | false ↦ λ _ rest. or_right (other q) (list_any other qs) (any_other test other implies qs rest)
    ] refl one

any_key : (test : ℕ × ℕ → Bool) (key : ℕ) (qs : List (ℕ × ℕ)) → list_any (λ k. k == key) (map (λ q. q.1) (filter test qs)) ≡ list_any (λ q. test q && (q.1 == key)) qs
any_key test key [] = refl
any_key test key (q ∷ qs) =
    elim (test q) as (λ b. list_any (λ k. k == key) (map (λ p. p.1) (cond b (q ∷ filter test qs) (filter test qs))) ≡ ((b && (q.1 == key)) || list_any (λ p. test p && (p.1 == key)) qs)) [
      | true ↦ ap (λ b. (q.1 == key) || b) (any_key test key qs)
      | false ↦ any_key test key qs
    ]

both_ways : (a b : Bool) → (a ≡ true → b ≡ true) → (b ≡ true → a ≡ true) → a ≡ b
both_ways true b f g = sym (f refl)
both_ways false true f g = g refl
both_ways false false f g = refl

-- ---- a key that has at most one pair

some_is : (o : Option ℕ) (a : ℕ) → is_this o a ≡ true → o ≡ Some a
some_is None a e = absurd (false≢true e)
some_is (Some m) a e = ap Some (eqb-true m a e)

module _ (key first last : ℕ) (qs : List (ℕ × ℕ)) (o : Option ℕ) (agree : (a : ℕ) → has qs (a, key) ≡ is_this o a) (small : IsSome o → key < 2 ^ 64) where
  abbrev is_found : ℕ × ℕ → Bool
  is_found q = between first last q && (q.1 == key)

  moment_of_pair : (q : ℕ × ℕ) → q.1 ≡ key → has qs q ≡ true → o ≡ Some q.0
  moment_of_pair q same there = some_is o q.0 (sym (agree q.0) ∙ ap (λ k. has qs (q.0, k)) (sym same) ∙ there)

  found_is_in : (q : ℕ × ℕ) → is_found q ≡ true → has qs q ≡ true → option_map_or (λ at. nat_le first at && nat_le at last) o false ≡ true
  found_is_in q e there =
      let parts = and_parts (between first last q) (q.1 == key) e in
      let same : q.1 ≡ key = eqb-true q.1 key parts.1 in
      let is : o ≡ Some q.0 = moment_of_pair q same there in
      ap (λ p. option_map_or (λ at. nat_le first at && nat_le at last) p false) is
      ∙ sym (between_moments first last q.0 q.1 (subst (λ (k : ℕ). k < 2 ^ 64) (sym same) (small (subst IsSome (sym is) refl))))
      ∙ parts.0

  in_is_found : (m : ℕ) → o ≡ Some m → (nat_le first m && nat_le m last) ≡ true → list_any is_found qs ≡ true
  in_is_found m is inside =
      let fits : key < 2 ^ 64 = small (subst IsSome (sym is) refl) in
      let there : has qs (m, key) ≡ true = agree m ∙ ap (λ p. is_this p m) is ∙ eq-eqb m m refl in
      any_other (is_at (by_moment (m, key))) is_found
      (λ q tie.
      let parts = and_parts (key == q.1) (m == q.0) (sym (same_pair m key q.0 q.1) ∙ tie) in
      let k : key ≡ q.1 = eqb-true key q.1 parts.0 in
      let a : m ≡ q.0 = eqb-true m q.0 parts.1 in
      and_from (between first last q) (q.1 == key)
      ((λ i. between first last (sym a i, sym k i)) ∙ between_moments first last m key fits ∙ inside)
      (eq-eqb q.1 key (sym k)))
      qs there

  found_by_moment : list_any is_found qs ≡ option_map_or (λ at. nat_le first at && nat_le at last) o false
  found_by_moment =
      both_ways (list_any is_found qs) _
      (any_gives is_found _ qs found_is_in)
      (elim o as (λ p. o ≡ p → option_map_or (λ at. nat_le first at && nat_le at last) p false ≡ true → list_any is_found qs ≡ true) [
        | None ↦ λ _ e. absurd (false≢true e)
        | Some m ↦ λ is e. in_is_found m is e
      ] refl)

-- ---- each key once

-- a key has one moment
abbrev OneEach : List (ℕ × ℕ) → Type 0
OneEach qs = (a b key : ℕ) → has qs (a, key) ≡ true → has qs (b, key) ≡ true → a ≡ b

apart_keys : (test : ℕ × ℕ → Bool) (q : ℕ × ℕ) (qs : List (ℕ × ℕ)) → AllByRecursion (λ p. is_at (by_moment q) p ≡ false) qs → ((p : ℕ × ℕ) → has qs p ≡ true → q.1 ≡ p.1 → q.0 ≡ p.0) → AllByRecursion (λ k. (q.1 == k) ≡ false) (map (λ p. p.1) (filter test qs))
apart_keys test q [] apart one = tt
apart_keys test q (p ∷ qs) apart one =
    let rest = apart_keys test q qs apart.1 (λ x there. one x (or_right (is_at (by_moment x) p) (has qs x) there)) in
    let differ : (q.1 == p.1) ≡ false =
    elim (q.1 == p.1) as (λ b. (q.1 == p.1) ≡ b → b ≡ false) [
      | true ↦ λ e.
          sym (and_from (q.1 == p.1) (q.0 == p.0) e (eq-eqb q.0 p.0 (one p (ap (λ b. b || has qs p) (has_itself p)) (eqb-true q.1 p.1 e))))
          ∙ sym (same_pair q.0 q.1 p.0 p.1) ∙ apart.0
      | false ↦ λ _. refl
    ] refl in
    elim (test p) as (λ b. AllByRecursion (λ k. (q.1 == k) ≡ false) (map (λ x. x.1) (cond b (p ∷ filter test qs) (filter test qs)))) [
      | true ↦ (differ, rest)
      | false ↦ rest
    ]

distinct_keys : (test : ℕ × ℕ → Bool) (qs : List (ℕ × ℕ)) → IsDistinct (eq_by_cmp by_moment) qs → OneEach qs → IsDistinct (λ x y. x == y) (map (λ q. q.1) (filter test qs))
unfolding IsDistinct
distinct_keys test [] apart one = tt
distinct_keys test (q ∷ qs) apart one =
    let rest = distinct_keys test qs apart.1 (λ a b k x y. one a b k (or_right (is_at (by_moment (a, k)) q) (has qs (a, k)) x) (or_right (is_at (by_moment (b, k)) q) (has qs (b, k)) y)) in
    let first = apart_keys test q qs apart.0 (λ p there same.
    one q.0 p.0 p.1 (ap (λ k. has (q ∷ qs) (q.0, k)) (sym same) ∙ ap (λ b. b || has qs q) (has_itself q)) (or_right (is_at (by_moment p) q) (has qs p) there)) in
    elim (test q) as (λ b. IsDistinct (λ x y. x == y) (map (λ x. x.1) (cond b (q ∷ filter test qs) (filter test qs)))) [
      | true ↦ (first, rest)
      | false ↦ rest
    ]

some_inj : (a b : ℕ) → Some a ≡ Some b → a ≡ b
some_inj a b e = cc

-- ---- together

pub rising_keys : (m : tree.BTreeMap ℕ ℕ) (queue : set.BTreeSet (ℕ × ℕ)) (first last : ℕ) (keys : List ℕ) → Agree m queue → set.IsOrdered by_moment queue → IsPermutation (map (λ q. q.1) (filter (between first last) queue.keys)) keys → IsSorted nat_cmp keys → IsRisingListOf (λ key. option_map_or (λ at. nat_le first at && nat_le at last) (tree.get nat_cmp m key) false) keys
rising_keys m queue first last keys agree ordered moved sorted =
    let one : OneEach queue.keys = λ a b key x y.
    some_inj a b (sym (some_is (tree.get nat_cmp m key) a (sym (agree.pairs a key) ∙ x)) ∙ some_is (tree.get nat_cmp m key) b (sym (agree.pairs b key) ∙ y)) in
    let distinct = distinct_keys (between first last) queue.keys (IsDistinct-from_sorted by_moment queue.keys ordered) one in
    record {
      rising = IsStrictlyIncreasing-from_distinct keys (IsNonDecreasingBy-from_sort (λ x. x) keys sorted) (IsDistinct-IsPermutation (λ x y. x == y) nat_eq_equiv.symm _ keys moved distinct);
      members = λ key. sym (list_any-IsPermutation (λ k. k == key) _ keys moved) ∙ any_key (between first last) key queue.keys
          ∙ found_by_moment key first last queue.keys (tree.get nat_cmp m key) (λ a. agree.pairs a key) (agree.small key);
    }

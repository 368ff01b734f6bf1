-- The offers of rows, found by the links on which something was put.
use Rattle.std.proofs.Common.{◌≡◌, ℕ, ◌+◌, ◌-◌, ◌<◌, ◌≤◌, ◌==◌, ◌&&◌, Bool, true, false, eqb, List, [], ◌∷◌, ◌++◌, length, take, map, filter, refl, sym, ap, ◌∙◌, arith, ⊎_elim, nat_cmp, eqb-true, append_assoc, subst}
use Rattle.std.proofs.lemmas.Bool.{cases_order}
use Rattle.std.proofs.lemmas.List.{map-append}
use Rattle.std.proofs.lemmas.List.Kept.{IsStrictlyIncreasing-filter, Contains-dedup_nat, Contains-from_dedup}
use Rattle.std.proofs.lemmas.List.Sorted.{list_any-IsPermutation}
use Rattle.std.proofs.lemmas.Map.Keys.{IsStrictlyIncreasing-dedup}
use Rattle.std.proofs.lemmas.Map.Views.{any-filter_same, list_any-from_Contains, Contains-from_any}
use Rattle.std.specs.Cmp.{nat_eq_equiv}
use Rattle.std.specs.List.{list_any, slice_index, dedup}
use Rattle.std.specs.List.Sorted.{IsSorted, IsPermutation, IsStrictlySortedBy, IsStrictlyIncreasing}
use Rattle.std.specs.Map.{keys_of}
use Rattle.zre_values.specs.Keys.{IsRisingListOf, same_rising_list}
use Rattle.zre_outside.specs.declared.act.Act.{Act}
use Rattle.zre_outside.specs.declared.act.Act.TheVariants as act
use Rattle.zre_link.specs.Link.{has_front}
use Rattle.zre_journal.proofs.NumberedLists.{eqb-comm}
use Rattle.zre_tables.specs.declared.peer.Peer.{Peer}
use Rattle.zre_tables.specs.Rows.{passes_at, numbers_of}
use Rattle.zre_tables.specs.Searches.{offered_among, row_offered}
use Rattle.zre_tables.proofs.ListedRows.{rising_numbers, found_more, not_found}

-- whether a link is among those on which something was put
abbrev is_pushed : List ℕ → ℕ → Bool
is_pushed pushed n = list_any (eqb n) pushed

-- the offers by the numbers of the rows that have something to send
offers_of_numbers : (pushed : List ℕ) (es : List (ℕ × Peer)) → offered_among pushed es ≡ map (λ l. act.Offer l) (filter (is_pushed pushed) (numbers_of row_offered es))
offers_of_numbers pushed [] = refl
offers_of_numbers pushed (e ∷ es) = by (offers_of_numbers pushed es) (is_pushed pushed e.0) refl (has_front e.1.link) refl
  where
    by : offered_among pushed es ≡ map (λ l. act.Offer l) (filter (is_pushed pushed) (numbers_of row_offered es)) → (a : Bool) → is_pushed pushed e.0 ≡ a → (b : Bool) → has_front e.1.link ≡ b
        → offered_among pushed (e ∷ es) ≡ map (λ l. act.Offer l) (filter (is_pushed pushed) (numbers_of row_offered (e ∷ es)))
    by r true p true q = rw (q, p) (ap (λ xs. act.Offer e.0 ∷ xs) r)
    by r true p false q = rw (q, p) r
    by r false p true q = rw (q, p) r
    by r false p false q = rw (q, p) r

-- a list with the same numbers, in the order of a test
pub same_members : (xs : List ℕ) (n : ℕ) → list_any (λ k. k == n) xs ≡ list_any (eqb n) xs
same_members [] n = refl
same_members (x ∷ xs) n = rw (eqb-comm x n, same_members xs n) refl

-- links that rise, as a list of themselves
pub rising_itself : (links : List ℕ) → IsStrictlyIncreasing links → IsRisingListOf (λ n. list_any (eqb n) links) links
rising_itself links up = record { rising = up; members = λ n. same_members links n }

both : (test other : ℕ → Bool) (ks : List ℕ) → IsRisingListOf other ks → IsRisingListOf (λ n. test n && other n) (filter test ks)
both test other ks r = record {
  rising = IsStrictlyIncreasing-filter test ks r.rising;
  members = λ n. any-filter_same (λ k. k == n) test (test n) (λ k e. ap test (eqb-true k n e)) ks ∙ ap (λ b. test n && b) (r.members n);
}

-- the offers by the links
pub offers_by_links : (pushed links : List ℕ) (es : List (ℕ × Peer)) → IsStrictlySortedBy nat_cmp (keys_of es) → IsRisingListOf (λ n. list_any (eqb n) pushed) links
    → map (λ l. act.Offer l) (filter (passes_at row_offered es) links) ≡ offered_among pushed es
offers_by_links pushed links es sorted r =
    ap (map (λ l. act.Offer l)) (same_rising_list (λ n. passes_at row_offered es n && list_any (eqb n) pushed) _ _
    (both (passes_at row_offered es) (λ n. list_any (eqb n) pushed) links r)
    (turned (both (is_pushed pushed) (passes_at row_offered es) (numbers_of row_offered es) (rising_numbers row_offered es sorted))))
    ∙ sym (offers_of_numbers pushed es)
  where
    swap : (a b : Bool) → (a && b) ≡ (b && a)
    swap true true = refl
    swap true false = refl
    swap false true = refl
    swap false false = refl

    turned : IsRisingListOf (λ n. is_pushed pushed n && passes_at row_offered es n) (filter (is_pushed pushed) (numbers_of row_offered es)) → IsRisingListOf (λ n. passes_at row_offered es n && list_any (eqb n) pushed) (filter (is_pushed pushed) (numbers_of row_offered es))
    turned x = record { rising = x.rising; members = λ n. x.members n ∙ swap (is_pushed pushed n) (passes_at row_offered es n) }

-- ---- the links in order

pub rises_more : (xs : List ℕ) (i : ℕ) → 1 ≤ i → slice_index xs (i - 1) < slice_index xs i → ((k : ℕ) → k + 1 < i → slice_index xs k < slice_index xs (k + 1)) → (k : ℕ) → k + 1 < i + 1 → slice_index xs k < slice_index xs (k + 1)
rises_more xs i low at so k lt = ⊎_elim last (λ h. ⊎_elim (λ l. so k l) (λ l. absurd (omega (arith, l, lt))) h) (cases_order (k + 1) i)
  where
    last : k + 1 ≡ i → slice_index xs k < slice_index xs (k + 1)
    last e =
        let m : i - 1 ≡ k = omega (arith, e) in
        subst (λ j. slice_index xs k < slice_index xs j) (sym e) (subst (λ j. slice_index xs j < slice_index xs i) m at)

-- the numbers of a list, sorted and each once
pub rising_from : (links sorted : List ℕ) → IsPermutation links sorted → IsSorted nat_cmp sorted → IsRisingListOf (λ n. list_any (eqb n) links) (dedup eqb sorted)
rising_from links sorted moved up = record {
  rising = IsStrictlyIncreasing-dedup sorted up;
  members = λ n. same_members (dedup eqb sorted) n ∙ kept n (list_any (eqb n) sorted) (list_any (eqb n) (dedup eqb sorted)) refl refl ∙ sym (list_any-IsPermutation (eqb n) links sorted moved);
}
  where
    kept : (n : ℕ) (a b : Bool) → list_any (eqb n) sorted ≡ a → list_any (eqb n) (dedup eqb sorted) ≡ b → b ≡ a
    kept n true true p q = refl
    kept n false false p q = refl
    kept n true false p q = sym q ∙ list_any-from_Contains nat_eq_equiv n (dedup eqb sorted) (Contains-dedup_nat sorted n (Contains-from_any eqb-true n sorted p))
    kept n false true p q = sym (list_any-from_Contains nat_eq_equiv n sorted (Contains-from_dedup eqb sorted n (Contains-from_any eqb-true n (dedup eqb sorted) q))) ∙ p

-- ---- one link more

pub one_offered : (es : List (ℕ × Peer)) (ks : List ℕ) (i k : ℕ) (start acts acts' : List Act) → i < length ks → take (i + 1) ks ≡ take i ks ++ k ∷ [] → passes_at row_offered es k ≡ true → acts' ≡ acts ++ act.Offer k ∷ []
    → acts ≡ start ++ map (λ l. act.Offer l) (filter (passes_at row_offered es) (take i ks)) → acts' ≡ start ++ map (λ l. act.Offer l) (filter (passes_at row_offered es) (take (i + 1) ks))
one_offered es ks i k start acts acts' low t p put so =
    let before = filter (passes_at row_offered es) (take i ks) in
    put ∙ ap (λ xs. xs ++ act.Offer k ∷ []) so ∙ append_assoc start (map (λ l. act.Offer l) before) (act.Offer k ∷ [])
    ∙ ap (λ xs. start ++ xs) (sym (map-append (λ l. act.Offer l) before (k ∷ [])) ∙ ap (map (λ l. act.Offer l)) (found_more row_offered es ks i k before (before ++ k ∷ []) low t p refl refl))

pub none_offered : (es : List (ℕ × Peer)) (ks : List ℕ) (i k : ℕ) (start acts : List Act) → take (i + 1) ks ≡ take i ks ++ k ∷ [] → passes_at row_offered es k ≡ false
    → acts ≡ start ++ map (λ l. act.Offer l) (filter (passes_at row_offered es) (take i ks)) → acts ≡ start ++ map (λ l. act.Offer l) (filter (passes_at row_offered es) (take (i + 1) ks))
none_offered es ks i k start acts t p so = so ∙ ap (λ xs. start ++ map (λ l. act.Offer l) xs) (not_found row_offered es ks i k (filter (passes_at row_offered es) (take i ks)) t p refl)

-- The rows that pass a test, found among some of their numbers.
use Rattle.std.proofs.Common.{◌≡◌, ℕ, ◌+◌, ◌<◌, ◌==◌, ◌&&◌, Bool, true, false, eqb, List, [], ◌∷◌, ◌++◌, length, take, filter, Option, Some, None, refl, sym, ap, ◌∙◌, nat_cmp, eqb-true, eq-eqb, append-nil, subst}
use Rattle.std.proofs.lemmas.List.Elements.{filter-append}
use Rattle.std.proofs.lemmas.List.Kept.{IsStrictlyIncreasing-filter}
use Rattle.std.proofs.lemmas.Map.Keys.{IsStrictlyIncreasing-from_sorted}
use Rattle.std.proofs.lemmas.Map.Views.{any-filter_same}
use Rattle.std.specs.BTreeMap.{is_at}
use Rattle.std.specs.List.{AllByRecursion, list_any}
use Rattle.std.specs.List.Sorted.{IsStrictlySortedBy, IsStrictlyIncreasing}
use Rattle.std.specs.Map.{keys_of}
use Rattle.std.specs.Option.{option_map_or}
use Rattle.std.specs.Ordering.{is_eq}
use Rattle.std.specs.declared.cmp.Ordering.TheVariants.{Less}
use Rattle.zre_journal.proofs.NumberedLists.{eqb-comm}
use Rattle.zre_values.specs.Keys.{IsRisingListOf, same_rising_list}
use Rattle.zre_tables.specs.Rows.{row_at, passes_at, numbers_of}
use Rattle.zre_tables.proofs.EntriesOfMaps.{at-eqb}

same_filter : (p q : ℕ → Bool) (xs : List ℕ) → AllByRecursion (λ x. p x ≡ q x) xs → filter p xs ≡ filter q xs
same_filter p q [] a = refl
same_filter p q (x ∷ xs) a = rw (a.0, same_filter p q xs a.1) refl

module _ {V : Type 0} (test : V → Bool) where
  -- a number above that of the first row is found among the others
  past_first : (e : ℕ × V) (es : List (ℕ × V)) (ks : List ℕ) → AllByRecursion (λ k. nat_cmp e.0 k ≡ Less) ks → AllByRecursion (λ k. passes_at test (e ∷ es) k ≡ passes_at test es k) ks
  past_first e es [] a = tt
  past_first e es (k ∷ ks) a =
      let far : eqb e.0 k ≡ false = sym (at-eqb e.0 k) ∙ ap is_eq a.0 in
      let off : is_at (nat_cmp k) e.0 ≡ false = at-eqb k e.0 ∙ eqb-comm k e.0 ∙ far in
      (rw off refl, past_first e es ks a.1)

  numbers_filter : (es : List (ℕ × V)) → IsStrictlySortedBy nat_cmp (keys_of es) → numbers_of test es ≡ filter (passes_at test es) (keys_of es)
  unfolding IsStrictlySortedBy
  numbers_filter [] h = refl
  numbers_filter (e ∷ es) h =
      let at : is_at (nat_cmp e.0) e.0 ≡ true = at-eqb e.0 e.0 ∙ eq-eqb e.0 e.0 refl in
      let head : passes_at test (e ∷ es) e.0 ≡ test e.1 = rw at refl in
      let rest : filter (passes_at test (e ∷ es)) (keys_of es) ≡ numbers_of test es = same_filter _ _ (keys_of es) (past_first e es (keys_of es) h.0) ∙ sym (numbers_filter es h.1) in
      rw (head, rest) refl

  -- a row is found where its test is passed
  pub passing : (C : Type 0) (es : List (ℕ × V)) (n : ℕ) → passes_at test es n ≡ true → ((x : V) → row_at n es ≡ Some x → test x ≡ true → C) → C
  passing C es n p f = by (row_at n es) refl p
    where
      by : (o : Option V) → row_at n es ≡ o → option_map_or test o false ≡ true → C
      by None e q = absurd cc
      by (Some x) e q = f x e q

  -- its number is among the numbers
  pub among_keys : (es : List (ℕ × V)) (n : ℕ) (x : V) → row_at n es ≡ Some x → list_any (λ k. k == n) (keys_of es) ≡ true
  among_keys [] n x e = absurd cc
  among_keys (e ∷ es) n x found = by (among_keys es n x) (eqb n e.0) refl
    where
      by : (row_at n es ≡ Some x → list_any (λ k. k == n) (keys_of es) ≡ true) → (b : Bool) → eqb n e.0 ≡ b → list_any (λ k. k == n) (keys_of (e ∷ es)) ≡ true
      by r true q = let w : (e.0 == n) ≡ true = eqb-comm e.0 n ∙ q in rw w refl
      by r false q =
          let off : is_at (nat_cmp n) e.0 ≡ false = at-eqb n e.0 ∙ q in
          let w : (e.0 == n) ≡ false = eqb-comm e.0 n ∙ q in rw w (r (rw off at found))

  rising_part : (es : List (ℕ × V)) (ks : List ℕ) → IsStrictlyIncreasing ks → ((n : ℕ) → passes_at test es n ≡ true → list_any (λ k. k == n) ks ≡ true) → IsRisingListOf (passes_at test es) (filter (passes_at test es) ks)
  rising_part es ks up all = record {
    rising = IsStrictlyIncreasing-filter (passes_at test es) ks up;
    members = λ n. any-filter_same (λ k. k == n) (passes_at test es) (passes_at test es n) (λ k e. ap (passes_at test es) (eqb-true k n e)) ks ∙ by n (passes_at test es n) refl;
  }
    where
      by : (n : ℕ) (b : Bool) → passes_at test es n ≡ b → (b && list_any (λ k. k == n) ks) ≡ b
      by n true e = all n e
      by n false e = refl

  -- the numbers of the rows that pass rise, and are those that pass
  pub rising_numbers : (es : List (ℕ × V)) → IsStrictlySortedBy nat_cmp (keys_of es) → IsRisingListOf (passes_at test es) (numbers_of test es)
  rising_numbers es sorted = subst (IsRisingListOf (passes_at test es)) (sym (numbers_filter es sorted))
      (rising_part es (keys_of es) (IsStrictlyIncreasing-from_sorted (keys_of es) sorted) (λ n p. passing _ es n p (λ x e q. among_keys es n x e)))

  -- those of some rising numbers that pass are the numbers of the rows that pass, where all of these are among them
  pub same_numbers : (es : List (ℕ × V)) (ks : List ℕ) → IsStrictlySortedBy nat_cmp (keys_of es) → IsStrictlyIncreasing ks → ((n : ℕ) (x : V) → row_at n es ≡ Some x → test x ≡ true → list_any (λ k. k == n) ks ≡ true)
      → filter (passes_at test es) ks ≡ numbers_of test es
  same_numbers es ks sorted up all =
      same_rising_list (passes_at test es) _ _ (rising_part es ks up (λ n p. passing _ es n p (all n))) (rising_numbers es sorted)

  -- all of the numbers rise, and each row's is among them
  pub all_keys : (es : List (ℕ × V)) → IsStrictlySortedBy nat_cmp (keys_of es) → IsStrictlyIncreasing (keys_of es)
  all_keys es sorted = IsStrictlyIncreasing-from_sorted (keys_of es) sorted

  -- one number more, which passes or doesn't
  pub found_more : (es : List (ℕ × V)) (ks : List ℕ) (i : ℕ) (k : ℕ) (found found' : List ℕ) → i < length ks → take (i + 1) ks ≡ take i ks ++ k ∷ [] → passes_at test es k ≡ true → found' ≡ found ++ k ∷ [] → found ≡ filter (passes_at test es) (take i ks)
      → found' ≡ filter (passes_at test es) (take (i + 1) ks)
  found_more es ks i k found found' low t p put so = put ∙ ap (λ xs. xs ++ k ∷ []) so ∙ sym (ap (filter (passes_at test es)) t ∙ filter-append (passes_at test es) (take i ks) (k ∷ []) ∙ ap (λ xs. filter (passes_at test es) (take i ks) ++ xs) one)
    where
      one : filter (passes_at test es) (k ∷ []) ≡ k ∷ []
      one = rw p refl

  pub not_found : (es : List (ℕ × V)) (ks : List ℕ) (i : ℕ) (k : ℕ) (found : List ℕ) → take (i + 1) ks ≡ take i ks ++ k ∷ [] → passes_at test es k ≡ false → found ≡ filter (passes_at test es) (take i ks) → found ≡ filter (passes_at test es) (take (i + 1) ks)
  not_found es ks i k found t p so = so ∙ sym (ap (filter (passes_at test es)) t ∙ filter-append (passes_at test es) (take i ks) (k ∷ []) ∙ ap (λ xs. filter (passes_at test es) (take i ks) ++ xs) none ∙ append-nil (filter (passes_at test es) (take i ks)))
    where
      none : filter (passes_at test es) (k ∷ []) ≡ []
      none = rw p refl

  -- the test of a number, by its row
  pub at_row : (es : List (ℕ × V)) (n : ℕ) (x : V) → Some x ≡ row_at n es → (b : Bool) → test x ≡ b → passes_at test es n ≡ b
  at_row es n x e b q = ap (λ o. option_map_or test o false) (sym e) ∙ q

  pub at_none : (es : List (ℕ × V)) (n : ℕ) → None ≡ row_at n es → passes_at test es n ≡ false
  at_none es n e = ap (λ o. option_map_or test o false) (sym e)

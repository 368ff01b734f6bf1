-- The first list that is one too many, list by list.
use Rattle.std.proofs.Common.{◌≡◌, ℕ, ◌+◌, ◌<◌, ◌≤◌, Bool, true, false, cond, ltb, nat_eq, List, ◌∷◌, length, drop, get_or, Some, None, refl, sym, ap, ◌∙◌, arith, ltb-true, lt-ltb}
use Rattle.std.proofs.lemmas.List.{drop_more, drop_all}
use Rattle.zre_audit.specs.Prefixes.{begun, first_from, first_short}
use Rattle.zre_audit.specs.Sorted.{IsRising}
use Rattle.zre_audit.proofs.OrderedPrefixes.{same-begun}

module _ (lists others : List (List ℕ)) where
  -- none is among the first i
  abbrev pub NoneBefore : ℕ → Type 0
  NoneBefore i = first_short nat_eq lists others ≡ first_from nat_eq (i + 1) lists others (drop i lists)

  module _ (i : ℕ) (x : List ℕ) (more fewer : ℕ) (lt : i < length lists) (is : x ≡ get_or lists i x) (m : more ≡ begun nat_eq x lists) (f : fewer ≡ begun nat_eq x others) where
    opened : drop i lists ≡ x ∷ drop (i + 1) lists
    opened = drop_more lists i x lt ∙ ap (λ y. y ∷ drop (i + 1) lists) (sym is)

    here : (t : Bool) → ltb fewer more ≡ t → NoneBefore i → first_short nat_eq lists others ≡ cond t (Some (i + 1, more, fewer)) (first_from nat_eq (i + 1 + 1) lists others (drop (i + 1) lists))
    here t e n =
        n ∙ ap (first_from nat_eq (i + 1) lists others) opened
        ∙ (λ j. cond (ltb (sym f j) (sym m j)) (Some (i + 1, sym m j, sym f j)) (first_from nat_eq (i + 1 + 1) lists others (drop (i + 1) lists)))
        ∙ ap (λ b. cond b (Some (i + 1, more, fewer)) (first_from nat_eq (i + 1 + 1) lists others (drop (i + 1) lists))) e

    pub none_here : more ≤ fewer → NoneBefore i → NoneBefore (i + 1)
    none_here le n = here false (not_less (ltb fewer more) refl) n
      where
        not_less : (b : Bool) → ltb fewer more ≡ b → ltb fewer more ≡ false
        not_less false e = e
        not_less true e = let less = ltb-true fewer more e in absurd (omega (arith, less, le))

    pub one_here : fewer < more → NoneBefore i → first_short nat_eq lists others ≡ Some (i + 1, more, fewer)
    one_here less n = here true (lt-ltb fewer more less) n

  pub none_at_all : (i : ℕ) → length lists ≤ i → NoneBefore i → first_short nat_eq lists others ≡ None
  none_at_all i le n = n ∙ ap (first_from nat_eq (i + 1) lists others) (drop_all i lists le)

-- a count among the lists in order is one among the lists
pub in_any_order : (x : List ℕ) (lists rising : List (List ℕ)) (n : ℕ) → IsRising lists rising → n ≡ begun nat_eq x rising → n ≡ begun nat_eq x lists
in_any_order x lists rising n r e = e ∙ same-begun x lists rising r.same

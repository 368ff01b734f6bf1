-- Loops over lists, element by element.
use Rattle.std.proofs.Common.{◌≡◌, ℕ, ◌+◌, ◌<◌, ◌≤◌, Bool, true, false, cond, List, [], ◌∷◌, ◌++◌, length, get_or, take, map, filter, flat_map, refl, sym, ap, ◌∙◌, append_assoc, append-nil, take_all}
use Rattle.std.proofs.lemmas.List.{take_more}
use Rattle.std.proofs.lemmas.List.Concat.{flat_map-append}
use Rattle.std.proofs.lemmas.List.Elements.{filter-append}
use Rattle.std.proofs.lemmas.List.Sums.{fold-append}
use Rattle.std.specs.List.{fold}

pub more : {A : Type 0} (xs : List A) (i : ℕ) (x : A) → i < length xs → x ≡ get_or xs i x → take (i + 1) xs ≡ take i xs ++ x ∷ []
more xs i x lt is = take_more xs i x lt ∙ ap (λ y. take i xs ++ y ∷ []) (sym is)

module _ {A B : Type 0} (f : A → List B) where
  pub pushed : (xs : List A) (i : ℕ) (x : A) (old out new : List B) → i < length xs → x ≡ get_or xs i x → out ≡ old ++ flat_map f (take i xs) → new ≡ out ++ f x → new ≡ old ++ flat_map f (take (i + 1) xs)
  pushed xs i x old out new lt is e n =
      n ∙ ap (λ o. o ++ f x) e ∙ append_assoc old (flat_map f (take i xs)) (f x)
      ∙ ap (λ o. old ++ o) (ap (λ o. flat_map f (take i xs) ++ o) (sym (append-nil (f x))) ∙ sym (flat_map-append f (take i xs) (x ∷ [])) ∙ ap (flat_map f) (sym (more xs i x lt is)))

  pub all_pushed : (xs : List A) (i : ℕ) (old out : List B) → length xs ≤ i → out ≡ old ++ flat_map f (take i xs) → out ≡ old ++ flat_map f xs
  all_pushed xs i old out le e = e ∙ ap (λ ys. old ++ flat_map f ys) (take_all i xs le)

module _ {A B : Type 0} (f : B → A → B) where
  pub folded : (xs : List A) (i : ℕ) (x : A) (old out new : B) → i < length xs → x ≡ get_or xs i x → out ≡ fold f old (take i xs) → new ≡ f out x → new ≡ fold f old (take (i + 1) xs)
  folded xs i x old out new lt is e n = n ∙ ap (λ o. f o x) e ∙ sym (fold-append f old (take i xs) (x ∷ [])) ∙ ap (fold f old) (sym (more xs i x lt is))

  pub all_folded : (xs : List A) (i : ℕ) (old out : B) → length xs ≤ i → out ≡ fold f old (take i xs) → out ≡ fold f old xs
  all_folded xs i old out le e = e ∙ ap (fold f old) (take_all i xs le)

module _ {A B : Type 0} (f : A → B) where
  map-append : (xs ys : List A) → map f (xs ++ ys) ≡ map f xs ++ map f ys
  map-append [] ys = refl
  map-append (x ∷ xs) ys = ap (λ zs. f x ∷ zs) (map-append xs ys)

  pub mapped : (xs : List A) (i : ℕ) (x : A) (out new : List B) → i < length xs → x ≡ get_or xs i x → out ≡ map f (take i xs) → new ≡ out ++ f x ∷ [] → new ≡ map f (take (i + 1) xs)
  mapped xs i x out new lt is e n = n ∙ ap (λ o. o ++ f x ∷ []) e ∙ sym (map-append (take i xs) (x ∷ [])) ∙ ap (map f) (sym (more xs i x lt is))

  pub all_mapped : (xs : List A) (i : ℕ) (out : List B) → length xs ≤ i → out ≡ map f (take i xs) → out ≡ map f xs
  all_mapped xs i out le e = e ∙ ap (map f) (take_all i xs le)

  -- those that pass a test
  module _ (t : A → Bool) where
    pub kept : (xs : List A) (i : ℕ) (x : A) (out new : List B) → i < length xs → x ≡ get_or xs i x → out ≡ map f (filter t (take i xs)) → t x ≡ true → new ≡ out ++ f x ∷ [] → new ≡ map f (filter t (take (i + 1) xs))
    kept xs i x out new lt is e p n =
        n ∙ ap (λ o. o ++ f x ∷ []) e ∙ sym (map-append (filter t (take i xs)) (x ∷ []))
        ∙ ap (λ b. map f (filter t (take i xs) ++ cond b (x ∷ []) [])) (sym p)
        ∙ ap (map f) (sym (filter-append t (take i xs) (x ∷ []))) ∙ ap (λ ys. map f (filter t ys)) (sym (more xs i x lt is))

    pub dropped : (xs : List A) (i : ℕ) (x : A) (out : List B) → i < length xs → x ≡ get_or xs i x → out ≡ map f (filter t (take i xs)) → t x ≡ false → out ≡ map f (filter t (take (i + 1) xs))
    dropped xs i x out lt is e p =
        e ∙ ap (map f) (sym (append-nil (filter t (take i xs))))
        ∙ ap (λ b. map f (filter t (take i xs) ++ cond b (x ∷ []) [])) (sym p)
        ∙ ap (map f) (sym (filter-append t (take i xs) (x ∷ []))) ∙ ap (λ ys. map f (filter t ys)) (sym (more xs i x lt is))

    pub all_kept : (xs : List A) (i : ℕ) (out : List B) → length xs ≤ i → out ≡ map f (filter t (take i xs)) → out ≡ map f (filter t xs)
    all_kept xs i out le e = e ∙ ap (λ ys. map f (filter t ys)) (take_all i xs le)

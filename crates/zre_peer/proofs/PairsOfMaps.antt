-- What a map from names to values says of the list of its pairs.
use Rattle.std.proofs.Common.{◌≡◌, ℕ, Bool, true, false, true≢false, cond, ◌||◌, List, [], ◌∷◌, ◌++◌, map, Option, Some, is_some, refl, sym, ap, ◌∙◌, if◌then◌else◌}
use Rattle.std.specs.List.{list_any}
use Rattle.std.specs.Str.{bytes_eq}
use Rattle.std.specs.Map.{lookup}
use Rattle.std.specs.Cmp.Lexicographic.{nat_list_eq_equiv}
use Rattle.indexmap.specs.IndexMap.{insert_entry}
use Rattle.zre_peer.specs.Members.{with_header}

some_or : {X : Type 0} (t : Bool) (x : X) (r : Option X) → is_some (cond t (Some x) r) ≡ (t || is_some r)
some_or true x r = refl
some_or false x r = refl

module _ {K : Type 0} (items : K → List ℕ) where
  -- the pairs of the entries
  abbrev pub pairs_of : List (K × List ℕ) → List (List ℕ × List ℕ)
  pairs_of es = map (λ e. (items e.0, e.1)) es

  abbrev named : List ℕ → List (K × List ℕ) → Bool
  named n es = list_any (λ pair. bytes_eq pair.0 n) (pairs_of es)

  found : (n : List ℕ) (es : List (K × List ℕ)) → is_some (lookup (λ k. bytes_eq n (items k)) es) ≡ named n es
  found n [] = refl
  found n (e ∷ es) = some_or (bytes_eq n (items e.0)) e.1 (lookup (λ k. bytes_eq n (items k)) es) ∙ (λ i. nat_list_eq_equiv.symm n (items e.0) i || found n es i)

  put : (k : K) (v : List ℕ) (es : List (K × List ℕ)) → named (items k) es ≡ false → pairs_of (insert_entry (λ a b. bytes_eq (items a) (items b)) es k v) ≡ pairs_of es ++ (items k, v) ∷ []
  put k v [] h = refl
  put k v (e ∷ es) h = by _ _ (nat_list_eq_equiv.symm (items k) (items e.0)) (put k v es) h
    where
      by : (t u : Bool) → t ≡ u
          → (named (items k) es ≡ false → pairs_of (insert_entry (λ a b. bytes_eq (items a) (items b)) es k v) ≡ pairs_of es ++ (items k, v) ∷ [])
          → (u || named (items k) es) ≡ false
          → pairs_of (if t then (e.0, v) ∷ es else e ∷ insert_entry (λ a b. bytes_eq (items a) (items b)) es k v) ≡ (items e.0, e.1) ∷ pairs_of es ++ (items k, v) ∷ []
      by true true q rest h = absurd (true≢false h)
      by false false q rest h = ap (λ r. (items e.0, e.1) ∷ r) (rest h)
      by true false q rest h = absurd (true≢false q)
      by false true q rest h = absurd (true≢false (sym q))

  -- whether a name is there
  pub name_there : (n : List ℕ) (es : List (K × List ℕ)) (whole : List (List ℕ × List ℕ)) → pairs_of es ≡ whole → is_some (lookup (λ k. bytes_eq n (items k)) es) ≡ list_any (λ pair. bytes_eq pair.0 n) whole
  name_there n es whole is = found n es ∙ ap (list_any (λ pair. bytes_eq pair.0 n)) is

  -- a name that is there adds nothing
  pub header_there : (es : List (K × List ℕ)) (whole : List (List ℕ × List ℕ)) (n v : List ℕ) → pairs_of es ≡ whole → is_some (lookup (λ k. bytes_eq n (items k)) es) ≡ true → whole ≡ with_header whole (n, v)
  header_there es whole n v is there =
      let any : list_any (λ pair. bytes_eq pair.0 n) whole ≡ true = sym (name_there n es whole is) ∙ there in
      sym (ap (λ b. if b then whole else whole ++ (n, v) ∷ []) any)

  -- and a new one goes last
  pub header_new : (es new : List (K × List ℕ)) (k : K) (w : List ℕ) (whole : List (List ℕ × List ℕ)) (n v : List ℕ) → pairs_of es ≡ whole → items k ≡ n → w ≡ v
      → is_some (lookup (λ k. bytes_eq n (items k)) es) ≡ false → new ≡ insert_entry (λ a b. bytes_eq (items a) (items b)) es k w → pairs_of new ≡ with_header whole (n, v)
  header_new es new k w whole n v is name value absent put_in =
      let any : list_any (λ pair. bytes_eq pair.0 n) whole ≡ false = sym (name_there n es whole is) ∙ absent in
      let none : named (items k) es ≡ false = ap (λ m. named m es) name ∙ sym (found n es) ∙ absent in
      ap pairs_of put_in ∙ put k w es none
      ∙ (λ i. is i ++ (name i, value i) ∷ [])
      ∙ sym (ap (λ b. if b then whole else whole ++ (n, v) ∷ []) any)

-- What an index over names says of the list of their octets.
use Rattle.std.proofs.Common.{◌≡◌, ℕ, suc, ◌+◌, ◌-◌, ◌<◌, ◌≤◌, Bool, true, false, true≢false, cond, ◌||◌, List, [], ◌∷◌, ◌++◌, length, take, drop, map, Option, Some, None, refl, sym, ap, subst, ◌∙◌, arith, ltb, if◌then◌else◌}
use Rattle.std.specs.Prelude.{remove, MatchOption, not}
use Rattle.std.specs.List.{list_any, position, position_or_len}
use Rattle.std.specs.Str.{bytes_eq}
use Rattle.std.specs.Cmp.Lexicographic.{nat_list_eq_equiv}
use Rattle.std.proofs.lemmas.Bool.{ltb-true, ltb-false}
use Rattle.std.proofs.lemmas.List.{take_all, drop_all, length-append, length-map, map-append, append-nil, take-map, drop-map}
use Rattle.std.proofs.lemmas.List.Edits.{length-remove, remove-append_left, remove-append_right}
use Rattle.indexmap.specs.IndexSet.{insert_key}
use Rattle.zre_values.specs.Lists.{without}
use Rattle.zre_peer.specs.Members.{with_group}

-- the list without its first member that passes a test, or without the first such of the rest
removed_by : (b : Bool) (y : List ℕ) (ys rest : List (List ℕ)) (i : ℕ) → rest ≡ remove ys i → (if b then ys else y ∷ rest) ≡ remove (y ∷ ys) (cond (not b) (1 + i) 0)
removed_by true y ys rest i h = refl
removed_by false y ys rest i h =
    let next : suc i ≡ 1 + i = omega arith in
    ap (λ r. y ∷ r) h ∙ ap (remove (y ∷ ys)) next

without_at : (g : List ℕ) (xs : List (List ℕ)) → without g xs ≡ remove xs (position_or_len (λ y. bytes_eq y g) xs)
without_at g [] = refl
without_at g (y ∷ ys) = removed_by (bytes_eq y g) y ys _ _ (without_at g ys)

removed_past : (xs : List (List ℕ)) (i : ℕ) → length xs ≤ i → remove xs i ≡ xs
removed_past xs i far = (λ j. take_all i xs far j ++ drop_all (suc i) xs (omega (arith, far)) j) ∙ append-nil xs

-- the place of the first member that equals g, as one that a removal may take
at_place : (g : List ℕ) (xs : List (List ℕ)) → MatchOption (position (λ y. bytes_eq y g) xs) (without g xs ≡ xs) (λ i. (i < length xs) × (without g xs ≡ remove xs i))
at_place g xs = by (ltb place (length xs)) refl
  where
    place : ℕ
    place = position_or_len (λ y. bytes_eq y g) xs

    by : (b : Bool) → ltb place (length xs) ≡ b → MatchOption (cond b (Some place) None) (without g xs ≡ xs) (λ i. (i < length xs) × (without g xs ≡ remove xs i))
    by true e = (ltb-true place (length xs) e, without_at g xs)
    by false e = without_at g xs ∙ removed_past xs place (ltb-false place (length xs) e)

pub place_within : (g : List ℕ) (view xs : List (List ℕ)) (r : Option ℕ) → view ≡ xs → r ≡ position (λ y. bytes_eq y g) view → MatchOption r (without g xs ≡ xs) (λ i. (i < length xs) × (without g xs ≡ remove xs i))
place_within g view xs r same is =
    subst (λ r. MatchOption r (without g xs ≡ xs) (λ i. (i < length xs) × (without g xs ≡ remove xs i)))
    (sym (is ∙ ap (position (λ y. bytes_eq y g)) same)) (at_place g xs)

module _ {K : Type 0} (items : K → List ℕ) where
  pub any_named : (g : List ℕ) (ks : List K) → list_any (λ k. bytes_eq g (items k)) ks ≡ list_any (λ x. bytes_eq x g) (map items ks)
  any_named g [] = refl
  any_named g (k ∷ ks) = λ i. nat_list_eq_equiv.symm g (items k) i || any_named g ks i

  joined_by : (b c : Bool) (k : K) (ks : List K) → b ≡ c → map items (if b then ks else ks ++ k ∷ []) ≡ (if c then map items ks else map items ks ++ items k ∷ [])
  joined_by true true k ks h = refl
  joined_by false false k ks h = map-append items ks (k ∷ [])
  joined_by true false k ks h = absurd (true≢false h)
  joined_by false true k ks h = absurd (true≢false (sym h))

  -- one more member
  pub joined_named : (k : K) (ks : List K) → map items (insert_key (λ a b. bytes_eq (items a) (items b)) ks k) ≡ with_group (map items ks) (items k)
  joined_named k ks = joined_by _ _ k ks (any_named (items k) ks)

  first_named : (g : List ℕ) (ks : List K) → position_or_len (λ k. bytes_eq g (items k)) ks ≡ position_or_len (λ x. bytes_eq x g) (map items ks)
  first_named g [] = refl
  first_named g (k ∷ ks) = λ i. cond (not (nat_list_eq_equiv.symm g (items k) i)) (1 + first_named g ks i) 0

  -- where a member stands
  pub place_named : (g : List ℕ) (ks : List K) → position (λ k. bytes_eq g (items k)) ks ≡ position (λ x. bytes_eq x g) (map items ks)
  place_named g ks = λ i. cond (ltb (first_named g ks i) (sym (length-map ks items) i)) (Some (first_named g ks i)) None

  -- one member less
  pub left_named : (ks : List K) (i : ℕ) → map items (remove ks i) ≡ remove (map items ks) i
  left_named ks i = map-append items (take i ks) (drop (suc i) ks) ∙ (λ j. sym (take-map items i ks) j ++ sym (drop-map items (suc i) ks) j)

kept : (g : List ℕ) (a b : List (List ℕ)) → length (without g a) ≡ length a → without g (a ++ b) ≡ a ++ without g b
kept g [] b h = refl
kept g (y ∷ ys) b h = by (bytes_eq y g) (kept g ys b) h
  where
    by : (t : Bool) → (length (without g ys) ≡ length ys → without g (ys ++ b) ≡ ys ++ without g b) → length (if t then ys else y ∷ without g ys) ≡ length (y ∷ ys) → (if t then ys ++ b else y ∷ without g (ys ++ b)) ≡ y ∷ ys ++ without g b
    by true rest h = absurd (omega (arith, h))
    by false rest h = ap (λ r. y ∷ r) (rest (omega (arith, h)))

cut : (g : List ℕ) (a b : List (List ℕ)) → length (without g a) < length a → without g (a ++ b) ≡ without g a ++ b
cut g [] b h = absurd (omega (arith, h))
cut g (y ∷ ys) b h = by (bytes_eq y g) (cut g ys b) h
  where
    by : (t : Bool) → (length (without g ys) < length ys → without g (ys ++ b) ≡ without g ys ++ b) → length (if t then ys else y ∷ without g ys) < length (y ∷ ys) → (if t then ys ++ b else y ∷ without g (ys ++ b)) ≡ (if t then ys else y ∷ without g ys) ++ b
    by true rest h = refl
    by false rest h = ap (λ r. y ∷ r) (rest (omega (arith, h)))

-- where the first of two lists has no member that equals g, the second is the one that loses it
pub without_kept : (g : List ℕ) (a b : List (List ℕ)) → without g a ≡ a → without g (a ++ b) ≡ a ++ without g b
without_kept g a b h = kept g a b (ap length h)

-- and else the first is
pub without_cut : (g : List ℕ) (a b : List (List ℕ)) (i : ℕ) → i < length a → without g a ≡ remove a i → without g (a ++ b) ≡ without g a ++ b
without_cut g a b i lt h =
    let len = ap length h in
    cut g a b (omega (arith, len, length-remove a i lt))

-- a place in the first list is that place in both
pub left_front : (g : List ℕ) (a b whole : List (List ℕ)) (i : ℕ) → a ++ b ≡ whole → (i < length a) × (without g a ≡ remove a i) → (i < length whole) × (without g whole ≡ remove whole i)
left_front g a b whole i is h =
    let inside : i < length (a ++ b) = omega (arith, h.0, length-append a b) in
    let gone : without g (a ++ b) ≡ remove (a ++ b) i = without_cut g a b i h.0 h.1 ∙ ap (λ r. r ++ b) h.1 ∙ sym (remove-append_left a b i h.0) in
    subst (λ w. (i < length w) × (without g w ≡ remove w i)) is (inside, gone)

-- a place in the second list stands that much after the first, where the first has none
pub left_after : (g : List ℕ) (a b whole : List (List ℕ)) (n i : ℕ) → a ++ b ≡ whole → length a ≡ n → without g a ≡ a → (i < length b) × (without g b ≡ remove b i) → (n + i < length whole) × (without g whole ≡ remove whole (n + i))
left_after g a b whole n i is len none h =
    let inside : n + i < length (a ++ b) = omega (arith, h.0, len, length-append a b) in
    let back : n + i - n ≡ i = omega arith in
    let gone : without g (a ++ b) ≡ remove (a ++ b) (n + i) = without_kept g a b none ∙ ap (λ r. a ++ r) (h.1 ∙ ap (remove b) (sym back)) ∙ sym (remove-append_right a b n (n + i) len (omega arith)) in
    subst (λ w. (n + i < length w) × (without g w ≡ remove w (n + i))) is (inside, gone)

-- and neither has one
pub left_whole : (g : List ℕ) (a b whole : List (List ℕ)) → a ++ b ≡ whole → without g a ≡ a → without g b ≡ b → without g whole ≡ whole
left_whole g a b whole is none more = subst (λ w. without g w ≡ w) is (without_kept g a b none ∙ ap (λ r. a ++ r) more)

-- Lists of numbered things: found by number, taken out by number, put at the end.
use Rattle.std.proofs.Common.{◌≡◌, ℕ, zero, suc, ◌<◌, Bool, true, false, cond, not, ◌||◌, eqb, List, [], ◌∷◌, ◌++◌, Option, Some, None, IsSome, is_some, refl, sym, ap, ◌∙◌, arith, eqb-true, eq-eqb, ne_eqb, subst, find, filter, map, drop}
use Rattle.std.proofs.lemmas.Bool.{eqb-false, or_right}
use Rattle.std.specs.List.{AllByRecursion, list_any}
use Rattle.std.specs.Str.{bytes_eq}
use Rattle.zre_journal.specs.Proper.{Apart}
use Rattle.zre_values.specs.Lists.{without}

pub eqb-comm : (a b : ℕ) → eqb a b ≡ eqb b a
eqb-comm a b = by (eqb b a) refl
  where
    by : (t : Bool) → eqb b a ≡ t → eqb a b ≡ eqb b a
    by true e = rw e (eq-eqb a b (sym (eqb-true b a e)))
    by false e = rw e (ne_eqb a b (λ q. eqb-false b a e (sym q)))

pub some_is : {A : Type 0} (o : Option A) → IsSome o → (a : A) × (o ≡ Some a)
some_is None h = cc
some_is (Some a) h = (a, refl)

module _ {A : Type 0} where
  -- what holds of each holds of each that is kept
  pub All-kept : (P : A → Type 0) (t : A → Bool) (xs : List A) → AllByRecursion P xs → AllByRecursion P (filter t xs)
  All-kept P t [] h = tt
  All-kept P t (x ∷ xs) h = elim (t x) as (λ b. AllByRecursion P (cond b (x ∷ filter t xs) (filter t xs)))
      [ true ↦ (h.0, All-kept P t xs h.1) | false ↦ All-kept P t xs h.1 ]

  pub All-passing : (P : A → Type 0) (t : A → Bool) → ((x : A) → t x ≡ true → P x) → (xs : List A) → AllByRecursion P (filter t xs)
  All-passing P t f [] = tt
  All-passing P t f (x ∷ xs) = by (All-passing P t f xs) (t x) refl
    where
      by : AllByRecursion P (filter t xs) → (b : Bool) → t x ≡ b → AllByRecursion P (cond b (x ∷ filter t xs) (filter t xs))
      by r true e = (f x e, r)
      by r false e = r

  pub All-append : (P : A → Type 0) (xs : List A) (y : A) → AllByRecursion P xs → P y → AllByRecursion P (xs ++ y ∷ [])
  All-append P [] y h p = (p, tt)
  All-append P (x ∷ xs) y h p = (h.0, All-append P xs y h.1 p)

  pub All-join : (P : A → Type 0) (xs ys : List A) → AllByRecursion P xs → AllByRecursion P ys → AllByRecursion P (xs ++ ys)
  All-join P [] ys h k = k
  All-join P (x ∷ xs) ys h k = (h.0, All-join P xs ys h.1 k)

  pub All-drop : (P : A → Type 0) (n : ℕ) (xs : List A) → AllByRecursion P xs → AllByRecursion P (drop n xs)
  All-drop P zero xs h = h
  All-drop P (suc n) [] h = tt
  All-drop P (suc n) (x ∷ xs) h = All-drop P n xs h.1

  pub All-map : (P Q : A → Type 0) → ((x : A) → P x → Q x) → (xs : List A) → AllByRecursion P xs → AllByRecursion Q xs
  All-map P Q i [] h = tt
  All-map P Q i (x ∷ xs) h = (i x h.0, All-map P Q i xs h.1)

  pub All-both : (P Q : A → Type 0) (xs : List A) → AllByRecursion P xs → AllByRecursion Q xs → AllByRecursion (λ x. P x × Q x) xs
  All-both P Q [] h k = tt
  All-both P Q (x ∷ xs) h k = ((h.0, k.0), All-both P Q xs h.1 k.1)

  -- what is found has what each has, and passes
  pub found : (P : A → Type 0) (t : A → Bool) (xs : List A) (y : A) → AllByRecursion P xs → find t xs ≡ Some y → P y × (t y ≡ true)
  found P t [] y h e = cc
  found P t (x ∷ xs) y h e = by (found P t xs y h.1) (t x) refl e
    where
      by : (find t xs ≡ Some y → P y × (t y ≡ true)) → (b : Bool) → t x ≡ b → cond b (Some x) (find t xs) ≡ Some y → P y × (t y ≡ true)
      by r true q k = let same : x ≡ y = cc in (subst P same h.0, subst (λ z. t z ≡ true) same q)
      by r false q k = r k

  pub found_passes : (t : A → Bool) (xs : List A) (y : A) → find t xs ≡ Some y → t y ≡ true
  found_passes t xs y e = (found (λ _. Unit {0}) t xs y (all xs) e).1
    where
      all : (zs : List A) → AllByRecursion (λ (_ : A). Unit {0}) zs
      all [] = tt
      all (z ∷ zs) = (tt, all zs)

  -- what is found is found with more after it
  pub found_before : (t : A → Bool) (xs ys : List A) (y : A) → find t xs ≡ Some y → find t (xs ++ ys) ≡ Some y
  found_before t [] ys y e = cc
  found_before t (x ∷ xs) ys y e = by (found_before t xs ys y) (t x) e
    where
      by : (find t xs ≡ Some y → find t (xs ++ ys) ≡ Some y) → (b : Bool) → cond b (Some x) (find t xs) ≡ Some y → cond b (Some x) (find t (xs ++ ys)) ≡ Some y
      by r true k = k
      by r false k = r k

  -- one that is found is there
  pub found_any : (t : A → Bool) (xs : List A) (y : A) → find t xs ≡ Some y → list_any t xs ≡ true
  found_any t [] y e = cc
  found_any t (x ∷ xs) y e = by (found_any t xs y) (t x) e
    where
      by : (find t xs ≡ Some y → list_any t xs ≡ true) → (b : Bool) → cond b (Some x) (find t xs) ≡ Some y → (b || list_any t xs) ≡ true
      by r true k = refl
      by r false k = r k

  pub none_any : (t : A → Bool) (xs : List A) → find t xs ≡ None → list_any t xs ≡ false
  none_any t [] e = refl
  none_any t (x ∷ xs) e = by (none_any t xs) (t x) e
    where
      by : (find t xs ≡ None → list_any t xs ≡ false) → (b : Bool) → cond b (Some x) (find t xs) ≡ None → (b || list_any t xs) ≡ false
      by r true k = cc
      by r false k = r k

-- what holds of all groups holds of those that are left
pub All-without : (P : List ℕ → Type 0) (group : List ℕ) (gs : List (List ℕ)) → AllByRecursion P gs → AllByRecursion P (without group gs)
All-without P group [] h = tt
All-without P group (x ∷ gs) h = elim (bytes_eq x group) as (λ b. AllByRecursion P (cond b gs (x ∷ without group gs)))
    [ true ↦ h.1 | false ↦ (h.0, All-without P group gs h.1) ]

module _ {A : Type 0} (key : A → ℕ) where
  -- a number is there where something of that number is found
  pub any_found : (n : ℕ) (xs : List A) → list_any (eqb n) (map key xs) ≡ is_some (find (λ x. eqb n (key x)) xs)
  any_found n [] = refl
  any_found n (x ∷ xs) = by (eqb n (key x)) (any_found n xs)
    where
      by : (b : Bool) → list_any (eqb n) (map key xs) ≡ is_some (find (λ y. eqb n (key y)) xs) → (b || list_any (eqb n) (map key xs)) ≡ is_some (cond b (Some x) (find (λ y. eqb n (key y)) xs))
      by true r = refl
      by false r = r

  -- things stay apart after a new greatest one, and where one is taken out
  pub Apart-append : (y : A) (xs : List A) → AllByRecursion (λ x. key x < key y) xs → Apart key xs → Apart key (xs ++ y ∷ [])
  Apart-append y [] b p = (tt, tt)
  Apart-append y (x ∷ xs) b p = (far xs p.0, Apart-append y xs b.1 p.1)
    where
      far : (zs : List A) → AllByRecursion (λ z. eqb (key x) (key z) ≡ false) zs → AllByRecursion (λ z. eqb (key x) (key z) ≡ false) (zs ++ y ∷ [])
      far [] h = (ne_eqb (key x) (key y) (λ e. omega (arith, b.0)), tt)
      far (z ∷ zs) h = (h.0, far zs h.1)

  pub Apart-kept : (t : A → Bool) (xs : List A) → Apart key xs → Apart key (filter t xs)
  Apart-kept t [] p = tt
  Apart-kept t (x ∷ xs) p = elim (t x) as (λ b. Apart key (cond b (x ∷ filter t xs) (filter t xs)))
      [ true ↦ (All-kept (λ y. eqb (key x) (key y) ≡ false) t xs p.0, Apart-kept t xs p.1) | false ↦ Apart-kept t xs p.1 ]

  -- one of another number is found all the same where that of n is taken out
  pub others_find : (n k : ℕ) → eqb n k ≡ false → (xs : List A) → find (λ x. eqb k (key x)) (filter (λ x. not (eqb n (key x))) xs) ≡ find (λ x. eqb k (key x)) xs
  others_find n k ne [] = refl
  others_find n k ne (x ∷ xs) = by (others_find n k ne xs) (eqb n (key x)) refl
    where
      by : find (λ x. eqb k (key x)) (filter (λ x. not (eqb n (key x))) xs) ≡ find (λ x. eqb k (key x)) xs → (b : Bool) → eqb n (key x) ≡ b
          → find (λ y. eqb k (key y)) (filter (λ y. not (eqb n (key y))) (x ∷ xs)) ≡ find (λ y. eqb k (key y)) (x ∷ xs)
      by r true q = let same : n ≡ key x = eqb-true n (key x) q in let far : eqb k (key x) ≡ false = eqb-comm k (key x) ∙ ap (λ m. eqb m k) (sym same) ∙ ne in rw (q, far) r
      by r false q = rw q (ap (λ o. cond (eqb k (key x)) (Some x) o) r)

-- ---- numbers

pub any_append : (c d : ℕ) (xs : List ℕ) → list_any (eqb c) xs ≡ true → list_any (eqb c) (xs ++ d ∷ []) ≡ true
any_append c d [] h = cc
any_append c d (x ∷ xs) h = by (any_append c d xs) (eqb c x) h
  where
    by : (list_any (eqb c) xs ≡ true → list_any (eqb c) (xs ++ d ∷ []) ≡ true) → (b : Bool) → (b || list_any (eqb c) xs) ≡ true → (b || list_any (eqb c) (xs ++ d ∷ [])) ≡ true
    by r true k = refl
    by r false k = r k

pub any_of_append : (c d : ℕ) (xs : List ℕ) → eqb c d ≡ false → list_any (eqb c) (xs ++ d ∷ []) ≡ true → list_any (eqb c) xs ≡ true
any_of_append c d [] far h = let z : (false || false) ≡ true = rw far at h in cc
any_of_append c d (x ∷ xs) far h = by (any_of_append c d xs far) (eqb c x) h
  where
    by : (list_any (eqb c) (xs ++ d ∷ []) ≡ true → list_any (eqb c) xs ≡ true) → (b : Bool) → (b || list_any (eqb c) (xs ++ d ∷ [])) ≡ true → (b || list_any (eqb c) xs) ≡ true
    by r true k = refl
    by r false k = r k

-- what is left has been there
pub any_left : (n c : ℕ) (xs : List ℕ) → list_any (eqb c) (filter (λ x. not (eqb n x)) xs) ≡ true → list_any (eqb c) xs ≡ true
any_left n c [] h = h
any_left n c (x ∷ xs) h = by (any_left n c xs) (eqb n x) h
  where
    by : (list_any (eqb c) (filter (λ y. not (eqb n y)) xs) ≡ true → list_any (eqb c) xs ≡ true) → (b : Bool)
        → list_any (eqb c) (cond (not b) (x ∷ filter (λ y. not (eqb n y)) xs) (filter (λ y. not (eqb n y)) xs)) ≡ true → (eqb c x || list_any (eqb c) xs) ≡ true
    by r true k = there (eqb c x)
      where
        there : (b : Bool) → (b || list_any (eqb c) xs) ≡ true
        there true = refl
        there false = r k
    by r false k = here (eqb c x) k
      where
        here : (b : Bool) → (b || list_any (eqb c) (filter (λ y. not (eqb n y)) xs)) ≡ true → (b || list_any (eqb c) xs) ≡ true
        here true q = refl
        here false q = r q

-- one of another number is left
pub any_other : (n c : ℕ) → eqb n c ≡ false → (xs : List ℕ) → list_any (eqb c) xs ≡ true → list_any (eqb c) (filter (λ x. not (eqb n x)) xs) ≡ true
any_other n c far [] h = h
any_other n c far (x ∷ xs) h = by (any_other n c far xs) (eqb n x) refl h
  where
    by : (list_any (eqb c) xs ≡ true → list_any (eqb c) (filter (λ y. not (eqb n y)) xs) ≡ true) → (b : Bool) → eqb n x ≡ b → (eqb c x || list_any (eqb c) xs) ≡ true
        → list_any (eqb c) (cond (not b) (x ∷ filter (λ y. not (eqb n y)) xs) (filter (λ y. not (eqb n y)) xs)) ≡ true
    by r true q k = let same : n ≡ x = eqb-true n x q in let other : eqb c x ≡ false = eqb-comm c x ∙ ap (λ m. eqb m c) (sym same) ∙ far in r (subst (λ b. (b || list_any (eqb c) xs) ≡ true) other k)
    by r false q k = here (eqb c x) k
      where
        here : (b : Bool) → (b || list_any (eqb c) xs) ≡ true → (b || list_any (eqb c) (filter (λ y. not (eqb n y)) xs)) ≡ true
        here true z = refl
        here false z = r z

-- one that is there has what each has
pub any_has : (P : ℕ → Type 0) (c : ℕ) (xs : List ℕ) → AllByRecursion P xs → list_any (eqb c) xs ≡ true → P c
any_has P c [] h e = cc
any_has P c (x ∷ xs) h e = by (any_has P c xs h.1) (eqb c x) refl e
  where
    by : (list_any (eqb c) xs ≡ true → P c) → (b : Bool) → eqb c x ≡ b → (b || list_any (eqb c) xs) ≡ true → P c
    by r true q k = subst P (sym (eqb-true c x q)) h.0
    by r false q k = r k

-- one that a search finds is there
pub found_there : (f : ℕ → Bool) (d : ℕ) (cs : List ℕ) → find f cs ≡ Some d → list_any (eqb d) cs ≡ true
found_there f d [] e = cc
found_there f d (x ∷ cs) e = by (found_there f d cs) (f x) e
  where
    by : (find f cs ≡ Some d → list_any (eqb d) cs ≡ true) → (b : Bool) → cond b (Some x) (find f cs) ≡ Some d → (eqb d x || list_any (eqb d) cs) ≡ true
    by r true k = let same : x ≡ d = cc in let me : eqb d x ≡ true = eq-eqb d x (sym same) in rw me refl
    by r false k = or_right (eqb d x) (list_any (eqb d) cs) (r k)

-- what holds of each that is there
pub each_there : (P : ℕ → Type 0) (xs : List ℕ) → ((c : ℕ) → list_any (eqb c) xs ≡ true → P c) → AllByRecursion P xs
each_there P [] f = tt
each_there P (x ∷ xs) f = (f x (let me : eqb x x ≡ true = eq-eqb x x refl in rw me refl), each_there P xs (λ c h. f c (or_right (eqb c x) (list_any (eqb c) xs) h)))

-- others are there where one is taken out
pub left_there : (c : ℕ) (cs xs : List ℕ) → AllByRecursion (λ d. eqb c d ≡ false) cs → AllByRecursion (λ d. list_any (eqb d) xs ≡ true) cs → AllByRecursion (λ d. list_any (eqb d) (filter (λ x. not (eqb c x)) xs) ≡ true) cs
left_there c [] xs far o = tt
left_there c (d ∷ cs) xs far o = (any_other c d far.0 xs o.0, left_there c cs xs far.1 o.1)

-- A map that has one entry for each of a list of things, read and changed.
use Rattle.std.proofs.Common.{◌≡◌, ℕ, ◌<◌, Bool, true, false, not, eqb, ltb, List, [], ◌∷◌, ◌++◌, map, length, Option, Some, None, find, filter, refl, sym, ap, arith, nat_cmp, eqb-true, eq-eqb, ne_eqb, lt-ltb, le-ltb, ⊎_elim, subst}
use Rattle.std.proofs.lemmas.Bool.{cases_order}
use Rattle.std.specs.BTreeMap.{is_at, insert_entry}
use Rattle.std.specs.Map.{lookup, remove_entry, set_value, keys_of}
use Rattle.std.specs.List.{AllByRecursion}
use Rattle.zre_journal.specs.Proper.{Apart}
use Rattle.zre_tables.specs.Tabled.{Tabled}

pub at-eqb : (a b : ℕ) → is_at (nat_cmp a) b ≡ eqb a b
at-eqb a b = ⊎_elim (λ e. let w : eqb a b ≡ true = eq-eqb a b e in let u : ltb a b ≡ false = le-ltb a b (omega arith) in rw (u, w) refl)
    (λ h. ⊎_elim
    (λ l. let w : eqb a b ≡ false = ne_eqb a b (λ e. omega arith) in let u : ltb a b ≡ true = lt-ltb a b l in rw (u, w) refl)
    (λ l. let w : eqb a b ≡ false = ne_eqb a b (λ e. omega arith) in let u : ltb a b ≡ false = le-ltb a b (omega arith) in rw (u, w) refl) h)
    (cases_order a b)

-- the map's own test of a key is that of numbers
pub at-is : (a : ℕ) → is_at (nat_cmp a) ≡ eqb a
at-is a = λ i b. at-eqb a b i

module _ {A : Type 0} (key : A → ℕ) where
  -- none is taken out where none has the number
  all_left : (n : ℕ) (xs : List A) → AllByRecursion (λ y. eqb n (key y) ≡ false) xs → filter (λ y. not (eqb n (key y))) xs ≡ xs
  all_left n [] f = refl
  all_left n (x ∷ xs) f = rw f.0 (ap (λ ys. x ∷ ys) (all_left n xs f.1))

  moved : (n : ℕ) (x : A) (xs : List A) → eqb n (key x) ≡ true → AllByRecursion (λ y. eqb (key x) (key y) ≡ false) xs → AllByRecursion (λ y. eqb n (key y) ≡ false) xs
  moved n x xs e h = subst (λ m. AllByRecursion (λ y. eqb m (key y) ≡ false) xs) (sym (eqb-true n (key x) e)) h

module _ {A V : Type 0} (key : A → ℕ) where
  -- the thing with a number, with its entry
  pub data Row (P : A → V → Type 0) (n : ℕ) (xs : List A) (o : Option V) : Type 0 where
    Is : (x : A) (w : V) → find (λ y. eqb n (key y)) xs ≡ Some x → o ≡ Some w → eqb n (key x) ≡ true → P x w → Row P n xs o
    IsNone : find (λ y. eqb n (key y)) xs ≡ None → o ≡ None → Row P n xs o

  row_by : (P : A → V → Type 0) (n : ℕ) (xs : List A) (es : List (ℕ × V)) → Tabled key P xs es → Row P n xs (lookup (eqb n) es)
  row_by P n [] [] t = IsNone refl refl
  row_by P n [] (e ∷ es) t = absurd t
  row_by P n (x ∷ xs) [] t = absurd t
  row_by P n (x ∷ xs) (e ∷ es) t = by (row_by P n xs es t.2) (eqb n (key x)) refl
    where
      by : Row P n xs (lookup (eqb n) es) → (b : Bool) → eqb n (key x) ≡ b → Row P n (x ∷ xs) (lookup (eqb n) (e ∷ es))
      by r true q = Is x e.1 (rw q refl) (let k : eqb n e.0 ≡ true = rw t.0 q in rw k refl) q t.1
      by (Is y w f o k p) false q = Is y w (rw q f) (let j : eqb n e.0 ≡ false = rw t.0 q in rw j o) k p
      by (IsNone f o) false q = IsNone (rw q f) (let j : eqb n e.0 ≡ false = rw t.0 q in rw j o)

  -- what the map has at a number
  pub row : (P : A → V → Type 0) (n : ℕ) (xs : List A) (es : List (ℕ × V)) → Tabled key P xs es → Row P n xs (lookup (is_at (nat_cmp n)) es)
  row P n xs es t = subst (λ (f : ℕ → Bool). Row P n xs (lookup f es)) (sym (at-is n)) (row_by P n xs es t)

  -- what P says, Q says too
  pub retold : (P Q : A → V → Type 0) → ((x : A) (w : V) → P x w → Q x w) → (xs : List A) (es : List (ℕ × V)) → Tabled key P xs es → Tabled key Q xs es
  retold P Q i [] [] t = tt
  retold P Q i [] (e ∷ es) t = t
  retold P Q i (x ∷ xs) [] t = t
  retold P Q i (x ∷ xs) (e ∷ es) t = (t.0, i x e.1 t.1, retold P Q i xs es t.2)

  -- the same where something is known of each thing
  pub retold_of : (B : A → Type 0) (P Q : A → V → Type 0) → ((x : A) (w : V) → B x → P x w → Q x w) → (xs : List A) (es : List (ℕ × V)) → AllByRecursion B xs → Tabled key P xs es → Tabled key Q xs es
  retold_of B P Q i [] [] b t = tt
  retold_of B P Q i [] (e ∷ es) b t = t
  retold_of B P Q i (x ∷ xs) [] b t = t
  retold_of B P Q i (x ∷ xs) (e ∷ es) b t = (t.0, i x e.1 b.0 t.1, retold_of B P Q i xs es b.1 t.2)

  -- P and Q agree at things of other numbers
  abbrev pub Agree : ℕ → (A → V → Type 0) → (A → V → Type 0) → Type 0
  Agree n P Q = (x : A) (w : V) → eqb n (key x) ≡ false → P x w → Q x w

  others_retold : (P Q : A → V → Type 0) (n : ℕ) → Agree n P Q → (xs : List A) (es : List (ℕ × V)) → AllByRecursion (λ y. eqb n (key y) ≡ false) xs → Tabled key P xs es → Tabled key Q xs es
  others_retold P Q n a xs es far t = retold_of (λ y. eqb n (key y) ≡ false) P Q (λ x w f p. a x w f p) xs es far t

  removed_by : (P Q : A → V → Type 0) (n : ℕ) → Agree n P Q → (xs : List A) (es : List (ℕ × V)) → Apart key xs → Tabled key P xs es → Tabled key Q (filter (λ y. not (eqb n (key y))) xs) (remove_entry (eqb n) es)
  removed_by P Q n a [] [] p t = tt
  removed_by P Q n a [] (e ∷ es) p t = absurd t
  removed_by P Q n a (x ∷ xs) [] p t = absurd t
  removed_by P Q n a (x ∷ xs) (e ∷ es) p t = by (removed_by P Q n a xs es p.1 t.2) (eqb n (key x)) refl
    where
      by : Tabled key Q (filter (λ y. not (eqb n (key y))) xs) (remove_entry (eqb n) es) → (b : Bool) → eqb n (key x) ≡ b
          → Tabled key Q (filter (λ y. not (eqb n (key y))) (x ∷ xs)) (remove_entry (eqb n) (e ∷ es))
      by r true q = let k : eqb n e.0 ≡ true = rw t.0 q in
          rw (q, k) (subst (λ ys. Tabled key Q ys es) (sym (all_left key n xs (moved key n x xs q p.0))) (others_retold P Q n a xs es (moved key n x xs q p.0) t.2))
      by r false q = let k : eqb n e.0 ≡ false = rw t.0 q in rw (q, k) (t.0, a x e.1 q t.1, r)

  -- one taken out
  pub removed : (P Q : A → V → Type 0) (n : ℕ) → Agree n P Q → (xs : List A) (es : List (ℕ × V)) → Apart key xs → Tabled key P xs es → Tabled key Q (filter (λ y. not (eqb n (key y))) xs) (remove_entry (is_at (nat_cmp n)) es)
  removed P Q n a xs es p t = subst (λ (f : ℕ → Bool). Tabled key Q (filter (λ y. not (eqb n (key y))) xs) (remove_entry f es)) (sym (at-is n)) (removed_by P Q n a xs es p t)

  changed_by : (P Q : A → V → Type 0) (n : ℕ) (w : V) → Agree n P Q → (xs : List A) (es : List (ℕ × V)) → Apart key xs → ((x : A) → find (λ y. eqb n (key y)) xs ≡ Some x → Q x w) → Tabled key P xs es → Tabled key Q xs (set_value (eqb n) es w)
  changed_by P Q n w a [] [] p h t = tt
  changed_by P Q n w a [] (e ∷ es) p h t = absurd t
  changed_by P Q n w a (x ∷ xs) [] p h t = absurd t
  changed_by P Q n w a (x ∷ xs) (e ∷ es) p h t = by (λ k. changed_by P Q n w a xs es p.1 k t.2) (eqb n (key x)) refl
    where
      by : (((y : A) → find (λ z. eqb n (key z)) xs ≡ Some y → Q y w) → Tabled key Q xs (set_value (eqb n) es w)) → (b : Bool) → eqb n (key x) ≡ b → Tabled key Q (x ∷ xs) (set_value (eqb n) (e ∷ es) w)
      by r true q = let k : eqb n e.0 ≡ true = rw t.0 q in rw k (t.0, h x (rw q refl), others_retold P Q n a xs es (moved key n x xs q p.0) t.2)
      by r false q = let k : eqb n e.0 ≡ false = rw t.0 q in rw k (t.0, a x e.1 q t.1, r (λ y f. h y (rw q f)))

  -- the entry of one changed
  pub changed : (P Q : A → V → Type 0) (n : ℕ) (w : V) → Agree n P Q → (xs : List A) (es : List (ℕ × V)) → Apart key xs → ((x : A) → find (λ y. eqb n (key y)) xs ≡ Some x → Q x w) → Tabled key P xs es → Tabled key Q xs (set_value (is_at (nat_cmp n)) es w)
  changed P Q n w a xs es p h t = subst (λ (f : ℕ → Bool). Tabled key Q xs (set_value f es w)) (sym (at-is n)) (changed_by P Q n w a xs es p h t)

  -- one with a number above all, put at the end
  pub inserted : (P Q : A → V → Type 0) (y : A) (w : V) (xs : List A) (es : List (ℕ × V)) → AllByRecursion (λ x. key x < key y) xs → ((x : A) (v : V) → key x < key y → P x v → Q x v) → Q y w → Tabled key P xs es → Tabled key Q (xs ++ y ∷ []) (insert_entry nat_cmp es (key y) w)
  inserted P Q y w [] [] b i h t = (refl, h, tt)
  inserted P Q y w [] (e ∷ es) b i h t = absurd t
  inserted P Q y w (x ∷ xs) [] b i h t = absurd t
  inserted P Q y w (x ∷ xs) (e ∷ es) b i h t =
      let same : e.0 ≡ key x = t.0 in
      let below : ltb (key y) e.0 ≡ false = le-ltb (key y) e.0 (omega (arith, b.0)) in
      let apart : eqb (key y) e.0 ≡ false = ne_eqb (key y) e.0 (λ q. omega (arith, b.0)) in
      rw (below, apart) (t.0, i x e.1 b.0 t.1, inserted P Q y w xs es b.1 i h t.2)

  -- the map's keys are the numbers, and there are as many entries as things
  pub keys_are : (P : A → V → Type 0) (xs : List A) (es : List (ℕ × V)) → Tabled key P xs es → keys_of es ≡ map key xs
  keys_are P [] [] t = refl
  keys_are P [] (e ∷ es) t = absurd t
  keys_are P (x ∷ xs) [] t = absurd t
  keys_are P (x ∷ xs) (e ∷ es) t = rw (t.0, keys_are P xs es t.2) refl

  pub as_many : (P : A → V → Type 0) (xs : List A) (es : List (ℕ × V)) → Tabled key P xs es → length es ≡ length xs
  as_many P [] [] t = refl
  as_many P [] (e ∷ es) t = absurd t
  as_many P (x ∷ xs) [] t = absurd t
  as_many P (x ∷ xs) (e ∷ es) t = simp (as_many P xs es t.2) refl

-- what is left of a map where one value was changed and then taken out is left where it was taken out at once
pub remove_set : {K X : Type 0} (test : K → Bool) (es : List (K × X)) (w : X) → remove_entry test (set_value test es w) ≡ remove_entry test es
remove_set test [] w = refl
remove_set test (e ∷ es) w = by (remove_set test es w) (test e.0) refl
  where
    by : remove_entry test (set_value test es w) ≡ remove_entry test es → (b : Bool) → test e.0 ≡ b → remove_entry test (set_value test (e ∷ es) w) ≡ remove_entry test (e ∷ es)
    by r true q = rw (q, q) refl
    by r false q = rw (q, q) (ap (λ fs. e ∷ fs) r)

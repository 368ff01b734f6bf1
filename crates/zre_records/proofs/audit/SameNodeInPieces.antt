-- Whether a second capture is of the same node as the first, seen in pieces.
use Rattle.std.proofs.Common.{◌≡◌, ◌⊎◌, inl, inr, ℕ, zero, suc, ◌+◌, ◌-◌, ◌≤◌, false, nat_eq, ◌&&◌, eqb, List, [], ◌∷◌, ◌++◌, length, min, take, take_all, Option, Some, None, refl, sym, ap, ◌∙◌, subst, arith}
use Rattle.std.proofs.lemmas.Bool.{cases_lt}
use Rattle.zre_audit.specs.Prefixes.{begins}
use Rattle.zre_values.specs.declared.settings.Settings.{Settings}
use Rattle.zre_records.specs.audit.Again.{Sees, IsSeen}
use Rattle.zre_records.specs.audit.Audit.{own_front, is_again}
use Rattle.zre_records.specs.declared.audit.again.Again.{Again}

front_begins : (h xs : List ℕ) → begins nat_eq h (take (length h) xs) ≡ begins nat_eq h xs
front_begins [] xs = refl
front_begins (x ∷ h) [] = refl
front_begins (x ∷ h) (y ∷ xs) = ap (λ b. eqb x y && b) (front_begins h xs)

pub sees : (s : Settings) (o : List ℕ) (a : Again) → Sees s o a → begins nat_eq a.own a.front ≡ is_again (Some s) o
sees s o a k = ap (λ (h : List ℕ). begins nat_eq h a.front) k.own_is ∙ ap (begins nat_eq (own_front s)) k.front_is ∙ front_begins (own_front s) o

-- ---- more octets

take_on : (k : ℕ) (o x : List ℕ) (room : ℕ) → k ≡ length (take k o) + room → take k (o ++ x) ≡ take k o ++ take room x
take_on zero o x room e = ap (λ (n : ℕ). take n x) (the_room room e)
  where
    the_room : (n : ℕ) → 0 ≡ 0 + n → 0 ≡ n
    the_room n e = omega (arith, e)
take_on (suc k) [] x room e = ap (λ (n : ℕ). take n x) (the_room room e)
  where
    the_room : (n : ℕ) → suc k ≡ 0 + n → suc k ≡ n
    the_room n e = omega (arith, e)
take_on (suc k) (b ∷ o) x room e = ap (λ (r : List ℕ). b ∷ r) (take_on k o x room (omega (arith, e)))

no_longer : (n : ℕ) (x : List ℕ) (m : ℕ) → (m ≡ n) ⊎ ((m ≡ length x) × (length x ≤ n)) → take m x ≡ take n x
no_longer n x m (inl e) = ap (λ (k : ℕ). take k x) e
no_longer n x m (inr e) = ap (λ (k : ℕ). take k x) e.0 ∙ take_all (length x) x (omega arith) ∙ sym (take_all n x e.1)

few_is : (n l m : ℕ) → m ≡ min n l → (m ≡ n) ⊎ ((m ≡ l) × (l ≤ n))
few_is n l m e = elim (cases_lt n l) [ inl lt ↦ inl (omega (arith, e, lt)) | inr le ↦ inr (omega (arith, e, le), le) ]

take_le : (k : ℕ) (o : List ℕ) → length (take k o) ≤ k
take_le zero o = omega arith
take_le (suc k) [] = omega arith
take_le (suc k) (b ∷ o) = let r = take_le k o in omega (arith, r)

pub sees_more : (s : Settings) (o x : List ℕ) (a b : Again) (room m : ℕ) → Sees s o a → b.own ≡ a.own → b.front ≡ a.front ++ take m x → room ≡ length a.own - length a.front → m ≡ min room (length x) → Sees s (o ++ x) b
sees_more s o x a b room m k own front is few = record {
  own_is = own ∙ k.own_is;
  front_is = front ∙ ap (λ (t : List ℕ). t ++ take m x) k.front_is
      ∙ ap (λ (t : List ℕ). take (length (own_front s)) o ++ t) (no_longer room x m (few_is room (length x) m few))
      ∙ sym (take_on (length (own_front s)) o x room (omega (arith, take_le (length (own_front s)) o, is, ap length k.own_is, ap length k.front_is)));
}

-- ---- where there is one

pub seen_same : (told : Option Settings) (o : List ℕ) (again : Option Again) (a : Again) → again ≡ Some a → IsSeen told o again → begins nat_eq a.own a.front ≡ is_again told o
seen_same told o again a e k = by told (subst (λ (n : Option Again). IsSeen told o n) e k)
  where
    by : (t : Option Settings) → IsSeen t o (Some a) → begins nat_eq a.own a.front ≡ is_again t o
    by None k = absurd k
    by (Some s) k = sees s o a k

pub seen_none : (told : Option Settings) (o : List ℕ) (again : Option Again) → again ≡ None → IsSeen told o again → false ≡ is_again told o
seen_none None o again e k = refl
seen_none (Some s) o None e k = absurd k
seen_none (Some s) o (Some a) e k = absurd cc

pub seen_more : (told : Option Settings) (o x : List ℕ) (before now : Option Again) (a b : Again) (room m : ℕ) → before ≡ Some a → now ≡ Some b → IsSeen told o before → b.own ≡ a.own → b.front ≡ a.front ++ take m x
    → room ≡ length a.own - length a.front → m ≡ min room (length x) → IsSeen told (o ++ x) now
seen_more told o x before now a b room m e f k own front is few = subst (λ (n : Option Again). IsSeen told (o ++ x) n) (sym f) (by told (subst (λ (n : Option Again). IsSeen told o n) e k))
  where
    by : (t : Option Settings) → IsSeen t o (Some a) → IsSeen t (o ++ x) (Some b)
    by None k = absurd k
    by (Some s) k = sees_more s o x a b room m k own front is few

pub still_none : (told : Option Settings) (o x : List ℕ) (before now : Option Again) → before ≡ None → now ≡ None → IsSeen told o before → IsSeen told (o ++ x) now
still_none None o x before None e f k = tt
still_none None o x before (Some a) e f k = absurd cc
still_none (Some s) o x None now e f k = absurd k
still_none (Some s) o x (Some a) now e f k = absurd cc

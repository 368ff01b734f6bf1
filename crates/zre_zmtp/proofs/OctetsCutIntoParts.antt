-- A longer stream has the same parts, and then those of what was left with what came.
use Rattle.std.proofs.Common.{◌≡◌, ℕ, zero, suc, ◌≤◌, List, [], ◌∷◌, ◌++◌, length, take, drop, Option, Some, None, refl, sym, ap, subst, ◌∙◌, arith, inl, inr, append_assoc}
use Rattle.std.specs.Prelude.{◌⊎◌, option_to_list}
use Rattle.std.proofs.lemmas.List.{length-drop, take-append-le, drop-append-le, append-nil}
use Rattle.zre_zmtp.specs.Stream.{Want, Before, Kind, Whole, Traffic, Parts, before, part_len, cut, split, item, items_of}
use Rattle.zre_zmtp.specs.Run.{after, Found, with_item, run}
use Rattle.zre_zmtp.proofs.FaultsStay.{part_len-stays, part_len-bounds}

-- whether there is a value, with the equation
pub cases_Option : {A : Type 0} (o : Option A) → (o ≡ None) ⊎ ((x : A) × (o ≡ Some x))
cases_Option None = inl refl
cases_Option (Some x) = inr (x, refl)

pub cut-none : (want : Want) (kind : Kind) (n : ℕ) (parts : Parts) (o : List ℕ) → part_len want (before kind parts) o ≡ None → cut want kind n parts o ≡ (parts, o)
unfolding cut
cut-none want kind zero parts o e = refl
cut-none want kind (suc n) parts o e = rw e refl

pub cut-some : (want : Want) (kind : Kind) (n : ℕ) (parts : Parts) (o : List ℕ) (len : ℕ) → part_len want (before kind parts) o ≡ Some len
    → cut want kind (suc n) parts o ≡ cut want kind n (take len o ∷ parts) (drop len o)
unfolding cut
cut-some want kind n parts o len e = rw e refl

-- the length of what is after a part
pub shorter : (want : Want) (b : Before) (o : List ℕ) (len n : ℕ) → part_len want b o ≡ Some len → length o ≤ suc n → length (drop len o) ≤ n
shorter want b o len n e h = let p = part_len-bounds want b o len e in omega (arith, p.0, p.1, h, length-drop len o)

pub not_empty : (want : Want) (b : Before) (o : List ℕ) (len : ℕ) → part_len want b o ≡ Some len → length o ≤ 0 → ⊥
not_empty want b o len e h = let p = part_len-bounds want b o len e in omega (arith, p.0, p.1, h)

pub cut-enough : (want : Want) (kind : Kind) (n m : ℕ) (parts : Parts) (o : List ℕ) → length o ≤ n → length o ≤ m → cut want kind n parts o ≡ cut want kind m parts o
cut-enough want kind zero m parts o h k =
    elim (cases_Option (part_len want (before kind parts) o)) [
      | inl e ↦ cut-none want kind 0 parts o e ∙ sym (cut-none want kind m parts o e)
      | inr p ↦ absurd (not_empty want (before kind parts) o p.0 p.1 h)
    ]
cut-enough want kind (suc n) zero parts o h k =
    elim (cases_Option (part_len want (before kind parts) o)) [
      | inl e ↦ cut-none want kind (suc n) parts o e ∙ sym (cut-none want kind 0 parts o e)
      | inr p ↦ absurd (not_empty want (before kind parts) o p.0 p.1 k)
    ]
cut-enough want kind (suc n) (suc m) parts o h k =
    elim (cases_Option (part_len want (before kind parts) o)) [
      | inl e ↦ cut-none want kind (suc n) parts o e ∙ sym (cut-none want kind (suc m) parts o e)
      | inr p ↦ cut-some want kind n parts o p.0 p.1
          ∙ cut-enough want kind n m (take p.0 o ∷ parts) (drop p.0 o) (shorter want (before kind parts) o p.0 n p.1 h) (shorter want (before kind parts) o p.0 m p.1 k)
          ∙ sym (cut-some want kind m parts o p.0 p.1)
    ]

-- what is left of o after the parts that begin it, with more after that
abbrev pub cut_on : Want → Kind → Parts × List ℕ → List ℕ → Parts × List ℕ
cut_on want kind c p = cut want kind (length (c.1 ++ p)) c.0 (c.1 ++ p)

pub cut-more : (want : Want) (kind : Kind) (n m : ℕ) (parts : Parts) (o p : List ℕ) → length o ≤ n → length (o ++ p) ≤ m
    → cut want kind m parts (o ++ p) ≡ cut_on want kind (cut want kind n parts o) p
cut-more want kind zero m parts o p h k =
    elim (cases_Option (part_len want (before kind parts) o)) [
      | inl e ↦ cut-enough want kind m (length (o ++ p)) parts (o ++ p) k (omega arith) ∙ ap (λ c. cut_on want kind c p) (sym (cut-none want kind 0 parts o e))
      | inr q ↦ absurd (not_empty want (before kind parts) o q.0 q.1 h)
    ]
cut-more want kind (suc n) zero parts o p h k =
    elim (cases_Option (part_len want (before kind parts) o)) [
      | inl e ↦ cut-enough want kind 0 (length (o ++ p)) parts (o ++ p) k (omega arith) ∙ ap (λ c. cut_on want kind c p) (sym (cut-none want kind (suc n) parts o e))
      | inr q ↦ absurd (not_empty want (before kind parts) (o ++ p) q.0 (part_len-stays want (before kind parts) o p q.0 q.1) k)
    ]
cut-more want kind (suc n) (suc m) parts o p h k =
    elim (cases_Option (part_len want (before kind parts) o)) [
      | inl e ↦ cut-enough want kind (suc m) (length (o ++ p)) parts (o ++ p) k (omega arith) ∙ ap (λ c. cut_on want kind c p) (sym (cut-none want kind (suc n) parts o e))
      | inr q ↦ (let len = q.0 in
          let b = before kind parts in
          let within : len ≤ length o = (part_len-bounds want b o len q.1).1 in
          let more = part_len-stays want b o p len q.1 in
          let same : cut want kind m (take len (o ++ p) ∷ parts) (drop len (o ++ p)) ≡ cut want kind m (take len o ∷ parts) (drop len o ++ p) =
          rw (take-append-le len o p within, drop-append-le len o p within) refl in
          let room : length (drop len o ++ p) ≤ m = rw (← drop-append-le len o p within) (shorter want b (o ++ p) len m more k) in
          cut-some want kind m parts (o ++ p) len more
          ∙ same
          ∙ cut-more want kind n m (take len o ∷ parts) (drop len o) p (shorter want b o len n q.1 h) room
          ∙ ap (λ c. cut_on want kind c p) (sym (cut-some want kind n parts o len q.1)))
    ]

-- the law of the definition: the parts of a longer stream
pub split-more : (want : Want) (kind : Kind) (o p : List ℕ) → split want kind (o ++ p) ≡ cut_on want kind (split want kind o) p
split-more want kind o p = cut-more want kind (length o) (length (o ++ p)) [] o p (omega arith) (omega arith)

-- nothing more is whole after the parts
pub cut-ends : (want : Want) (kind : Kind) (n : ℕ) (parts : Parts) (o : List ℕ) → length o ≤ n
    → part_len want (before kind (cut want kind n parts o).0) (cut want kind n parts o).1 ≡ None
cut-ends want kind zero parts o h =
    elim (cases_Option (part_len want (before kind parts) o)) [
      | inl e ↦ rw (cut-none want kind 0 parts o e) e
      | inr p ↦ absurd (not_empty want (before kind parts) o p.0 p.1 h)
    ]
cut-ends want kind (suc n) parts o h =
    elim (cases_Option (part_len want (before kind parts) o)) [
      | inl e ↦ rw (cut-none want kind (suc n) parts o e) e
      | inr p ↦ rw (cut-some want kind n parts o p.0 p.1) (cut-ends want kind n (take p.0 o ∷ parts) (drop p.0 o) (shorter want (before kind parts) o p.0 n p.1 h))
    ]

-- ---- what the parts tell

pub before-cons : (kind : Kind) (part : List ℕ) (parts : Parts) → before kind (part ∷ parts) ≡ after (before kind parts) part
before-cons Whole part [] = refl
before-cons Whole part (ready ∷ []) = refl
before-cons Whole part (last ∷ ready ∷ parts) = refl
before-cons Traffic part parts = refl

-- ---- a reader after some parts

pub run-none : (want : Want) (n : ℕ) (b : Before) (o : List ℕ) → part_len want b o ≡ None → run want n b o ≡ record { given = []; before = b; left = o }
unfolding run
run-none want zero b o e = refl
run-none want (suc n) b o e = rw e refl

pub run-some : (want : Want) (n : ℕ) (b : Before) (o : List ℕ) (len : ℕ) → part_len want b o ≡ Some len
    → run want (suc n) b o ≡ with_item (item b (take len o)) (run want n (after b (take len o)) (drop len o))
unfolding run
run-some want n b o len e = rw e refl

-- what is found is what the parts say
pub record Finds (kind : Kind) (parts : Parts) (c : Parts × List ℕ) (f : Found) : Type 0 where
  pub items : items_of kind c.0 ≡ items_of kind parts ++ f.given
  pub before : f.before ≡ before kind c.0
  pub left : f.left ≡ c.1

finds-none : (kind : Kind) (parts : Parts) (o : List ℕ) → Finds kind parts (parts, o) (record { given = []; before = before kind parts; left = o })
finds-none kind parts o = record { items = sym (append-nil (items_of kind parts)); before = refl; left = refl }

pub run-finds : (want : Want) (kind : Kind) (n : ℕ) (parts : Parts) (o : List ℕ) → Finds kind parts (cut want kind n parts o) (run want n (before kind parts) o)
unfolding cut run
run-finds want kind zero parts o = finds-none kind parts o
run-finds want kind (suc n) parts o =
    elim (cases_Option (part_len want (before kind parts) o)) [
      | inl e ↦ rw (cut-none want kind (suc n) parts o e, run-none want (suc n) (before kind parts) o e) (finds-none kind parts o)
      | inr p ↦ (let part = take p.0 o in
          let ih = run-finds want kind n (part ∷ parts) (drop p.0 o) in
          let f = run want n (after (before kind parts) part) (drop p.0 o) in
          let c = cut want kind n (part ∷ parts) (drop p.0 o) in
          let ih' : Finds kind (part ∷ parts) c f = subst (λ b. Finds kind (part ∷ parts) c (run want n b (drop p.0 o))) (before-cons kind part parts) ih in
          let goal : Finds kind parts c (with_item (item (before kind parts) part) f) =
          record { items = ih'.items ∙ append_assoc (items_of kind parts) (option_to_list (item (before kind parts) part)) f.given; before = ih'.before; left = ih'.left } in
          rw (cut-some want kind n parts o p.0 p.1, run-some want n (before kind parts) o p.0 p.1) goal)
    ]

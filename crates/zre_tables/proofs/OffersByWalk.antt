-- The offers of rows, found by a walk over all of them.
use Rattle.std.proofs.Common.{◌≡◌, ℕ, ◌<◌, ◌≤◌, ◌&&◌, Bool, true, false, eqb, ltb, List, [], ◌∷◌, ◌++◌, Some, None, refl, sym, ap, ◌∙◌, subst, arith, nat_cmp, Less, ne_eqb, eq-eqb, eqb-true, ltb-true, ltb-false, append_assoc}
use Rattle.std.proofs.lemmas.Cmp.{ranked}
use Rattle.std.specs.BTreeMap.{is_at}
use Rattle.std.specs.List.{AllByRecursion, list_any}
use Rattle.std.specs.List.Sorted.{IsStrictlySortedBy}
use Rattle.std.specs.Map.{keys_of}
use Rattle.zre_outside.specs.declared.act.Act.{Act}
use Rattle.zre_outside.specs.declared.act.Act.TheVariants as act
use Rattle.zre_link.specs.Link.{has_front}
use Rattle.zre_tables.specs.declared.peer.Peer.{Peer}
use Rattle.zre_tables.specs.Rows.{row_at}
use Rattle.zre_tables.specs.Searches.{begins_with, offered_among, since_link}
use Rattle.zre_tables.proofs.EntriesOfMaps.{at-eqb}

-- a link that isn't below another is found among some links where it is found among those since that one
found_since : (n k : ℕ) (ls : List ℕ) → n ≤ k → list_any (eqb k) ls ≡ list_any (eqb k) (since_link n ls)
found_since n k [] up = refl
found_since n k (l ∷ ls) up = by (found_since n k ls up) (ltb l n) refl
  where
    by : list_any (eqb k) ls ≡ list_any (eqb k) (since_link n ls) → (b : Bool) → ltb l n ≡ b → list_any (eqb k) (l ∷ ls) ≡ list_any (eqb k) (since_link n (l ∷ ls))
    by r true q = let less = ltb-true l n q in let off : eqb k l ≡ false = ne_eqb k l (λ e. omega (arith, e, less, up)) in rw (q, off) r
    by r false q = rw q refl

-- the same offers, by the links since that of the first row
offers_since : (n : ℕ) (ls : List ℕ) (es : List (ℕ × Peer)) → AllByRecursion (λ k. nat_cmp n k ≡ Less) (keys_of es) → offered_among ls es ≡ offered_among (since_link n ls) es
offers_since n ls [] a = refl
offers_since n ls (e ∷ es) a =
    let less = ranked n e.0 Less (sym a.0) in
    rw (found_since n e.0 ls (omega (arith, less)), offers_since n ls es a.1) refl

pub sorted_since : (n : ℕ) (ls : List ℕ) → IsStrictlySortedBy nat_cmp ls → IsStrictlySortedBy nat_cmp (since_link n ls)
unfolding IsStrictlySortedBy
sorted_since n [] s = s
sorted_since n (l ∷ ls) s = by (sorted_since n ls s.1) (ltb l n) refl
  where
    by : IsStrictlySortedBy nat_cmp (since_link n ls) → (b : Bool) → ltb l n ≡ b → IsStrictlySortedBy nat_cmp (since_link n (l ∷ ls))
    by r true q = rw q r
    by r false q = rw q s

none_above : (n : ℕ) (ls : List ℕ) → AllByRecursion (λ l. n < l) ls → list_any (eqb n) ls ≡ false
none_above n [] a = refl
none_above n (l ∷ ls) a = let less = a.0 in let off : eqb n l ≡ false = ne_eqb n l (λ e. omega (arith, e, less)) in rw off (none_above n ls a.1)

all_above : (n l : ℕ) (ls : List ℕ) → n ≤ l → AllByRecursion (λ k. nat_cmp l k ≡ Less) ls → AllByRecursion (λ k. n < k) ls
all_above n l [] low a = tt
all_above n l (k ∷ ks) low a = let less = ranked l k Less (sym a.0) in (omega (arith, less, low), all_above n l ks low a.1)

-- among rising links since another, that one can be the first alone
first_alone : (n : ℕ) (ls : List ℕ) → IsStrictlySortedBy nat_cmp ls → list_any (eqb n) (since_link n ls) ≡ begins_with n (since_link n ls)
unfolding IsStrictlySortedBy
first_alone n [] s = refl
first_alone n (l ∷ ls) s = by (first_alone n ls s.1) (ltb l n) refl (eqb n l) refl
  where
    by : list_any (eqb n) (since_link n ls) ≡ begins_with n (since_link n ls) → (b : Bool) → ltb l n ≡ b → (d : Bool) → eqb n l ≡ d
        → list_any (eqb n) (since_link n (l ∷ ls)) ≡ begins_with n (since_link n (l ∷ ls))
    by r true q d p = rw q r
    by r false q true p = rw (q, p) refl
    by r false q false p = let high = ltb-false l n q in rw (q, p) (none_above n ls (all_above n l ls (omega (arith, high)) s.0))

-- a row's link is among rising links where they begin with it
pub is_among : (n : ℕ) (ls : List ℕ) → IsStrictlySortedBy nat_cmp ls → list_any (eqb n) ls ≡ begins_with n (since_link n ls)
is_among n ls s = found_since n n ls (omega arith) ∙ first_alone n ls s

-- a row that is offered, or isn't, and the others
pub offered_first : (ls : List ℕ) (e : ℕ × Peer) (es : List (ℕ × Peer)) (acts acts' all : List Act) → IsStrictlySortedBy nat_cmp ls → IsStrictlySortedBy nat_cmp (keys_of (e ∷ es))
    → begins_with e.0 (since_link e.0 ls) ≡ true → has_front e.1.link ≡ true → acts' ≡ acts ++ act.Offer e.0 ∷ []
    → acts ++ offered_among ls (e ∷ es) ≡ all → acts' ++ offered_among (since_link e.0 ls) es ≡ all
unfolding IsStrictlySortedBy
offered_first ls e es acts acts' all s keys is front put so =
    let among = is_among e.0 ls s ∙ is in
    let here : offered_among ls (e ∷ es) ≡ act.Offer e.0 ∷ offered_among ls es = rw (among, front) refl in
    ap (λ (xs : List Act). xs ++ offered_among (since_link e.0 ls) es) put ∙ append_assoc acts (act.Offer e.0 ∷ []) (offered_among (since_link e.0 ls) es)
    ∙ ap (λ (xs : List Act). acts ++ act.Offer e.0 ∷ xs) (sym (offers_since e.0 ls es keys.0)) ∙ ap (λ (xs : List Act). acts ++ xs) (sym here) ∙ so

pub not_first : (ls : List ℕ) (e : ℕ × Peer) (es : List (ℕ × Peer)) (acts all : List Act) → IsStrictlySortedBy nat_cmp ls → IsStrictlySortedBy nat_cmp (keys_of (e ∷ es))
    → (begins_with e.0 (since_link e.0 ls) && has_front e.1.link) ≡ false → acts ++ offered_among ls (e ∷ es) ≡ all → acts ++ offered_among (since_link e.0 ls) es ≡ all
unfolding IsStrictlySortedBy
not_first ls e es acts all s keys off so =
    let none = ap (λ b. b && has_front e.1.link) (is_among e.0 ls s) ∙ off in
    let here : offered_among ls (e ∷ es) ≡ offered_among ls es = rw none refl in
    ap (λ (xs : List Act). acts ++ xs) (sym (offers_since e.0 ls es keys.0) ∙ sym here) ∙ so

pub sorted_rest : (e : ℕ × Peer) (es : List (ℕ × Peer)) → IsStrictlySortedBy nat_cmp (keys_of (e ∷ es)) → IsStrictlySortedBy nat_cmp (keys_of es)
unfolding IsStrictlySortedBy
sorted_rest e es s = s.1

pub not_both : (a b : Bool) → a ≡ true → b ≡ false → (a && b) ≡ false
not_both a b p q = rw (p, q) refl

pub no_first : (a b : Bool) → a ≡ false → (a && b) ≡ false
no_first a b p = rw p refl

-- ---- the rows that are left

-- the rest of the rows, each of which stands among all of them
abbrev pub Left : List (ℕ × Peer) → List (ℕ × Peer) → Type 0
Left all es = IsStrictlySortedBy nat_cmp (keys_of es) × ((n : ℕ) (x : Peer) → Some x ≡ row_at n es → Some x ≡ row_at n all)

-- the first of them does
pub first_left : (all : List (ℕ × Peer)) (e : ℕ × Peer) (es : List (ℕ × Peer)) → Left all (e ∷ es) → Some e.1 ≡ row_at e.0 all
first_left all e es left =
    let at : is_at (nat_cmp e.0) e.0 ≡ true = at-eqb e.0 e.0 ∙ eq-eqb e.0 e.0 refl in
    left.1 e.0 e.1 (rw at refl)

-- a number below those of some rows has none among them
none_below : (n : ℕ) (es : List (ℕ × Peer)) → AllByRecursion (λ k. nat_cmp n k ≡ Less) (keys_of es) → row_at n es ≡ None
none_below n [] a = refl
none_below n (e ∷ es) a =
    let less = ranked n e.0 Less (sym a.0) in
    let off : is_at (nat_cmp n) e.0 ≡ false = at-eqb n e.0 ∙ ne_eqb n e.0 (λ q. omega (arith, q, less)) in
    rw off (none_below n es a.1)

-- and so do those after it
pub idle_left : (all : List (ℕ × Peer)) (e : ℕ × Peer) (es : List (ℕ × Peer)) → Left all (e ∷ es) → Left all es
unfolding IsStrictlySortedBy
idle_left all e es left = (left.0.1, λ n x at. by n x at (eqb n e.0) refl)
  where
    by : (n : ℕ) (x : Peer) → Some x ≡ row_at n es → (b : Bool) → eqb n e.0 ≡ b → Some x ≡ row_at n all
    by n x at false q = let off : is_at (nat_cmp n) e.0 ≡ false = at-eqb n e.0 ∙ q in left.1 n x (rw off at)
    by n x at true q =
        let here : row_at n es ≡ None = subst (λ m. row_at m es ≡ None) (sym (eqb-true n e.0 q)) (none_below e.0 es left.0.0) in
        let no : Some x ≡ None = at ∙ here in
        absurd cc

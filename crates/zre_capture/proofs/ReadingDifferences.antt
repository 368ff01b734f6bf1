-- Readings of a clock by what they differ by from the one before, and numbers in bounds.
use Rattle.std.proofs.Common.{subst, ◌≡◌, ℕ, ◌+◌, ◌-◌, ◌<◌, ◌≤◌, ◌^◌, ◌==◌, ◌&&◌, leb, ltb, true, false, List, [], ◌∷◌, length, drop, Option, Some, None, inl, inr, refl, sym, ap, ◌∙◌, arith, get_or}
use Rattle.std.specs.Prelude.{decimal, SomeIff}
use Rattle.std.specs.Str.Parse.{digits_value, AllDigits}
use Rattle.std.proofs.lemmas.Bool.{and_parts, and_from, le-leb, leb-true, leb-false, lt-leb, eq-eqb, lt-ltb, ltb-true, ne_eqb, cases_Bool}
use Rattle.std.proofs.lemmas.Fmt.{decimal_is_IsNumeral}
use Rattle.std.proofs.lemmas.Option.{same_Some}
use Rattle.std.proofs.lemmas.Str.Parse.{digit_from_value}
use Rattle.zre_capture.specs.Lines.{difference}
use Rattle.zre_capture.specs.Values.{number_of, number_within, differing, reading_after}
use Rattle.zre_capture.proofs.FieldTexts.{found, spelled-one, none_spec, number_of-decimal, number_of-some}
use Rattle.zre_capture.proofs.VisibleFields.{visible, decimal-visible}

-- ---- numbers in bounds

pub record IsWithin (least most n : ℕ) (field : List ℕ) : Type 0 where
  pub above : least ≤ n
  pub below : n ≤ most
  pub text : decimal n ≡ field

pub within-some : (least most : ℕ) (field : List ℕ) (n : ℕ) → number_within least most field ≡ Some n → IsWithin least most n field
unfolding number_within
within-some least most field n e =
    let f = found decimal _ (digits_value 10 field) field n e in
    let p = and_parts _ _ f.is_valid in
    let above : least ≤ digits_value 10 field = leb-true _ _ p.0 in
    let below : digits_value 10 field ≤ most = leb-true _ _ p.1 in
    record { above = omega (arith, above, f.same); below = omega (arith, below, f.same); text = f.spelled }

pub within-decimal : (least most n : ℕ) → n < 2 ^ 64 → least ≤ n → n ≤ most → number_within least most (decimal n) ≡ Some n
unfolding number_within
within-decimal least most n fits above below =
    let same : digits_value 10 (decimal n) ≡ n = (decimal_is_IsNumeral n fits).1 in
    spelled-one decimal _ (digits_value 10 (decimal n)) (decimal n) n same
    (ap (λ (v : ℕ). leb least v && leb v most) same ∙ and_from _ _ (le-leb least n above) (le-leb n most below)) refl

-- a number whose text is that of one in bounds is it
pub within-number : (least most n w : ℕ) (field : List ℕ) → most < 2 ^ 64 → number_of field ≡ Some n → number_within least most field ≡ Some w → IsWithin least most n field
within-number least most n w field fits is e =
    let t = within-some least most field w e in
    let below = t.below in
    let same : w ≡ n = same_Some w n (sym (number_of-decimal w (omega (arith, below, fits))) ∙ ap number_of t.text ∙ is) in
    subst (λ (v : ℕ). IsWithin least most v field) same t

-- ---- differences

-- the first octet of a number isn't a minus
record Digits (n : ℕ) : Type 0 where
  first : ℕ
  more : List ℕ
  cons : decimal n ≡ first ∷ more
  no_minus : (first == 45) ≡ false

digits_from : (n : ℕ) (ds : List ℕ) → decimal n ≡ ds → AllDigits 10 ds → 0 < length ds → Digits n
digits_from n [] e all some = absurd (omega (arith, some))
digits_from n (d ∷ ds) e all some =
    let range = digit_from_value d all.0 in
    record { first = d; more = ds; cons = e; no_minus = ne_eqb d 45 (λ same. omega (arith, range, same)) }

digits : (n : ℕ) → n < 2 ^ 64 → Digits n
digits n lt = let is = (decimal_is_IsNumeral n lt).0 in digits_from n (decimal n) refl is.1 is.0

differing-more : (before : ℕ) (c : ℕ) (ds : List ℕ) → (c == 45) ≡ false → differing before (c ∷ ds) ≡ before + digits_value 10 (c ∷ ds)
differing-more before c ds e = rw e refl

differing-decimal : (before k : ℕ) → k < 2 ^ 64 → differing before (decimal k) ≡ before + k
differing-decimal before k lt =
    let d = digits k lt in
    ap (differing before) d.cons ∙ differing-more before d.first d.more d.no_minus ∙ ap (λ (t : List ℕ). before + digits_value 10 t) (sym d.cons)
    ∙ ap (λ (v : ℕ). before + v) (decimal_is_IsNumeral k lt).1

differing-minus : (before k : ℕ) → k < 2 ^ 64 → differing before (45 ∷ decimal k) ≡ before - k
differing-minus before k lt = ap (λ (v : ℕ). before - v) (decimal_is_IsNumeral k lt).1

pub difference-up : (before at : ℕ) → before ≤ at → difference before at ≡ decimal (at - before)
difference-up before at le = rw (le-leb before at le) refl

difference-down : (before at : ℕ) → leb before at ≡ false → difference before at ≡ 45 ∷ decimal (before - at)
difference-down before at e = rw e refl

back_to : (before at : ℕ) → before < 2 ^ 64 → at < 2 ^ 64 → differing before (difference before at) ≡ at
back_to before at lb la =
    elim (cases_Bool (leb before at)) [
      | inl is ↦
          let le : before ≤ at = leb-true before at is in
          let sum : before + (at - before) ≡ at = omega (arith, le) in
          ap (differing before) (difference-up before at le) ∙ differing-decimal before (at - before) (omega (arith, la)) ∙ sum
      | inr isnt ↦
          let gt : at < before = leb-false before at isnt in
          let sum : before - (before - at) ≡ at = omega (arith, gt) in
          ap (differing before) (difference-down before at isnt) ∙ differing-minus before (before - at) (omega (arith, lb)) ∙ sum
    ]

pub reading_after-difference : (before at : ℕ) → before < 2 ^ 64 → at < 2 ^ 64 → reading_after before (difference before at) ≡ Some at
unfolding reading_after
reading_after-difference before at lb la =
    let same = back_to before at lb la in
    spelled-one (difference before) _ (differing before (difference before at)) (difference before at) at same
    (ap (λ (v : ℕ). ltb v (2 ^ 64)) same ∙ lt-ltb at (2 ^ 64) la) refl

pub record IsDifference (before at : ℕ) (field : List ℕ) : Type 0 where
  pub fits : at < 2 ^ 64
  pub text : difference before at ≡ field

pub reading_after-some : (before : ℕ) (field : List ℕ) (at : ℕ) → reading_after before field ≡ Some at → IsDifference before at field
unfolding reading_after
reading_after-some before field at e =
    let f = found (difference before) _ (differing before field) field at e in
    let lt : differing before field < 2 ^ 64 = ltb-true _ _ f.is_valid in
    record { fits = omega (arith, lt, f.same); text = f.spelled }

pub difference-visible : (before at : ℕ) → before < 2 ^ 64 → at < 2 ^ 64 → visible (difference before at) ≡ true
difference-visible before at lb la =
    elim (cases_Bool (leb before at)) [
      | inl is ↦ ap visible (difference-up before at (leb-true before at is)) ∙ decimal-visible (at - before) (omega (arith, la))
      | inr isnt ↦ ap visible (difference-down before at isnt) ∙ and_from true (visible (decimal (before - at))) refl (decimal-visible (before - at) (omega (arith, lb)))
    ]

-- ---- as they are read

no_minus_first : (n : ℕ) (ds : List ℕ) → n < 2 ^ 64 → decimal n ≡ 45 ∷ ds → ⊥
no_minus_first n ds lt e =
    let d = digits n lt in
    let first : d.first ≡ 45 = ap (λ (l : List ℕ). get_or l 0 0) (sym d.cons ∙ e) in
    let is : (d.first == 45) ≡ true = eq-eqb d.first 45 first in
    let isnt = d.no_minus in
    absurd cc

-- a field with a minus
pub record IsLess (before at : ℕ) (ds : List ℕ) : Type 0 where
  pub less : at < before
  pub number : number_of ds ≡ Some (before - at)

pub less-some : (before at : ℕ) (ds : List ℕ) → before < 2 ^ 64 → reading_after before (45 ∷ ds) ≡ Some at → IsLess before at ds
less-some before at ds lb e =
    let t = reading_after-some before (45 ∷ ds) at e in
    let fits = t.fits in
    elim (cases_Bool (leb before at)) [
      | inl is ↦ absurd (no_minus_first (at - before) ds (omega (arith, fits)) (sym (difference-up before at (leb-true before at is)) ∙ t.text))
      | inr isnt ↦
          let same : decimal (before - at) ≡ ds = ap (drop 1) (sym (difference-down before at isnt) ∙ t.text) in
          record { less = leb-false before at isnt; number = ap number_of (sym same) ∙ number_of-decimal (before - at) (omega (arith, lb)) }
    ]

pub less-number : (before n : ℕ) (ds : List ℕ) → before < 2 ^ 64 → 0 < n → n ≤ before → number_of ds ≡ Some n → reading_after before (45 ∷ ds) ≡ Some (before - n)
less-number before n ds lb some le e =
    let t = number_of-some ds n e in
    let gt : leb before (before - n) ≡ false = lt-leb before (before - n) (omega (arith, some, le)) in
    let back : before - (before - n) ≡ n = omega (arith, le) in
    let text : difference before (before - n) ≡ 45 ∷ ds = difference-down before (before - n) gt ∙ ap (λ (k : ℕ). 45 ∷ decimal k) back ∙ ap (λ (l : List ℕ). 45 ∷ l) t.text in
    ap (reading_after before) (sym text) ∙ reading_after-difference before (before - n) lb (omega (arith, lb))

-- a field without one
pub record IsMore (before at : ℕ) (field : List ℕ) : Type 0 where
  pub more : before ≤ at
  pub fits : at < 2 ^ 64
  pub number : number_of field ≡ Some (at - before)

pub more-some : (before at c : ℕ) (ds : List ℕ) → (c ≡ 45 → ⊥) → reading_after before (c ∷ ds) ≡ Some at → IsMore before at (c ∷ ds)
more-some before at c ds other e =
    let t = reading_after-some before (c ∷ ds) at e in
    let fits = t.fits in
    elim (cases_Bool (leb before at)) [
      | inl is ↦
          let le : before ≤ at = leb-true before at is in
          record { more = le; fits = fits; number = ap number_of (sym t.text ∙ difference-up before at le) ∙ number_of-decimal (at - before) (omega (arith, fits)) }
      | inr isnt ↦ absurd (other (ap (λ (l : List ℕ). get_or l 0 0) (sym t.text ∙ difference-down before at isnt)))
    ]

pub more-number : (before n : ℕ) (field : List ℕ) → before + n < 2 ^ 64 → number_of field ≡ Some n → reading_after before field ≡ Some (before + n)
more-number before n field fits e =
    let t = number_of-some field n e in
    let le : before ≤ before + n = omega arith in
    let back : before + n - before ≡ n = omega arith in
    let text : difference before (before + n) ≡ field = difference-up before (before + n) le ∙ ap decimal back ∙ t.text in
    ap (reading_after before) (sym text) ∙ reading_after-difference before (before + n) (omega (arith, fits)) fits

-- nothing is no reading
pub no_field : (before at : ℕ) → reading_after before [] ≡ Some at → ⊥
no_field before at e =
    let t = reading_after-some before [] at e in
    let fits = t.fits in
    elim (cases_Bool (leb before at)) [
      | inl is ↦
          let d = digits (at - before) (omega (arith, fits)) in
          let none : d.first ∷ d.more ≡ [] = sym d.cons ∙ sym (difference-up before at (leb-true before at is)) ∙ t.text in
          absurd cc
      | inr isnt ↦ let none : 45 ∷ decimal (before - at) ≡ [] = sym (difference-down before at isnt) ∙ t.text in absurd cc
    ]

-- the reading that is a number more, where a clock has it
pub more-checked : (before n c : ℕ) (ds : List ℕ) (r : Option ℕ) → (c ≡ 45 → ⊥) → number_of (c ∷ ds) ≡ Some n → SomeIff r (before + n < 2 ^ 64) (before + n) → r ≡ reading_after before (c ∷ ds)
more-checked before n c ds (Some x) other is e = ap Some e.1 ∙ sym (more-number before n (c ∷ ds) e.0 is)
more-checked before n c ds None other is e =
    none_spec (reading_after before (c ∷ ds)) (λ v f.
    let t = more-some before v c ds other f in
    let more = t.more in
    let fits = t.fits in
    let same : n ≡ v - before = same_Some n (v - before) (sym is ∙ t.number) in
    absurd (e (omega (arith, more, fits, same))))

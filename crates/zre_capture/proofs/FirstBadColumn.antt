-- The first field that isn't as required, one field after the other.
use Rattle.std.proofs.Common.{◌≡◌, ℕ, ◌+◌, ◌<◌, Bool, true, false, cond, List, [], ◌∷◌, ◌++◌, length, Option, Some, None, refl, sym, ap, ◌∙◌, arith}
use Rattle.std.proofs.lemmas.List.{length-append}
use Rattle.zre_capture.specs.declared.field.Field.{Field}
use Rattle.zre_capture.specs.Parts.{Lacks}
use Rattle.zre_capture.specs.Reading.{fields_in, first_bad, but_last, meets, after, given_after}
use Rattle.zre_capture.proofs.FieldByField.{fields-cut, fields-whole, some_fields}

bad_here : (given : ℕ) (required : List Field) (f : List ℕ) (fs : List (List ℕ)) (at : ℕ) → meets given required f ≡ false → first_bad given required (f ∷ fs) at ≡ Some at
bad_here given required f fs at e = rw e refl

good_here : (given : ℕ) (required : List Field) (f : List ℕ) (fs : List (List ℕ)) (at : ℕ) → meets given required f ≡ true → first_bad given required (f ∷ fs) at ≡ first_bad (given_after given required f) (after required f) fs (at + (length f + 1))
good_here given required f fs at e = rw e refl

pub but_last-more : (f : List ℕ) (fs : List (List ℕ)) → 0 < length fs → but_last (f ∷ fs) ≡ f ∷ but_last fs
but_last-more f [] some = absurd (omega (arith, some))
but_last-more f (g ∷ fs) some = refl

-- the first field of a text, and the others
pub record Cut (text f rest : List ℕ) : Type 0 where
  pub all : fields_in text ≡ f ∷ fields_in rest
  pub whole_ones : but_last (fields_in text) ≡ f ∷ but_last (fields_in rest)

pub cut : (text f rest : List ℕ) → text ≡ f ++ (32 ∷ rest) → Lacks 32 f → Cut text f rest
cut text f rest e none =
    let all = fields-cut text f rest e none in
    record { all = all; whole_ones = ap but_last all ∙ but_last-more f (fields_in rest) (some_fields rest) }

pub all-bad : (given : ℕ) (required : List Field) (text f rest : List ℕ) (at : ℕ) → Cut text f rest → meets given required f ≡ false → first_bad given required (fields_in text) at ≡ Some at
all-bad given required text f rest at c e = ap (λ (fs : List (List ℕ)). first_bad given required fs at) c.all ∙ bad_here given required f (fields_in rest) at e

pub whole_ones-bad : (given : ℕ) (required : List Field) (text f rest : List ℕ) (at : ℕ) → Cut text f rest → meets given required f ≡ false → first_bad given required (but_last (fields_in text)) at ≡ Some at
whole_ones-bad given required text f rest at c e = ap (λ (fs : List (List ℕ)). first_bad given required fs at) c.whole_ones ∙ bad_here given required f (but_last (fields_in rest)) at e

pub all-good : (given : ℕ) (required : List Field) (text f rest : List ℕ) (at : ℕ) → Cut text f rest → meets given required f ≡ true → first_bad given required (fields_in text) at ≡ first_bad (given_after given required f) (after required f) (fields_in rest) (at + (length f + 1))
all-good given required text f rest at c e = ap (λ (fs : List (List ℕ)). first_bad given required fs at) c.all ∙ good_here given required f (fields_in rest) at e

pub whole_ones-good : (given : ℕ) (required : List Field) (text f rest : List ℕ) (at : ℕ) → Cut text f rest → meets given required f ≡ true → first_bad given required (but_last (fields_in text)) at ≡ first_bad (given_after given required f) (after required f) (but_last (fields_in rest)) (at + (length f + 1))
whole_ones-good given required text f rest at c e = ap (λ (fs : List (List ℕ)). first_bad given required fs at) c.whole_ones ∙ good_here given required f (but_last (fields_in rest)) at e

-- the last field
pub last-bad : (given : ℕ) (required : List Field) (text : List ℕ) (at : ℕ) → Lacks 32 text → meets given required text ≡ false → first_bad given required (fields_in text) at ≡ Some at
last-bad given required text at none e = ap (λ (fs : List (List ℕ)). first_bad given required fs at) (fields-whole text none) ∙ bad_here given required text [] at e

pub last-good : (given : ℕ) (required : List Field) (text : List ℕ) (at : ℕ) → Lacks 32 text → meets given required text ≡ true → first_bad given required (fields_in text) at ≡ None
last-good given required text at none e = ap (λ (fs : List (List ℕ)). first_bad given required fs at) (fields-whole text none) ∙ good_here given required text [] at e

pub last-left_out : (given : ℕ) (required : List Field) (text : List ℕ) (at : ℕ) → Lacks 32 text → first_bad given required (but_last (fields_in text)) at ≡ None
last-left_out given required text at none = ap (λ (fs : List (List ℕ)). first_bad given required (but_last fs) at) (fields-whole text none)

-- all fields, or those that are whole
pub either : (given : ℕ) (required : List Field) (whole : Bool) (all front : List (List ℕ)) (at : ℕ) (c : Option ℕ) → first_bad given required all at ≡ c → first_bad given required front at ≡ c → c ≡ first_bad given required (cond whole all front) at
either given required true all front at c p q = sym p
either given required false all front at c p q = sym q

pub cut-length : (text f rest : List ℕ) → text ≡ f ++ (32 ∷ rest) → length text ≡ length f + (length rest + 1)
cut-length text f rest e = let long = length-append f (32 ∷ rest) in ap length e ∙ (omega (arith, long))

-- Fields, one after the other.
use Rattle.std.proofs.Common.{◌≡◌, ℕ, ◌<◌, ◌==◌, List, [], ◌∷◌, ◌++◌, length, Some, None, refl, sym, ap, ◌∙◌, arith}
use Rattle.std.specs.Prelude.{option_map}
use Rattle.std.proofs.lemmas.List.Splits.{length-slice_split}
use Rattle.zre_capture.specs.Parts.{between, Lacks, one, two}
use Rattle.zre_capture.specs.Reading.{fields_in, alone}
use Rattle.zre_capture.proofs.TextParts.{between-cut, between-whole}

pub some_fields : (text : List ℕ) → 0 < length (fields_in text)
some_fields text = omega (arith, length-slice_split (λ b. b == 32) text)

one_of_more : (f : List ℕ) (fs : List (List ℕ)) → 0 < length fs → one (f ∷ fs) ≡ None
one_of_more f [] some = absurd (omega (arith, some))
one_of_more f (g ∷ fs) some = refl

pub some_parts : (o : ℕ) (text : List ℕ) → 0 < length (between o text)
some_parts o text = omega (arith, length-slice_split (λ b. b == o) text)

pub one-whole : (o : ℕ) (text : List ℕ) → Lacks o text → one (between o text) ≡ Some text
one-whole o text none = ap one (between-whole o text none)

pub one-cut : (o : ℕ) (text first rest : List ℕ) → text ≡ first ++ (o ∷ rest) → Lacks o first → one (between o text) ≡ None
one-cut o text first rest e none = ap one (between-cut o text first rest e none) ∙ one_of_more first (between o rest) (some_parts o rest)

two_of : (f : List ℕ) (fs : List (List ℕ)) → two (f ∷ fs) ≡ option_map (λ g. (f, g)) (one fs)
two_of f [] = refl
two_of f (a ∷ []) = refl
two_of f (a ∷ b ∷ fs) = refl

pub two-whole : (o : ℕ) (text : List ℕ) → Lacks o text → two (between o text) ≡ None
two-whole o text none = ap two (between-whole o text none)

pub two-cut : (o : ℕ) (text first rest : List ℕ) → text ≡ first ++ (o ∷ rest) → Lacks o first → two (between o text) ≡ option_map (λ g. (first, g)) (one (between o rest))
two-cut o text first rest e none = ap two (between-cut o text first rest e none) ∙ two_of first (between o rest)

not_alone : {V : Type 0} (value : V) (fs : List (List ℕ)) → 0 < length fs → alone value fs ≡ None
not_alone value [] some = absurd (omega (arith, some))
not_alone value (f ∷ fs) some = refl

-- a field stands after
pub never_alone : {V : Type 0} (value : V) (text : List ℕ) → None ≡ alone value (fields_in text)
never_alone value text = sym (not_alone value (fields_in text) (some_fields text))

pub fields-cut : (text first rest : List ℕ) → text ≡ first ++ (32 ∷ rest) → Lacks 32 first → fields_in text ≡ first ∷ fields_in rest
fields-cut text first rest e none = between-cut 32 text first rest e none

pub fields-whole : (text : List ℕ) → Lacks 32 text → fields_in text ≡ text ∷ []
fields-whole text none = between-whole 32 text none

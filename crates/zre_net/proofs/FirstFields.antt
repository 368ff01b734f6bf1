-- The first of several fields.
use Rattle.std.proofs.Common.{◌≡◌, ℕ, ◌<◌, Bor, List, [], ◌∷◌, length, Option, Some, None, MatchOption, option_map, refl, ap, sym, ◌∙◌, arith}
use Rattle.zre_capture.specs.Reading.{fields_in}
use Rattle.zre_capture.proofs.FieldByField.{some_fields}
use Rattle.zre_net.specs.Fields.{cut}

cut_of : (f : List ℕ) (fs : List (List ℕ)) → 0 < length fs → cut (f ∷ fs) ≡ Some (f, fs)
cut_of f [] some = absurd (omega (arith, some))
cut_of f (g ∷ fs) some = refl

-- a text with a field before others
pub cut-more : (text first rest : List ℕ) → fields_in text ≡ first ∷ fields_in rest → cut (fields_in text) ≡ Some (first, fields_in rest)
cut-more text first rest e = ap cut e ∙ cut_of first (fields_in rest) (some_fields rest)

-- what the first of several fields is, where there is one
pub cut-found : (text : List ℕ) (found : Option (Bor (List ℕ) × Bor (List ℕ)))
    → MatchOption found (fields_in text ≡ text ∷ []) (λ p. fields_in text ≡ p.0.now ∷ fields_in p.1.now)
    → option_map (λ p. (p.0.now, fields_in p.1.now)) found ≡ cut (fields_in text)
cut-found text None e = sym (ap cut e)
cut-found text (Some p) e = sym (cut-more text p.0.now p.1.now e)

-- Hexadecimal texts of octets, in parts.
use Rattle.std.proofs.Common.{◌≡◌, ℕ, ◌/◌, ◌%◌, List, [], ◌∷◌, ◌++◌, take, drop, slice_index, refl, sym, ap, ◌∙◌}
use Rattle.std.proofs.lemmas.List.{take-append-drop}
use Rattle.hex.specs.Hex.{encode_with, encode_lower, lower_digits}

encode_with-append : (t xs ys : List ℕ) → encode_with t (xs ++ ys) ≡ encode_with t xs ++ encode_with t ys
unfolding encode_with
encode_with-append t [] ys = refl
encode_with-append t (b ∷ xs) ys = ap (λ (r : List ℕ). slice_index t (b / 16) ∷ slice_index t (b % 16) ∷ r) (encode_with-append t xs ys)

-- the digits of a front, and those of what stands after it
pub encode_lower-split : (n : ℕ) (o : List ℕ) → encode_lower o ≡ encode_lower (take n o) ++ encode_lower (drop n o)
encode_lower-split n o = ap encode_lower (sym (take-append-drop n o)) ∙ encode_with-append lower_digits (take n o) (drop n o)

pub encode_lower-nil : encode_lower [] ≡ []
unfolding encode_with
encode_lower-nil = refl

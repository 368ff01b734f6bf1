-- Decimal digits.
use Rattle.std.proofs.Common.{◌≡◌, ℕ, ◌<◌, ◌^◌, ◌⊎◌, ◌==◌, true, false, List, [], ◌∷◌, refl, arith, inl, inr}
use Rattle.std.specs.Prelude.{decimal}
use Rattle.std.specs.List.{list_any}
use Rattle.std.specs.Str.{IsUtf8, bytes_eq}
use Rattle.std.specs.Str.Parse.{AllDigits}
use Rattle.std.proofs.lemmas.Bool.{ne_eqb}
use Rattle.std.proofs.lemmas.Fmt.{decimal_is_IsNumeral, IsAscii-decimal}
use Rattle.std.proofs.lemmas.Slice.Eq.{bytes_eq-Decides}
use Rattle.std.proofs.lemmas.Str.{IsUtf8-from_ascii}
use Rattle.std.proofs.lemmas.Str.Parse.{digit_from_value}

no_digit : (o : ℕ) (ds : List ℕ) → (o < 48) ⊎ (57 < o) → AllDigits 10 ds → list_any (λ b. b == o) ds ≡ false
no_digit o [] other all = refl
no_digit o (d ∷ ds) other all =
    let range = digit_from_value d all.0 in
    let differs : (d == o) ≡ false = elim other [
      | inl low ↦ ne_eqb d o (λ same. omega (arith, low, same, range))
      | inr high ↦ ne_eqb d o (λ same. omega (arith, high, same, range))
    ] in
    rw (differs, no_digit o ds other all.1) refl

-- no other octet stands among the digits of a number
pub decimal-lacks : (o n : ℕ) → n < 2 ^ 64 → (o < 48) ⊎ (57 < o) → list_any (λ b. b == o) (decimal n) ≡ false
decimal-lacks o n lt other = no_digit o (decimal n) other (decimal_is_IsNumeral n lt).0.1

-- digits are text
pub IsUtf8-decimal : (n : ℕ) → n < 2 ^ 64 → IsUtf8 (decimal n)
IsUtf8-decimal n lt = IsUtf8-from_ascii (decimal n) (IsAscii-decimal n lt)

-- equal texts are found equal
pub bytes_eq-same : (xs ys : List ℕ) → xs ≡ ys → bytes_eq xs ys ≡ true
bytes_eq-same xs ys e = (bytes_eq-Decides xs ys).1 e

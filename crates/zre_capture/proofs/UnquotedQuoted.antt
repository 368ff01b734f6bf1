-- Quoted texts and what they stand for.
use Rattle.std.proofs.Common.{◌≡◌, ℕ, ◌+◌, ◌*◌, ◌/◌, ◌%◌, ◌<◌, ◌^◌, ◌==◌, Bool, true, false, cond, List, [], ◌∷◌, ◌++◌, refl, sym, ap, ◌∙◌, arith, All}
use Rattle.std.specs.Prelude.{codes, flat_map}
use Rattle.std.specs.Str.{bytes_eq}
use Rattle.std.proofs.lemmas.Bool.{ne_eqb, false_from_ne_true}
use Rattle.std.proofs.lemmas.Bool.Decides.{nat_tests}
use Rattle.std.proofs.lemmas.List.Concat.{flat_map-cons}
use Rattle.std.proofs.lemmas.List.Elements.{All-head, All-tail}
use Rattle.std.proofs.lemmas.Slice.Eq.{bytes_eq-Decides}
use Rattle.zre_values.specs.Text.{hex_digit, is_plain, quoted_octet, quoted}
use Rattle.zre_values.proofs.QuotedTexts.{quoted-one}
use Rattle.zre_capture.specs.Values.{digit_value, unescaped, unquoted}

value-digit : (n : ℕ) → n < 16 → digit_value (hex_digit n) ≡ n
value-digit n lt = grind (arith, nat_tests)

pub not_percent : (b : ℕ) → is_plain b ≡ true → (b == 37) ≡ false
not_percent b e = ne_eqb b 37 (λ same. let p : is_plain 37 ≡ true = ap is_plain (sym same) ∙ e in absurd cc)

octet-plain : (b : ℕ) (r : List ℕ) → is_plain b ≡ true → unescaped [] (b ∷ r) ≡ b ∷ unescaped [] r
octet-plain b r e = rw (not_percent b e) refl

-- one octet is read back from its text
by_kind : (p : Bool) (b : ℕ) (r : List ℕ) → is_plain b ≡ p → b < 2 ^ 8 → unescaped [] (quoted_octet b ++ r) ≡ b ∷ unescaped [] r
by_kind true b r e lt = ap (λ (q : Bool). unescaped [] (cond q (b ∷ []) (37 ∷ hex_digit (b / 16) ∷ hex_digit (b % 16) ∷ []) ++ r)) e ∙ octet-plain b r e
by_kind false b r e lt =
    let high : digit_value (hex_digit (b / 16)) ≡ b / 16 = value-digit (b / 16) (omega (arith, lt)) in
    let low : digit_value (hex_digit (b % 16)) ≡ b % 16 = value-digit (b % 16) (omega arith) in
    let whole : digit_value (hex_digit (b / 16)) * 16 + digit_value (hex_digit (b % 16)) ≡ b = omega (arith, high, low) in
    ap (λ (q : Bool). unescaped [] (cond q (b ∷ []) (37 ∷ hex_digit (b / 16) ∷ hex_digit (b % 16) ∷ []) ++ r)) e ∙ ap (λ (n : ℕ). n ∷ unescaped [] r) whole

unescaped-octets : (v : List ℕ) → All (λ b. b < 2 ^ 8) v → unescaped [] (flat_map quoted_octet v) ≡ v
unescaped-octets [] h = refl
unescaped-octets (b ∷ v) h =
    ap (unescaped []) (flat_map-cons quoted_octet b v)
    ∙ by_kind (is_plain b) b (flat_map quoted_octet v) refl (All-head (λ n. n < 2 ^ 8) b v h)
    ∙ ap (λ (r : List ℕ). b ∷ r) (unescaped-octets v (All-tail (λ n. n < 2 ^ 8) b v h))

no_tilde : (b : ℕ) (v : List ℕ) → All (λ n. n < 2 ^ 8) (b ∷ v) → bytes_eq (flat_map quoted_octet (b ∷ v)) (codes "~") ≡ false
no_tilde b v h =
    false_from_ne_true _ (λ is.
    let same : flat_map quoted_octet (b ∷ v) ≡ codes "~" = (bytes_eq-Decides (flat_map quoted_octet (b ∷ v)) (codes "~")).0 is in
    let one : b ∷ v ≡ [] = quoted-one [] (b ∷ v) (λ k d lt. absurd (omega (arith, lt))) h (sym same) in
    absurd cc)

-- octets are read back from their quoted text
pub unquoted-quoted : (v : List ℕ) → All (λ b. b < 2 ^ 8) v → unquoted (quoted v) ≡ v
unquoted-quoted [] h = refl
unquoted-quoted (b ∷ v) h = rw (no_tilde b v h) (unescaped-octets (b ∷ v) h)

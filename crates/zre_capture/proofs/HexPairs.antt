-- Lower-case digits are what their octets are written in.
use Rattle.std.proofs.Common.{◌≡◌, ℕ, zero, suc, ◌+◌, ◌*◌, ◌/◌, ◌%◌, ◌<◌, ◌^◌, ◌==◌, ◌&&◌, ◌||◌, ltb, Bool, true, cond, List, [], ◌∷◌, length, slice_index, Some, Result, Ok, refl, sym, ap, ◌∙◌, arith, All, inl, inr}
use Rattle.std.specs.Prelude.{unwrap_or, is_some, codes}
use Rattle.std.specs.List.{list_all}
use Rattle.std.specs.Str.{bytes_eq}
use Rattle.std.specs.Result.{result_unwrap_or}
use Rattle.std.proofs.lemmas.Bool.{and_parts, and_from, eqb-true, eq-eqb, lt-ltb, ltb-true, cases_lt}
use Rattle.std.proofs.lemmas.Bool.Decides.{nat_tests}
use Rattle.std.proofs.lemmas.List.Elements.{All-head, All-tail}
use Rattle.hex.specs.Hex.{encode_with, encode_lower, lower_digits, hex_digit_value, decode_pairs, pair_value, value_at, digit_or_error}
use Rattle.hex.specs.declared.error.FromHexError.{FromHexError}
use Rattle.hex.proofs.HexLemmas.{length-encode_with, decode_of-even}
use Rattle.hex.proofs.Pairs.{cons_byte, decode_pairs-ok_pair}
use Rattle.zre_capture.specs.Lines.{hex_text}
use Rattle.zre_capture.specs.Values.{is_lower_digit, hex_of, decoded}
use Rattle.zre_capture.proofs.FieldTexts.{spelled-one, some_is, text_or_tested, hex_of-some, hex_of-text}

-- the value of a digit, and the octets of pairs of digits
abbrev pub value : ℕ → ℕ
value c = unwrap_or (hex_digit_value c) 0

abbrev pub pair_octets : List ℕ → List ℕ
pair_octets [] = []
pair_octets (a ∷ []) = []
pair_octets (a ∷ b ∷ rest) = (value a * 16 + value b) ∷ pair_octets rest

has_value : (c : ℕ) → is_lower_digit c ≡ true → hex_digit_value c ≡ Some (value c)
has_value c e = grind (arith, nat_tests, e)

pub value_below : (c : ℕ) → is_lower_digit c ≡ true → value c < 16
value_below c e = grind (arith, nat_tests, e)

-- the digit at a place of the table
abbrev digit : ℕ → ℕ
digit d = cond (ltb d 10) (48 + d) (87 + d)

abbrev all_at : ℕ → Bool
all_at zero = true
all_at (suc n) = (slice_index lower_digits n == digit n) && all_at n

all_at-place : (n d : ℕ) → all_at n ≡ true → d < n → slice_index lower_digits d ≡ digit d
all_at-place zero d h lt = absurd (omega arith)
all_at-place (suc n) d h lt =
    let p = and_parts (slice_index lower_digits n == digit n) (all_at n) h in
    elim (cases_lt d n) [
      | inl below ↦ all_at-place n d p.1 below
      | inr top ↦ let e : d ≡ n = omega arith in rw e (eqb-true _ _ p.0)
    ]

table : (d : ℕ) → d < 16 → slice_index lower_digits d ≡ digit d
table d lt = all_at-place 16 d refl lt

digit-value : (c : ℕ) → is_lower_digit c ≡ true → digit (value c) ≡ c
digit-value c e = grind (arith, nat_tests, e)

digit-lower : (d : ℕ) → d < 16 → is_lower_digit (digit d) ≡ true
digit-lower d lt = grind (arith, nat_tests)

halves : (x y : ℕ) → x < 16 → y < 16 → ((x * 16 + y) / 16 ≡ x) × ((x * 16 + y) % 16 ≡ y)
halves x y p q = (omega arith, omega arith)

abbrev lower : List ℕ → Bool
lower s = list_all is_lower_digit s

-- what two digits at the front and the others are
pub record Front (a b : ℕ) (rest : List ℕ) : Type 0 where
  pub a_is : is_lower_digit a ≡ true
  pub b_is : is_lower_digit b ≡ true
  pub rest_is : lower rest ≡ true

fronts : (a b : ℕ) (rest : List ℕ) → lower (a ∷ b ∷ rest) ≡ true → Front a b rest
fronts a b rest h =
    let p = and_parts (is_lower_digit a) (is_lower_digit b && lower rest) h in
    let q = and_parts (is_lower_digit b) (lower rest) p.1 in
    record { a_is = p.0; b_is = q.0; rest_is = q.1 }

-- digits are what their octets are written in
pub encode-pairs : (s : List ℕ) → length s % 2 ≡ 0 → lower s ≡ true → encode_lower (pair_octets s) ≡ s
unfolding encode_with
encode-pairs [] even h = refl
encode-pairs (a ∷ []) even h = absurd (omega arith)
encode-pairs (a ∷ b ∷ rest) even h =
    let f = fronts a b rest h in
    let va = value_below a f.a_is in
    let vb = value_below b f.b_is in
    let x = halves (value a) (value b) va vb in
    let high : slice_index lower_digits ((value a * 16 + value b) / 16) ≡ a = ap (slice_index lower_digits) x.0 ∙ table (value a) va ∙ digit-value a f.a_is in
    let low : slice_index lower_digits ((value a * 16 + value b) % 16) ≡ b = ap (slice_index lower_digits) x.1 ∙ table (value b) vb ∙ digit-value b f.b_is in
    ap (λ (c : ℕ). c ∷ slice_index lower_digits ((value a * 16 + value b) % 16) ∷ encode_with lower_digits (pair_octets rest)) high
    ∙ ap (λ (c : ℕ). a ∷ c ∷ encode_with lower_digits (pair_octets rest)) low
    ∙ ap (λ (r : List ℕ). a ∷ b ∷ r) (encode-pairs rest (omega arith) f.rest_is)

decode-pairs : (i : ℕ) (s : List ℕ) → length s % 2 ≡ 0 → lower s ≡ true → decode_pairs i s ≡ Ok (pair_octets s)
unfolding decode_pairs
decode-pairs i [] even h = refl
decode-pairs i (a ∷ []) even h = absurd (omega arith)
decode-pairs i (a ∷ b ∷ rest) even h =
    let f = fronts a b rest h in
    let ha : value_at a i ≡ Ok (value a) = ap (digit_or_error a i) (has_value a f.a_is) in
    let hb : value_at b (i + 1) ≡ Ok (value b) = ap (digit_or_error b (i + 1)) (has_value b f.b_is) in
    let pair : pair_value a b i ≡ Ok (value a * 16 + value b) = rw (ha, hb) refl in
    decode_pairs-ok_pair i a b _ rest pair ∙ ap (cons_byte (value a * 16 + value b)) (decode-pairs (i + 2) rest (omega arith) f.rest_is)

pairs-fit : (s : List ℕ) → lower s ≡ true → list_all (λ b. ltb b 256) (pair_octets s) ≡ true
pairs-fit [] h = refl
pairs-fit (a ∷ []) h = refl
pairs-fit (a ∷ b ∷ rest) h =
    let f = fronts a b rest h in
    let va = value_below a f.a_is in
    let vb = value_below b f.b_is in
    and_from (ltb (value a * 16 + value b) 256) _ (lt-ltb _ _ (omega (arith, va, vb))) (pairs-fit rest f.rest_is)

-- two digits for each of some octets
abbrev pub are_pairs : List ℕ → Bool
are_pairs s = (length s % 2 == 0) && (ltb 0 (length s) && lower s)

pub record ArePairs (s : List ℕ) : Type 0 where
  pub even : length s % 2 ≡ 0
  pub some : 0 < length s
  pub digits : lower s ≡ true

pub are_pairs-true : (s : List ℕ) → are_pairs s ≡ true → ArePairs s
are_pairs-true s h =
    let p = and_parts (length s % 2 == 0) (ltb 0 (length s) && lower s) h in
    let q = and_parts (ltb 0 (length s)) (lower s) p.1 in
    record { even = eqb-true _ _ p.0; some = ltb-true _ _ q.0; digits = q.1 }

text_of_some : (s o : List ℕ) → 0 < length s → encode_lower o ≡ s → hex_text o ≡ s
unfolding encode_with
text_of_some s [] some e = let none : 0 ≡ length s = ap length e in absurd (omega (arith, none, some))
text_of_some s (b ∷ o) some e = e

pub pairs-some : (s : List ℕ) → are_pairs s ≡ true → hex_of s ≡ Some (pair_octets s)
unfolding hex_of
pairs-some s h =
    let p = are_pairs-true s h in
    let same : decoded s ≡ pair_octets s = ap (λ (r : Result (List ℕ) FromHexError). result_unwrap_or r []) (decode_of-even s p.even ∙ decode-pairs 0 s p.even p.digits) in
    spelled-one hex_text _ (decoded s) s (pair_octets s) same (ap (list_all (λ b. ltb b 256)) same ∙ pairs-fit s p.digits) (text_of_some s (pair_octets s) p.some (encode-pairs s p.even p.digits))

pub encoded-lower : (v : List ℕ) → All (λ b. b < 2 ^ 8) v → lower (encode_lower v) ≡ true
unfolding encode_with
encoded-lower [] h = refl
encoded-lower (b ∷ v) h =
    let fits : b < 2 ^ 8 = All-head (λ n. n < 2 ^ 8) b v h in
    let high : b / 16 < 16 = omega (arith, fits) in
    let low : b % 16 < 16 = omega arith in
    and_from _ _ (ap is_lower_digit (table (b / 16) high) ∙ digit-lower (b / 16) high)
    (and_from _ _ (ap is_lower_digit (table (b % 16) low) ∙ digit-lower (b % 16) low) (encoded-lower v (All-tail (λ n. n < 2 ^ 8) b v h)))

by_text : (s v : List ℕ) → All (λ b. b < 2 ^ 8) v → hex_text v ≡ s → (s ≡ codes "-" → ⊥) → are_pairs s ≡ true
by_text s [] h e other = absurd (other (sym e))
by_text s (b ∷ v) h e other =
    let long : length s ≡ 2 * length (b ∷ v) = ap length (sym e) ∙ length-encode_with lower_digits (b ∷ v) in
    and_from _ _ (eq-eqb (length s % 2) 0 (omega (arith, long)))
    (and_from _ _ (lt-ltb 0 (length s) (omega (arith, long))) (ap lower (sym e) ∙ encoded-lower (b ∷ v) h))

pub some-pairs : (s v : List ℕ) → hex_of s ≡ Some v → (s ≡ codes "-" → ⊥) → are_pairs s ≡ true
some-pairs s v e other = let t = hex_of-some s v e in by_text s v t.is t.text other

pub hex_of-dash : hex_of (codes "-") ≡ Some []
hex_of-dash = hex_of-text [] (λ k d lt. absurd (omega (arith, lt)))

-- the test that takes no octets out
pub is_hex_test : (s : List ℕ) → is_some (hex_of s) ≡ (bytes_eq s (codes "-") || are_pairs s)
is_hex_test s = text_or_tested hex_of (codes "-") [] (are_pairs s) s hex_of-dash (λ is. some_is (hex_of s) (pair_octets s) (pairs-some s is)) (some-pairs s)

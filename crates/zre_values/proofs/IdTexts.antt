-- The digits of an identity, two for each octet.
use Rattle.std.proofs.Common.{◌≡◌, ℕ, ◌+◌, ◌*◌, ◌-◌, ◌/◌, ◌%◌, ◌<◌, ◌≤◌, List, length, get_or, slice_index, nat_lt, if◌then◌else◌, set, length-set, arith, ap, sym, ◌∙◌}
use Rattle.std.specs.Prelude.{slice_index_or}
use Rattle.uuid.specs.Text.{nibble, upper, simple_text}
use Rattle.uuid.specs.Text as uuid
use Rattle.uuid.proofs.TextLemmas.{nibble_even, nibble_odd, pair_written, by_index_same}
use Rattle.zre_values.specs.Text.{hex_digit}
use Rattle.zre_values.specs.Quoting.{row_of}

-- the digit at a place of the text
abbrev pub digit_at : List ℕ → ℕ → ℕ
digit_at octets k = uuid.hex_digit upper (nibble octets k)

-- the digits of the first octets stand in the text
pub record AreWritten (octets text : List ℕ) (i : ℕ) : Type 0 where
  pub digits : (k d : ℕ) → k < 2 * i → get_or text k d ≡ digit_at octets k
  pub size : length text ≡ 32
  pub within : i ≤ 16

digit_same : (d : ℕ) → hex_digit d ≡ uuid.hex_digit upper d
digit_same d =
    let letter : 55 + d ≡ 65 + d - 10 = omega arith in
    ap (λ (x : ℕ). if nat_lt d 10 then 48 + d else x) letter

pub written-none : (octets text : List ℕ) → length text ≡ 32 → AreWritten octets text 0
written-none octets text size = record { digits = λ k d under. absurd (omega (arith, under)); size = size; within = omega arith }

-- two digits more, from the row of the next octet
pub written-more : (octets text row : List ℕ) (i : ℕ) → AreWritten octets text i → i < 16 → slice_index octets i < 256 → row ≡ row_of (slice_index octets i)
    → AreWritten octets (set (set text (2 * i) (slice_index_or row 1 0)) (2 * i + 1) (slice_index_or row 2 0)) (i + 1)
written-more octets text row i before under fits is =
    let b = slice_index octets i in
    let half : b / 16 ≡ b / 16 % 16 = omega (arith, fits) in
    let high : slice_index_or row 1 0 ≡ digit_at octets (2 * i) =
    ap (λ (r : List ℕ). slice_index_or r 1 0) is ∙ digit_same (b / 16) ∙ ap (uuid.hex_digit upper) (half ∙ sym (nibble_even octets i)) in
    let low : slice_index_or row 2 0 ≡ digit_at octets (2 * i + 1) =
    ap (λ (r : List ℕ). slice_index_or r 2 0) is ∙ digit_same (b % 16) ∙ ap (uuid.hex_digit upper) (sym (nibble_odd octets i)) in
    let room : 2 * i + 1 < length text = omega (arith, under, before.size) in
    record {
      digits = pair_written text i (slice_index_or row 1 0) (slice_index_or row 2 0) (digit_at octets) room before.digits high low;
      size = length-set (set text (2 * i) (slice_index_or row 1 0)) (2 * i + 1) (slice_index_or row 2 0) ∙ length-set text (2 * i) (slice_index_or row 1 0) ∙ before.size;
      within = omega (arith, under);
    }

pub written-all : (octets text : List ℕ) (i : ℕ) → AreWritten octets text i → 16 ≤ i → text ≡ simple_text upper octets
written-all octets text i all over =
    by_index_same text 32 (digit_at octets) all.size (λ k d under. all.digits k d (omega (arith, under, over)))

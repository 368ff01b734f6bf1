-- The value of an octet as a digit.
use Rattle.std.specs.Prelude.{ℕ, ◌+◌, ◌*◌, List, slice_index, if◌then◌else◌, unwrap_or}
use Rattle.hex.specs.Hex.{hex_digit_value}
use Rattle.zre_capture.specs.Values.{is_lower_digit}

-- that of a digit in lower case, or 256 of another octet
abbrev pub digit_row : ℕ → ℕ
digit_row c = if is_lower_digit c then unwrap_or (hex_digit_value c) 0 else 256

-- both digits of the pair at this place as one number, which is below 256 where both are digits
abbrev pub pair_row : List ℕ → ℕ → ℕ
pair_row digits i = 16 * digit_row (slice_index digits (2 * i)) + digit_row (slice_index digits (2 * i + 1))

-- The values of fields. A field has a value where it is that value's text, and no value else: so it has one text alone.
use Rattle.std.specs.Prelude.{ℕ, ◌+◌, ◌-◌, ◌*◌, ◌^◌, ◌==◌, ◌&&◌, ◌||◌, nat_le, nat_lt, Bool, if◌then◌else◌, List, []}
use Rattle.std.specs.Prelude.{◌∷◌, ◌++◌, length, Option, Some, None, is_some, unwrap_or, decimal, codes, map}
use Rattle.std.specs.List.{list_all, slice_split}
use Rattle.std.specs.Result.{result_unwrap_or}
use Rattle.std.specs.Str.{bytes_eq}
use Rattle.std.specs.Str.Parse.{digits_value}
use Rattle.hex.specs.Hex.{decode_of}
use Rattle.uuid.specs.Text.{parsed}
use Rattle.zre_values.specs.declared.peer_id.PeerId.{PeerId}
use Rattle.zre_values.specs.Address.{address_text}
use Rattle.zre_values.specs.Text.{id_text, quoted, quoted_list}
use Rattle.zre_capture.specs.Lines.{hex_text, difference, input_word_text, command_word_text}
use Rattle.zre_capture.specs.declared.format.Format.{Format}
use Rattle.zre_capture.specs.declared.format.Format.TheVariants.{First, Second}
use Rattle.zre_capture.specs.declared.word.InputWord.{InputWord}
use Rattle.zre_capture.specs.declared.word.InputWord.TheVariants as word
use Rattle.zre_capture.specs.declared.word.CommandWord.{CommandWord}
use Rattle.zre_capture.specs.declared.word.CommandWord.TheVariants as order

-- the value, where it is one of its type and the field is its text
abbrev pub where_spelled : {V : Type 0} → (V → List ℕ) → Bool → V → List ℕ → Option V
where_spelled text valid value field = if valid && bytes_eq (text value) field then Some value else None

abbrev pub are_octets : List ℕ → Bool
are_octets o = list_all (λ b. nat_lt b 256) o

-- a number of 64 bits, decimal and without leading zeros
unfoldable pub number_of : List ℕ → Option ℕ
number_of field = where_spelled decimal (nat_lt (digits_value 10 field) (2 ^ 64)) (digits_value 10 field) field

-- the same, in these bounds
unfoldable pub number_within : ℕ → ℕ → List ℕ → Option ℕ
number_within least most field =
    where_spelled decimal (nat_le least (digits_value 10 field) && nat_le (digits_value 10 field) most)
    (digits_value 10 field) field

-- the reading that differs by a field from the one before
abbrev pub differing : ℕ → List ℕ → ℕ
differing before [] = before
differing before (c ∷ digits) =
    if c == 45 then before - digits_value 10 digits else before + digits_value 10 (c ∷ digits)

-- the same, where the field is what that differs by, and a clock has such a reading
unfoldable pub reading_after : ℕ → List ℕ → Option ℕ
reading_after before field =
    where_spelled (difference before) (nat_lt (differing before field) (2 ^ 64)) (differing before field) field

-- the reading of the clock that a line's first field tells
abbrev pub reading_of : Format → ℕ → List ℕ → Option ℕ
reading_of First before field = number_of field
reading_of Second before field = reading_after before field

-- the numbers between dots
abbrev pub dotted : List ℕ → List ℕ
dotted field = map (digits_value 10) (slice_split (λ b. b == 46) field)

-- an address a.b.c.d
unfoldable pub address_of : List ℕ → Option (List ℕ)
address_of field =
    where_spelled address_text ((length (dotted field) == 4) && are_octets (dotted field)) (dotted field) field

-- the octets whose digits these are
abbrev pub decoded : List ℕ → List ℕ
decoded field = result_unwrap_or (decode_of field) []

-- octets in lower-case hexadecimal digits, or `-`
unfoldable pub hex_of : List ℕ → Option (List ℕ)
hex_of field = where_spelled hex_text (are_octets (decoded field)) (decoded field) field

-- What has come of `%` and its two digits so far, with one more octet.
abbrev pub escape_after : List ℕ → ℕ → List ℕ
escape_after [] b = if b == 37 then b ∷ [] else []
escape_after (percent ∷ []) b = percent ∷ b ∷ []
escape_after (percent ∷ high ∷ more) b = []

abbrev pub digit_value : ℕ → ℕ
digit_value c = if nat_lt c 65 then c - 48 else c - 55

-- what that octet completes
abbrev pub completed : List ℕ → ℕ → List ℕ
completed [] b = if b == 37 then [] else b ∷ []
completed (percent ∷ []) b = []
completed (percent ∷ high ∷ more) b = (digit_value high * 16 + digit_value b) ∷ []

-- the octets of a text in which others than plain ones are `%` and two digits
abbrev pub unescaped : List ℕ → List ℕ → List ℕ
unescaped begun [] = []
unescaped begun (b ∷ bs) = completed begun b ++ unescaped (escape_after begun b) bs

-- the octets that a quoted text stands for
abbrev pub unquoted : List ℕ → List ℕ
unquoted field = if bytes_eq field (codes "~") then [] else unescaped [] field

-- a group
unfoldable pub group_of : List ℕ → Option (List ℕ)
group_of field = where_spelled quoted (are_octets (unquoted field)) (unquoted field) field

-- each is one
abbrev pub are_groups : List (List ℕ) → Bool
are_groups fields = list_all (λ field. is_some (group_of field)) fields

-- what a list of quoted members stands for
abbrev pub unquoted_list : List ℕ → List (List ℕ)
unquoted_list field = if bytes_eq field (codes "%") then [] else map unquoted (slice_split (λ b. b == 44) field)

-- frames
unfoldable pub frames_of : List ℕ → Option (List (List ℕ))
frames_of field = where_spelled quoted_list (list_all are_octets (unquoted_list field)) (unquoted_list field) field

-- a quoted text of few octets
unfoldable pub short_of : ℕ → List ℕ → Option (List ℕ)
short_of most field =
    where_spelled quoted (are_octets (unquoted field) && nat_le (length (unquoted field)) most) (unquoted field) field

-- the identity of thirty-two digits
abbrev pub id_in : List ℕ → PeerId
id_in field = record { 0 = unwrap_or (parsed field) [] }

-- an identity
unfoldable pub id_of : List ℕ → Option PeerId
id_of field =
    where_spelled id_text ((length (unwrap_or (parsed field) []) == 16) && are_octets (unwrap_or (parsed field) []))
    (id_in field) field

-- a lower-case digit
abbrev pub is_lower_digit : ℕ → Bool
is_lower_digit b = (nat_le 48 b && nat_le b 57) || (nat_le 97 b && nat_le b 102)

-- the first of some words that a field is
abbrev pub first_of : {W : Type 0} → (W → List ℕ) → List W → List ℕ → Option W
first_of text [] field = None
first_of text (w ∷ ws) field = if bytes_eq field (text w) then Some w else first_of text ws field

abbrev pub input_words : List InputWord
input_words =
    word.Datagram ∷ word.Opened ∷ word.Piece ∷ word.Shut ∷ word.Linked ∷ word.Reply ∷ word.Unlinked ∷ word.Took
    ∷ word.Tick ∷ word.Do ∷ word.End ∷ []

abbrev pub command_words : List CommandWord
command_words = order.Join ∷ order.Leave ∷ order.Whisper ∷ order.Shout ∷ order.Bad ∷ order.Quit ∷ []

-- the word that a field is
unfoldable pub input_word_of : List ℕ → Option InputWord
input_word_of field = first_of input_word_text input_words field

unfoldable pub command_word_of : List ℕ → Option CommandWord
command_word_of field = first_of command_word_text command_words field

-- Writes of a shared table as frames of content: fields with one space between.
use Rattle.std.specs.Prelude.{ℕ, ◌<◌, ◌≤◌, ◌^◌, nat_le, if◌then◌else◌, List, [], ◌∷◌, ◌++◌, length, All, Option, Some}
use Rattle.std.specs.Prelude.{None, codes, decimal}
use Rattle.std.specs.List.{join_with_byte}
use Rattle.std.specs.Str.{bytes_eq}
use Rattle.zre_values.specs.PlainId.{IsPeerId}
use Rattle.zre_values.specs.Text.{id_text, quoted}
use Rattle.zre_values.specs.declared.peer_id.PeerId.{PeerId}
use Rattle.zre_capture.specs.Parts.{between, ◌>>=◌}
use Rattle.zre_capture.specs.Values.{number_of, id_of, group_of}
use Rattle.zre_shared.specs.declared.write.Write.{Write}
use Rattle.zre_shared.specs.declared.write.TheConstants.{KEY_OCTETS, VALUE_OCTETS}

-- the fields of a write's frame
abbrev pub fields : Write → List (List ℕ)
fields w = codes "zre-set" ∷ decimal w.count ∷ id_text w.id ∷ quoted w.key ∷ quoted w.value ∷ []

-- its frame
abbrev pub write_text : Write → List ℕ
write_text w = join_with_byte 32 (fields w)

-- what stands in it before the key
abbrev pub head_text : ℕ → PeerId → List ℕ
head_text count id = codes "zre-set " ++ (decimal count ++ (32 ∷ (id_text id ++ 32 ∷ [])))

-- a write whose values are those of their types, and within the limits
pub record IsWrite (w : Write) : Type 0 where
  pub key : All (λ b. b < 2 ^ 8) w.key
  pub key_fits : length w.key ≤ KEY_OCTETS
  pub count : w.count < 2 ^ 64
  pub id : IsPeerId w.id
  pub value : All (λ b. b < 2 ^ 8) w.value
  pub value_fits : length w.value ≤ VALUE_OCTETS

-- ---- what a frame says

-- octets, where they are at most so many
abbrev pub at_most : ℕ → List ℕ → Option (List ℕ)
at_most most octets = if nat_le (length octets) most then Some octets else None

-- the octets of a quoted text, where they are at most so many
unfoldable pub short_of : ℕ → List ℕ → Option (List ℕ)
short_of most field = do
  octets ← group_of field
  at_most most octets

-- a key and a value
unfoldable pub pair_of : (key value : List ℕ) → Option (List ℕ × List ℕ)
pair_of key value = do
  k ← short_of KEY_OCTETS key
  v ← short_of VALUE_OCTETS value
  Some (k, v)

-- the write of the fields after the word
unfoldable pub said_by : (count id key value : List ℕ) → Option Write
said_by count id key value = do
  n ← number_of count
  i ← id_of id
  p ← pair_of key value
  Some (record { key = p.0; count = n; id = i; value = p.1 })

-- the write of all fields
abbrev pub write_in : List (List ℕ) → Option Write
write_in (word ∷ count ∷ id ∷ key ∷ value ∷ []) =
    if bytes_eq word (codes "zre-set") then said_by count id key value else None
write_in _ = None

-- the write that a frame is, if it is one
unfoldable pub write_of : List ℕ → Option Write
write_of frame = write_in (between 32 frame)

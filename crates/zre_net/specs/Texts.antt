-- Texts that the messages of links have in common, but for the numbers of these messages.
use Rattle.std.specs.Prelude.{◌≡◌, ℕ, ◌+◌, ◌%◌, ◌<◌, ◌≤◌, ◌&&◌, Bool, List, [], ◌∷◌, ◌++◌, take, drop, get_or, length}
use Rattle.std.specs.Prelude.{Some, if◌then◌else◌, nat_lt, nat_le, option_map}
use Rattle.std.specs.Int.{w16, to_be_bytes}
use Rattle.std.specs.Option.{option_map_or}
use Rattle.std.specs.List.{AllByRecursion}
use Rattle.zre_net.specs.declared.running.texts.Place.{Place}
use Rattle.zre_net.specs.declared.running.texts.Place.TheVariants as place
use Rattle.zre_net.specs.Lists.{nth}

-- ---- texts

-- a text, and after how many of its octets the number of a message stands in it; 0 where none does
pub record Text : Type 0 where
  pub octets : List ℕ
  pub at : ℕ

abbrev pub has_number : Text → Bool
has_number t = nat_lt 0 t.at && nat_le (t.at + 2) (length t.octets)

-- the text as the message with the number k (RFC 36, sequence)
abbrev pub numbered : ℕ → Text → List ℕ
numbered k t =
    if has_number t
    then take t.at t.octets ++ (to_be_bytes w16 (k % 65536) ++ drop (t.at + 2) t.octets)
    else t.octets

-- ---- where they are kept

-- the text at a place, among the octets of the short ones, or among the long ones
abbrev pub text_at : List ℕ → List (List ℕ) → Place → Text
text_at short long (place.Short start count at) = record { octets = take count (drop start short); at = at }
text_at short long (place.Long k at) = record { octets = get_or long k []; at = at }

-- a place among so many octets of short texts, and so many long ones
abbrev pub IsPlaced : ℕ → ℕ → Place → Type 0
IsPlaced octets texts (place.Short start count at) = start + count ≤ octets
IsPlaced octets texts (place.Long k at) = k < texts

-- a text was put at a place, and what stood at the others stands there now
pub record IsPut (short : List ℕ) (long : List (List ℕ)) (text : Text) (at : Place) (now : List ℕ)
    (longs : List (List ℕ)) : Type 0 where
  pub placed : IsPlaced (length now) (length longs) at
  pub is : text_at now longs at ≡ text
  pub others : (p : Place) → IsPlaced (length short) (length long) p
      → IsPlaced (length now) (length longs) p × (text_at now longs p ≡ text_at short long p)

-- ---- messages of a link, by the numbers of their texts

-- the message with the number k has the text with the number p
abbrev pub IsOfText : List Text → ℕ → ℕ → List ℕ → Type 0
IsOfText texts k p message = option_map (numbered k) (nth p texts) ≡ Some message

-- the messages with the numbers from k on
abbrev pub messages_from : ℕ → List Text → List ℕ → List (List ℕ)
messages_from k texts [] = []
messages_from k texts (p ∷ ps) = option_map_or (numbered k) (nth p texts) [] ∷ messages_from (k + 1) texts ps

-- all of these texts are there
abbrev pub AreThere : List Text → List ℕ → Type 0
AreThere texts ps = AllByRecursion (λ p. (t : Text) × (nth p texts ≡ Some t)) ps

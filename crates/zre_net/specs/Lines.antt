-- The links of a node, in a table that is counted from 1.
use Rattle.std.specs.Prelude.{◌≡◌, ◌⊎◌, ℕ, ◌+◌, List, [], ◌∷◌, ◌++◌, length, drop, Some, slice_get, slice_set}
use Rattle.std.specs.Prelude.{sum_by}
use Rattle.std.specs.Option.{option_map_or}
use Rattle.zre_outside.specs.declared.act.Act.{Act}
use Rattle.zre_outside.specs.declared.act.Act.TheVariants as act
use Rattle.zre_net.specs.declared.running.lines.Row.{Row}
use Rattle.zre_net.specs.Lists.{nth}
use Rattle.zre_net.specs.Texts.{Text, messages_from, AreThere}

-- a link: the messages that were put on it, as they are spelled, and how many octets waited after the last entry
pub record Line : Type 0 where
  pub messages : List (List ℕ)
  pub waited : ℕ

-- the link of a row, whose messages have texts among these
abbrev pub line_of : List Text → Row → Line
line_of texts x = record { messages = messages_from 1 texts x.places; waited = x.waited }

-- the texts of a row are there
abbrev pub HasTexts : List Text → Row → Type 0
HasTexts texts x = AreThere texts x.places

-- how many links were made
abbrev pub connects : List Act → ℕ
connects [] = 0
connects (act.Connect l to ∷ acts) = connects acts + 1
connects (_ ∷ acts) = connects acts

-- a link on which nothing was put
abbrev pub fresh : ℕ → Line
fresh handshake = record { messages = []; waited = handshake }

abbrev pub messages_at : ℕ → List Line → List (List ℕ)
messages_at l lines = option_map_or (λ (x : Line). x.messages) (nth l lines) []

abbrev pub waited_at : ℕ → ℕ → List Line → ℕ
waited_at handshake l lines = option_map_or (λ (x : Line). x.waited) (nth l lines) handshake

-- the octets of the messages of a link, and of all links
abbrev pub message_octets : Line → ℕ
message_octets x = sum_by (λ o. length o) x.messages

abbrev pub octets_in : List Line → ℕ
octets_in lines = sum_by message_octets lines

-- of a link with so many messages, where this waits, there is one message more than before at most: what waits after
-- what waited
pub record IsNoted (sent : ℕ) (waits : List ℕ) (x y : Line) : Type 0 where
  pub waited : y.waited ≡ length waits
  pub messages : ((sent ≡ length x.messages) × (y.messages ≡ x.messages))
      ⊎ ((sent ≡ length x.messages + 1) × (y.messages ≡ x.messages ++ drop x.waited waits ∷ []))

-- so it is of the link at this place, which is counted from 0, and the others are as before
pub record IsNotedAt (sent : ℕ) (waits : List ℕ) (place : ℕ) (xs ys : List Line) : Type 0 where
  pub before : Line
  pub now : Line
  pub was : slice_get xs place ≡ Some before
  pub is : ys ≡ slice_set xs place now
  pub noted : IsNoted sent waits before now

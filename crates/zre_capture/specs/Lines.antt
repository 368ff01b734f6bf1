-- The lines of entries. Fields stand with one space between, and a line feed after.
use Rattle.std.specs.Prelude.{ℕ, ◌-◌, ◌<◌, ◌≤◌, ◌^◌, nat_le, if◌then◌else◌, List, [], ◌∷◌, ◌++◌, length, codes, decimal}
use Rattle.std.specs.Prelude.{All}
use Rattle.std.specs.List.{join_with_byte}
use Rattle.hex.specs.Hex.{encode_lower}
use Rattle.zre_values.specs.Address.{address_text, IsAddress}
use Rattle.zre_values.specs.PlainId.{IsPeerId}
use Rattle.zre_values.specs.Text.{id_text, quoted, quoted_list}
use Rattle.zre_outside.specs.declared.entry.Entry.{Entry}
use Rattle.zre_outside.specs.declared.entry.Input.{Input}
use Rattle.zre_outside.specs.declared.entry.Input.TheVariants as got
use Rattle.zre_outside.specs.declared.entry.Command.{Command}
use Rattle.zre_outside.specs.declared.entry.Command.TheVariants as ask
use Rattle.zre_capture.specs.Formats.{longest}
use Rattle.zre_capture.specs.declared.format.Format.{Format}
use Rattle.zre_capture.specs.declared.format.Format.TheVariants.{First, Second}
use Rattle.zre_capture.specs.declared.word.InputWord.{InputWord}
use Rattle.zre_capture.specs.declared.word.InputWord.TheVariants as word
use Rattle.zre_capture.specs.declared.word.CommandWord.{CommandWord}
use Rattle.zre_capture.specs.declared.word.CommandWord.TheVariants as order

-- two digits an octet, in lower case; `-` for no octets
abbrev pub hex_text : List ℕ → List ℕ
hex_text [] = 45 ∷ []
hex_text (b ∷ bs) = encode_lower (b ∷ bs)

-- the word of a command
abbrev pub command_word_text : CommandWord → List ℕ
command_word_text order.Join = codes "join"
command_word_text order.Leave = codes "leave"
command_word_text order.Whisper = codes "whisper"
command_word_text order.Shout = codes "shout"
command_word_text order.Bad = codes "bad"
command_word_text order.Quit = codes "quit"

abbrev pub command_word : Command → CommandWord
command_word (ask.Join group) = order.Join
command_word (ask.Leave group) = order.Leave
command_word (ask.Whisper peer content) = order.Whisper
command_word (ask.Shout group content) = order.Shout
command_word (ask.Bad number) = order.Bad
command_word ask.Quit = order.Quit

-- what stands after it
abbrev pub command_fields : Command → List (List ℕ)
command_fields (ask.Join group) = quoted group ∷ []
command_fields (ask.Leave group) = quoted group ∷ []
command_fields (ask.Whisper peer content) = id_text peer ∷ quoted_list content ∷ []
command_fields (ask.Shout group content) = quoted group ∷ quoted_list content ∷ []
command_fields (ask.Bad number) = decimal number ∷ []
command_fields ask.Quit = []

-- the word of what happened
abbrev pub input_word_text : InputWord → List ℕ
input_word_text word.Datagram = codes "datagram"
input_word_text word.Opened = codes "opened"
input_word_text word.Piece = codes "piece"
input_word_text word.Shut = codes "shut"
input_word_text word.Linked = codes "linked"
input_word_text word.Reply = codes "reply"
input_word_text word.Unlinked = codes "unlinked"
input_word_text word.Took = codes "took"
input_word_text word.Tick = codes "tick"
input_word_text word.Do = codes "do"
input_word_text word.End = codes "end"

abbrev pub input_word : Input → InputWord
input_word (got.Datagram host bytes) = word.Datagram
input_word (got.Opened conn) = word.Opened
input_word (got.Piece conn bytes) = word.Piece
input_word (got.Shut conn) = word.Shut
input_word (got.Linked link) = word.Linked
input_word (got.Reply link bytes) = word.Reply
input_word (got.Unlinked link) = word.Unlinked
input_word (got.Took link count) = word.Took
input_word got.Tick = word.Tick
input_word (got.Do command) = word.Do
input_word got.End = word.End

-- what stands after it
abbrev pub input_fields : Input → List (List ℕ)
input_fields (got.Datagram host bytes) = address_text host ∷ hex_text bytes ∷ []
input_fields (got.Opened conn) = decimal conn ∷ []
input_fields (got.Piece conn bytes) = decimal conn ∷ hex_text bytes ∷ []
input_fields (got.Shut conn) = decimal conn ∷ []
input_fields (got.Linked link) = decimal link ∷ []
input_fields (got.Reply link bytes) = decimal link ∷ hex_text bytes ∷ []
input_fields (got.Unlinked link) = decimal link ∷ []
input_fields (got.Took link count) = decimal link ∷ decimal count ∷ []
input_fields got.Tick = []
input_fields (got.Do command) = command_word_text (command_word command) ∷ command_fields command
input_fields got.End = []

-- a command as it is written: its fields with one space between
abbrev pub command_text : Command → List ℕ
command_text command = join_with_byte 32 (command_word_text (command_word command) ∷ command_fields command)

-- what happened, as it is written
abbrev pub input_text : Input → List ℕ
input_text input = join_with_byte 32 (input_word_text (input_word input) ∷ input_fields input)

-- what a reading differs by from the one before: a number, with a minus where it is less
abbrev pub difference : ℕ → ℕ → List ℕ
difference before at = if nat_le before at then decimal (at - before) else 45 ∷ decimal (before - at)

-- how a line tells its entry's reading of the clock, by the reading before
abbrev pub reading_text : Format → ℕ → ℕ → List ℕ
reading_text First before at = decimal at
reading_text Second before at = difference before at

-- the fields of an entry: its clock reading, a word, and what belongs to that
abbrev pub fields : Format → ℕ → Entry → List (List ℕ)
fields f before e = reading_text f before e.at ∷ input_word_text (input_word e.input) ∷ input_fields e.input

-- an entry as it is written after this reading, without its line feed
abbrev pub text : Format → ℕ → Entry → List ℕ
text f before e = join_with_byte 32 (fields f before e)

-- the line of an entry
abbrev pub line : Format → ℕ → Entry → List ℕ
line f before e = text f before e ++ 10 ∷ []

-- the lines of entries, the first of them after this reading, each other after that of the entry before it
abbrev pub lines : Format → ℕ → List Entry → List ℕ
lines f before [] = []
lines f before (e ∷ es) = line f before e ++ lines f e.at es

-- ---- values that have a line: all that the code's types can hold

-- a number of 64 bits
abbrev pub IsNumber : ℕ → Type 0
IsNumber n = n < 2 ^ 64

abbrev pub IsOctets : List ℕ → Type 0
IsOctets o = All (λ b. b < 2 ^ 8) o

abbrev pub IsCommand : Command → Type 0
IsCommand (ask.Join group) = IsOctets group
IsCommand (ask.Leave group) = IsOctets group
IsCommand (ask.Whisper peer content) = IsPeerId peer × All IsOctets content
IsCommand (ask.Shout group content) = IsOctets group × All IsOctets content
IsCommand (ask.Bad number) = IsNumber number
IsCommand ask.Quit = Unit {0}

abbrev pub IsInput : Input → Type 0
IsInput (got.Datagram host bytes) = IsAddress host × IsOctets bytes
IsInput (got.Opened conn) = IsNumber conn
IsInput (got.Piece conn bytes) = IsNumber conn × IsOctets bytes
IsInput (got.Shut conn) = IsNumber conn
IsInput (got.Linked link) = IsNumber link
IsInput (got.Reply link bytes) = IsNumber link × IsOctets bytes
IsInput (got.Unlinked link) = IsNumber link
IsInput (got.Took link count) = IsNumber link × IsNumber count
IsInput got.Tick = Unit {0}
IsInput (got.Do command) = IsCommand command
IsInput got.End = Unit {0}

-- an entry whose values are those of their types
pub record IsEntry (e : Entry) : Type 0 where
  pub at : IsNumber e.at
  pub input : IsInput e.input

-- their lines aren't too long to be read
abbrev pub AreShort : Format → ℕ → List Entry → Type 0
AreShort f before [] = Unit {0}
AreShort f before (e ∷ es) = (length (text f before e) ≤ longest f) × AreShort f e.at es

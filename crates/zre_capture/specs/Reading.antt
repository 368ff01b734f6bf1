-- Lines as they are read: the settings of a head, the entry of a line, and where a line is bad.
use Rattle.std.specs.Prelude.{ℕ, ◌+◌, ◌==◌, ◌&&◌, nat_lt, Bool, false, if◌then◌else◌, List, [], ◌∷◌, length, take}
use Rattle.std.specs.Prelude.{Option, Some, None, is_some, option_map, unwrap_or, codes}
use Rattle.std.specs.Option.{option_map_or}
use Rattle.std.specs.List.{slice_split}
use Rattle.std.specs.Str.{bytes_eq}
use Rattle.zre_values.specs.declared.peer_id.PeerId.{PeerId}
use Rattle.zre_outside.specs.declared.entry.Entry.{Entry}
use Rattle.zre_outside.specs.declared.entry.Input.{Input}
use Rattle.zre_outside.specs.declared.entry.Input.TheVariants as got
use Rattle.zre_outside.specs.declared.entry.Command.{Command}
use Rattle.zre_outside.specs.declared.entry.Command.TheVariants as ask
use Rattle.zre_capture.specs.Formats.{longest}
use Rattle.zre_capture.specs.Headers.{headers_of}
use Rattle.zre_capture.specs.Parts.{◌>>=◌, one, two}
use Rattle.zre_capture.specs.Values.{number_of, number_within, reading_after, reading_of, address_of, hex_of, group_of}
use Rattle.zre_capture.specs.Values.{short_of, frames_of, id_of, input_word_of, command_word_of}
use Rattle.zre_capture.specs.declared.format.Format.{Format}
use Rattle.zre_capture.specs.declared.format.Format.TheVariants.{First, Second}
use Rattle.zre_capture.specs.declared.head.PlainSettings.{PlainSettings}
use Rattle.zre_capture.specs.declared.line_start.LineStart.{LineStart}
use Rattle.zre_values.specs.declared.settings.Settings.{Settings}
use Rattle.zre_capture.specs.declared.word.InputWord.{InputWord}
use Rattle.zre_capture.specs.declared.word.InputWord.TheVariants as word
use Rattle.zre_capture.specs.declared.word.CommandWord.{CommandWord}
use Rattle.zre_capture.specs.declared.word.CommandWord.TheVariants as order
use Rattle.zre_capture.specs.declared.field.Field.{Field}
use Rattle.zre_capture.specs.declared.field.Field.TheVariants as field

-- what stands between single spaces
abbrev pub fields_in : List ℕ → List (List ℕ)
fields_in text = slice_split (λ b. b == 32) text

-- ---- the entry of a line

-- the values of one field alone, or of two
unfoldable pub one_number : List (List ℕ) → Option ℕ
one_number fs = one fs >>= number_of

unfoldable pub one_group : List (List ℕ) → Option (List ℕ)
one_group fs = one fs >>= group_of

unfoldable pub two_numbers : List (List ℕ) → Option (ℕ × ℕ)
two_numbers fs = do
  p ← two fs
  n ← number_of p.0
  m ← number_of p.1
  Some (n, m)

unfoldable pub number_and_hex : List (List ℕ) → Option (ℕ × List ℕ)
number_and_hex fs = do
  p ← two fs
  n ← number_of p.0
  bytes ← hex_of p.1
  Some (n, bytes)

unfoldable pub address_and_hex : List (List ℕ) → Option (List ℕ × List ℕ)
address_and_hex fs = do
  p ← two fs
  host ← address_of p.0
  bytes ← hex_of p.1
  Some (host, bytes)

unfoldable pub id_and_frames : List (List ℕ) → Option (PeerId × List (List ℕ))
id_and_frames fs = do
  p ← two fs
  id ← id_of p.0
  content ← frames_of p.1
  Some (id, content)

unfoldable pub group_and_frames : List (List ℕ) → Option (List ℕ × List (List ℕ))
group_and_frames fs = do
  p ← two fs
  group ← group_of p.0
  content ← frames_of p.1
  Some (group, content)

-- what the first of some fields, a word, says with those after it
abbrev pub by_word : {W V : Type 0} → (List ℕ → Option W) → (W → List (List ℕ) → Option V) → List (List ℕ) → Option V
by_word word_of from [] = None
by_word word_of from (f ∷ fs) = do
  w ← word_of f
  from w fs

-- a value that no field stands after
abbrev pub alone : {V : Type 0} → V → List (List ℕ) → Option V
alone value [] = Some value
alone value (a ∷ more) = None

-- what the word of a command says with the fields after it
abbrev pub command_from : CommandWord → List (List ℕ) → Option Command
command_from order.Join fs = option_map ask.Join (one_group fs)
command_from order.Leave fs = option_map ask.Leave (one_group fs)
command_from order.Whisper fs = option_map (λ p. ask.Whisper p.0 p.1) (id_and_frames fs)
command_from order.Shout fs = option_map (λ p. ask.Shout p.0 p.1) (group_and_frames fs)
command_from order.Bad fs = option_map ask.Bad (one_number fs)
command_from order.Quit fs = alone ask.Quit fs

-- the command of some fields
unfoldable pub command_in : List (List ℕ) → Option Command
command_in fs = by_word command_word_of command_from fs

-- what the word of an entry says with the fields after it
abbrev pub input_from : InputWord → List (List ℕ) → Option Input
input_from word.Datagram fs = option_map (λ p. got.Datagram p.0 p.1) (address_and_hex fs)
input_from word.Opened fs = option_map got.Opened (one_number fs)
input_from word.Piece fs = option_map (λ p. got.Piece p.0 p.1) (number_and_hex fs)
input_from word.Shut fs = option_map got.Shut (one_number fs)
input_from word.Linked fs = option_map got.Linked (one_number fs)
input_from word.Reply fs = option_map (λ p. got.Reply p.0 p.1) (number_and_hex fs)
input_from word.Unlinked fs = option_map got.Unlinked (one_number fs)
input_from word.Took fs = option_map (λ p. got.Took p.0 p.1) (two_numbers fs)
input_from word.Tick fs = alone got.Tick fs
input_from word.Do fs = option_map got.Do (command_in fs)
input_from word.End fs = alone got.End fs

-- what happened, by the fields after the clock's reading
unfoldable pub input_in : List (List ℕ) → Option Input
input_in fs = by_word input_word_of input_from fs

-- the entry of some fields, in this format, after an entry with this reading
unfoldable pub entry_in : Format → ℕ → List (List ℕ) → Option Entry
entry_in f before [] = None
entry_in f before (t ∷ fs) = do
  at ← reading_of f before t
  input ← input_in fs
  Some (record { at = at; input = input })

-- the entry of a line, if it is the line of one
abbrev pub entry_of : Format → ℕ → List ℕ → Option Entry
entry_of f before text = entry_in f before (fields_in text)

-- ---- the settings of a head

-- times of silence: up to a day, from this one on
abbrev pub time_from : ℕ → List ℕ → Option ℕ
time_from least field = number_within least 86400000 field

-- the settings that are no texts
unfoldable pub plain_with : (id host port evasive expired : List ℕ) → Option PlainSettings
plain_with id host port evasive expired = do
  peer ← id_of id
  address ← address_of host
  number ← number_within 1 65535 port
  silent ← time_from 1 evasive
  gone ← time_from silent expired
  Some (record { id = peer; host = address; port = number; evasive = silent; expired = gone })

-- those and the two texts
abbrev pub settings_with : PlainSettings → (name headers : List ℕ) → Option Settings
settings_with plain name headers = do
  called ← short_of 255 name
  pairs ← headers_of headers
  Some (record {
    id = plain.id;
    host = plain.host;
    port = plain.port;
    name = called;
    headers = pairs;
    evasive = plain.evasive;
    expired = plain.expired;
  })

-- the settings of the fields of a head
unfoldable pub settings_in : List (List ℕ) → Option Settings
settings_in (magic ∷ number ∷ id ∷ name ∷ host ∷ port ∷ evasive ∷ expired ∷ headers ∷ []) =
    if bytes_eq magic (codes "zre-capture") && bytes_eq number (codes "2") then (plain_with id host port evasive expired
    >>= λ plain. settings_with plain name headers) else None
settings_in _ = None

-- the settings of a head of format 2, if it is one
abbrev pub settings_of : List ℕ → Option Settings
settings_of text = settings_in (fields_in text)

-- ---- where a line is bad

-- a field is as required, given the number on which that may rest: the reading before for a difference, and the time
-- before for another
abbrev pub is_field : ℕ → Field → List ℕ → Bool
is_field given field.Mark f = bytes_eq f (codes "zre-capture")
is_field given field.First f = bytes_eq f (codes "1")
is_field given field.Second f = bytes_eq f (codes "2")
is_field given field.Number f = is_some (number_of f)
is_field given field.Difference f = is_some (reading_after given f)
is_field given field.Input f = is_some (input_word_of f)
is_field given field.Command f = is_some (command_word_of f)
is_field given field.Address f = is_some (address_of f)
is_field given field.Hex f = is_some (hex_of f)
is_field given field.Group f = is_some (group_of f)
is_field given field.Frames f = is_some (frames_of f)
is_field given field.Id f = is_some (id_of f)
is_field given field.Name f = is_some (short_of 255 f)
is_field given field.Port f = is_some (number_within 1 65535 f)
is_field given field.Evasive f = is_some (time_from 1 f)
is_field given field.Expired f = is_some (time_from given f)
is_field given field.Headers f = is_some (headers_of f)

-- the fields that are required after the word of a command
abbrev pub command_form : CommandWord → List Field
command_form order.Join = field.Group ∷ []
command_form order.Leave = field.Group ∷ []
command_form order.Whisper = field.Id ∷ field.Frames ∷ []
command_form order.Shout = field.Group ∷ field.Frames ∷ []
command_form order.Bad = field.Number ∷ []
command_form order.Quit = []

-- the fields that are required after the word of an entry
abbrev pub input_form : InputWord → List Field
input_form word.Datagram = field.Address ∷ field.Hex ∷ []
input_form word.Opened = field.Number ∷ []
input_form word.Piece = field.Number ∷ field.Hex ∷ []
input_form word.Shut = field.Number ∷ []
input_form word.Linked = field.Number ∷ []
input_form word.Reply = field.Number ∷ field.Hex ∷ []
input_form word.Unlinked = field.Number ∷ []
input_form word.Took = field.Number ∷ field.Number ∷ []
input_form word.Tick = []
input_form word.Do = field.Command ∷ []
input_form word.End = []

-- a field is what is required next, if anything is
abbrev pub meets : ℕ → List Field → List ℕ → Bool
meets given [] f = false
meets given (k ∷ ks) f = is_field given k f

-- what is required after it, where these were required after the field before
abbrev pub after_field : Field → List Field → List ℕ → List Field
after_field field.Mark more f = more
after_field field.First more f = more
after_field field.Second more f = more
after_field field.Number more f = more
after_field field.Difference more f = more
after_field field.Input more f = option_map_or input_form (input_word_of f) []
after_field field.Command more f = option_map_or command_form (command_word_of f) []
after_field field.Address more f = more
after_field field.Hex more f = more
after_field field.Group more f = more
after_field field.Frames more f = more
after_field field.Id more f = more
after_field field.Name more f = more
after_field field.Port more f = more
after_field field.Evasive more f = more
after_field field.Expired more f = more
after_field field.Headers more f = more

abbrev pub after : List Field → List ℕ → List Field
after [] f = []
after (k ∷ ks) f = after_field k ks f

-- the number that is given then: the time, after that of evasive peers
abbrev pub given_by : Field → ℕ → List ℕ → ℕ
given_by field.Mark given f = given
given_by field.First given f = given
given_by field.Second given f = given
given_by field.Number given f = given
given_by field.Difference given f = given
given_by field.Input given f = given
given_by field.Command given f = given
given_by field.Address given f = given
given_by field.Hex given f = given
given_by field.Group given f = given
given_by field.Frames given f = given
given_by field.Id given f = given
given_by field.Name given f = given
given_by field.Port given f = given
given_by field.Evasive given f = unwrap_or (time_from 1 f) given
given_by field.Expired given f = given
given_by field.Headers given f = given

abbrev pub given_after : ℕ → List Field → List ℕ → ℕ
given_after given [] f = given
given_after given (k ∷ ks) f = given_by k given f

-- the column of the first field that isn't as required, where the first of all stands at column at
abbrev pub first_bad : ℕ → List Field → List (List ℕ) → ℕ → Option ℕ
first_bad given required [] at = None
first_bad given required (f ∷ fs) at =
    if meets given required f
    then first_bad (given_after given required f) (after required f) fs (at + (length f + 1)) else Some at

-- the fields that a head begins with, and those that the line of an entry does
abbrev pub head_form : Format → List Field
head_form First = field.Mark ∷ field.First ∷ []
head_form Second =
    field.Mark ∷ field.Second ∷ field.Id ∷ field.Name ∷ field.Address ∷ field.Port ∷ field.Evasive ∷ field.Expired
    ∷ field.Headers ∷ []

abbrev pub entry_form : Format → List Field
entry_form First = field.Number ∷ field.Input ∷ []
entry_form Second = field.Difference ∷ field.Input ∷ []

-- the fields that the line at a place begins with
abbrev pub form : LineStart → List Field
form p = if p.line == 1 then head_form p.format else entry_form p.format

-- all but the last
abbrev pub but_last : List (List ℕ) → List (List ℕ)
but_last [] = []
but_last (f ∷ []) = []
but_last (f ∷ g ∷ fs) = f ∷ but_last (g ∷ fs)

-- the first bad field of a line, or of some of its fields
abbrev pub bad_field : LineStart → List (List ℕ) → Option ℕ
bad_field p fs = first_bad p.before (form p) fs 1

-- where a line that isn't too long is bad: at its first bad field, or after its end
abbrev pub column : LineStart → List ℕ → ℕ
column p text = unwrap_or (bad_field p (fields_in text)) (length text + 1)

-- the same of one that is too long: of its fields those count that lie whole before the column of the first octet too
-- many
abbrev pub long_column : LineStart → List ℕ → ℕ
long_column p text =
    unwrap_or (bad_field p (but_last (fields_in (take (longest p.format + 1) text)))) (longest p.format + 1)

-- where a bad line is bad
abbrev pub bad_column : LineStart → List ℕ → ℕ
bad_column p text = if nat_lt (longest p.format) (length text) then long_column p text else column p text

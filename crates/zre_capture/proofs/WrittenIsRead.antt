-- What is written is read again.
use Rattle.std.proofs.Common.{◌≡◌, ℕ, true, List, [], ◌∷◌, Some, refl, ap, ◌∙◌}
use Rattle.std.specs.Prelude.{decimal}
use Rattle.std.specs.List.{list_all}
use Rattle.std.proofs.lemmas.Bool.{and_from}
use Rattle.zre_outside.specs.declared.entry.Entry.{Entry}
use Rattle.zre_outside.specs.declared.entry.Input.{Input}
use Rattle.zre_outside.specs.declared.entry.Input.TheVariants as got
use Rattle.zre_outside.specs.declared.entry.Command.{Command}
use Rattle.zre_outside.specs.declared.entry.Command.TheVariants as ask
use Rattle.zre_capture.specs.declared.word.InputWord.{InputWord}
use Rattle.zre_capture.specs.declared.word.InputWord.TheVariants as word
use Rattle.zre_capture.specs.declared.word.CommandWord.{CommandWord}
use Rattle.zre_capture.specs.declared.word.CommandWord.TheVariants as order
use Rattle.zre_values.specs.Address.{address_text}
use Rattle.zre_values.specs.Text.{quoted, quoted_list, id_text}
use Rattle.zre_capture.specs.Lines.{hex_text, command_word_text, command_word, command_fields, input_word_text, input_word, input_fields, reading_text, fields, text, IsNumber, IsCommand, IsInput, IsEntry}
use Rattle.zre_capture.specs.declared.format.Format.{Format}
use Rattle.zre_capture.specs.declared.format.Format.TheVariants.{First, Second}
use Rattle.zre_capture.specs.Values.{reading_of, input_word_of, command_word_of}
use Rattle.zre_capture.specs.Reading.{one_number, one_group, two_numbers, number_and_hex, address_and_hex, id_and_frames, group_and_frames, command_from, command_in, input_from, input_in, entry_in, entry_of}
use Rattle.zre_capture.proofs.FieldTexts.{number_of-decimal, hex_of-text, address_of-text, id_of-text, group_of-quoted}
use Rattle.zre_capture.proofs.ReadingDifferences.{reading_after-difference, difference-visible}
use Rattle.zre_capture.proofs.QuotedMembers.{frames_of-list}
use Rattle.zre_capture.proofs.VisibleFields.{visible, decimal-visible, address-visible, hex-visible, id-visible, quoted-visible, list-visible, fields-joined}

again_command_word : (w : CommandWord) → command_word_of (command_word_text w) ≡ Some w
unfolding command_word_of
again_command_word order.Join = refl
again_command_word _ = refl

again_input_word : (w : InputWord) → input_word_of (input_word_text w) ≡ Some w
unfolding input_word_of
again_input_word word.Datagram = refl
again_input_word _ = refl

again_command_fields : (c : Command) → IsCommand c → command_from (command_word c) (command_fields c) ≡ Some c
unfolding one_number one_group id_and_frames group_and_frames
again_command_fields (ask.Join group) is = rw (group_of-quoted group is) refl
again_command_fields (ask.Leave group) is = rw (group_of-quoted group is) refl
again_command_fields (ask.Whisper peer content) is = rw (id_of-text peer is.0, frames_of-list content is.1) refl
again_command_fields (ask.Shout group content) is = rw (group_of-quoted group is.0, frames_of-list content is.1) refl
again_command_fields (ask.Bad number) is = rw (number_of-decimal number is) refl
again_command_fields ask.Quit is = refl

again_command : (c : Command) → IsCommand c → command_in (command_word_text (command_word c) ∷ command_fields c) ≡ Some c
unfolding command_in
again_command c is = rw (again_command_word (command_word c)) (again_command_fields c is)

again_input_fields : (i : Input) → IsInput i → input_from (input_word i) (input_fields i) ≡ Some i
unfolding one_number two_numbers number_and_hex address_and_hex
again_input_fields (got.Datagram host bytes) is = rw (address_of-text host is.0, hex_of-text bytes is.1) refl
again_input_fields (got.Opened conn) is = rw (number_of-decimal conn is) refl
again_input_fields (got.Piece conn bytes) is = rw (number_of-decimal conn is.0, hex_of-text bytes is.1) refl
again_input_fields (got.Shut conn) is = rw (number_of-decimal conn is) refl
again_input_fields (got.Linked link) is = rw (number_of-decimal link is) refl
again_input_fields (got.Reply link bytes) is = rw (number_of-decimal link is.0, hex_of-text bytes is.1) refl
again_input_fields (got.Unlinked link) is = rw (number_of-decimal link is) refl
again_input_fields (got.Took link count) is = rw (number_of-decimal link is.0, number_of-decimal count is.1) refl
again_input_fields got.Tick is = refl
again_input_fields (got.Do command) is = rw (again_command command is) refl
again_input_fields got.End is = refl

again_input : (i : Input) → IsInput i → input_in (input_word_text (input_word i) ∷ input_fields i) ≡ Some i
unfolding input_in
again_input i is = rw (again_input_word (input_word i)) (again_input_fields i is)

again_reading : (f : Format) (before at : ℕ) → IsNumber before → IsNumber at → reading_of f before (reading_text f before at) ≡ Some at
again_reading First before at fits is = number_of-decimal at is
again_reading Second before at fits is = reading_after-difference before at fits is

again_fields : (f : Format) (before : ℕ) (e : Entry) → IsNumber before → IsEntry e → entry_in f before (fields f before e) ≡ Some e
unfolding entry_in
again_fields f before e fits is = rw (again_reading f before e.at fits is.at, again_input e.input is.input) refl

-- ---- fields are visible

command_words-visible : (w : CommandWord) → visible (command_word_text w) ≡ true
command_words-visible order.Join = refl
command_words-visible _ = refl

input_words-visible : (w : InputWord) → visible (input_word_text w) ≡ true
input_words-visible word.Datagram = refl
input_words-visible _ = refl

alone-visible : (f : List ℕ) → visible f ≡ true → list_all visible (f ∷ []) ≡ true
alone-visible f p = and_from (visible f) true p refl

two-visible : (f g : List ℕ) → visible f ≡ true → visible g ≡ true → list_all visible (f ∷ g ∷ []) ≡ true
two-visible f g p q = and_from (visible f) (list_all visible (g ∷ [])) p (alone-visible g q)

command_fields-visible : (c : Command) → IsCommand c → list_all visible (command_fields c) ≡ true
command_fields-visible (ask.Join group) is = alone-visible (quoted group) (quoted-visible group is)
command_fields-visible (ask.Leave group) is = alone-visible (quoted group) (quoted-visible group is)
command_fields-visible (ask.Whisper peer content) is = two-visible (id_text peer) (quoted_list content) (id-visible peer) (list-visible content is.1)
command_fields-visible (ask.Shout group content) is = two-visible (quoted group) (quoted_list content) (quoted-visible group is.0) (list-visible content is.1)
command_fields-visible (ask.Bad number) is = alone-visible (decimal number) (decimal-visible number is)
command_fields-visible ask.Quit is = refl

input_fields-visible : (i : Input) → IsInput i → list_all visible (input_fields i) ≡ true
input_fields-visible (got.Datagram host bytes) is = two-visible (address_text host) (hex_text bytes) (address-visible host is.0) (hex-visible bytes is.1)
input_fields-visible (got.Opened conn) is = alone-visible (decimal conn) (decimal-visible conn is)
input_fields-visible (got.Piece conn bytes) is = two-visible (decimal conn) (hex_text bytes) (decimal-visible conn is.0) (hex-visible bytes is.1)
input_fields-visible (got.Shut conn) is = alone-visible (decimal conn) (decimal-visible conn is)
input_fields-visible (got.Linked link) is = alone-visible (decimal link) (decimal-visible link is)
input_fields-visible (got.Reply link bytes) is = two-visible (decimal link) (hex_text bytes) (decimal-visible link is.0) (hex-visible bytes is.1)
input_fields-visible (got.Unlinked link) is = alone-visible (decimal link) (decimal-visible link is)
input_fields-visible (got.Took link count) is = two-visible (decimal link) (decimal count) (decimal-visible link is.0) (decimal-visible count is.1)
input_fields-visible got.Tick is = refl
input_fields-visible (got.Do command) is = and_from (visible (command_word_text (command_word command))) (list_all visible (command_fields command)) (command_words-visible (command_word command)) (command_fields-visible command is)
input_fields-visible got.End is = refl

reading-visible : (f : Format) (before at : ℕ) → IsNumber before → IsNumber at → visible (reading_text f before at) ≡ true
reading-visible First before at fits is = decimal-visible at is
reading-visible Second before at fits is = difference-visible before at fits is

pub fields-visible : (f : Format) (before : ℕ) (e : Entry) → IsNumber before → IsEntry e → list_all visible (fields f before e) ≡ true
fields-visible f before e fits is =
    and_from (visible (reading_text f before e.at)) (list_all visible (input_word_text (input_word e.input) ∷ input_fields e.input)) (reading-visible f before e.at fits is.at)
    (and_from (visible (input_word_text (input_word e.input))) (list_all visible (input_fields e.input)) (input_words-visible (input_word e.input)) (input_fields-visible e.input is.input))

-- the entry of its own line
pub entry_of-text : (f : Format) (before : ℕ) (e : Entry) → IsNumber before → IsEntry e → entry_of f before (text f before e) ≡ Some e
entry_of-text f before e fits is =
    ap (entry_in f before) (fields-joined (reading_text f before e.at) (input_word_text (input_word e.input) ∷ input_fields e.input) (fields-visible f before e fits is)) ∙ again_fields f before e fits is

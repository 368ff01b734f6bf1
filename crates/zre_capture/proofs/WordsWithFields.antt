-- Words that need fields after them.
use Rattle.std.proofs.Common.{◌≡◌, ℕ, List, [], ◌∷◌, Option, Some, None, refl}
use Rattle.zre_capture.specs.declared.word.InputWord.{InputWord}
use Rattle.zre_capture.specs.declared.word.InputWord.TheVariants as word
use Rattle.zre_capture.specs.declared.word.CommandWord.{CommandWord}
use Rattle.zre_capture.specs.declared.word.CommandWord.TheVariants as order
use Rattle.std.specs.Prelude.{option_and_then}
use Rattle.zre_capture.specs.Values.{reading_of}
use Rattle.zre_capture.specs.declared.format.Format.{Format}
use Rattle.zre_capture.specs.Reading.{one_number, one_group, two_numbers, number_and_hex, address_and_hex, id_and_frames, group_and_frames, command_from, command_in, input_from, input_in, entry_in}

pub no_command : (w : CommandWord) → (w ≡ order.Quit → ⊥) → None ≡ command_from w []
unfolding one_number one_group id_and_frames group_and_frames
no_command order.Join other = refl
no_command order.Leave other = refl
no_command order.Whisper other = refl
no_command order.Shout other = refl
no_command order.Bad other = refl
no_command order.Quit other = absurd (other refl)

pub no_input : (w : InputWord) → (w ≡ word.Tick → ⊥) → (w ≡ word.End → ⊥) → None ≡ input_from w []
unfolding one_number two_numbers number_and_hex address_and_hex command_in
no_input word.Datagram tick end = refl
no_input word.Opened tick end = refl
no_input word.Piece tick end = refl
no_input word.Shut tick end = refl
no_input word.Linked tick end = refl
no_input word.Reply tick end = refl
no_input word.Unlinked tick end = refl
no_input word.Took tick end = refl
no_input word.Tick tick end = absurd (tick refl)
no_input word.Do tick end = refl
no_input word.End tick end = absurd (end refl)

abbrev nowhere : (W : Type 0) → Option W
nowhere W = None

nothing : {V W : Type 0} (o : Option V) → nowhere W ≡ option_and_then (λ (v : V). nowhere W) o
nothing None = refl
nothing (Some v) = refl

-- a clock's reading alone is no entry
pub no_entry : (f : Format) (before : ℕ) (text : List ℕ) → None ≡ entry_in f before (text ∷ [])
unfolding entry_in input_in
no_entry f before text = nothing (reading_of f before text)

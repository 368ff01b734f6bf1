-- What is read is spelled so.
use Rattle.std.proofs.Common.{◌≡◌, ℕ, List, [], ◌∷◌, Option, Some, None, inl, inr, refl, sym, ap, ◌∙◌, subst}
use Rattle.std.specs.Prelude.{decimal, option_map, option_and_then}
use Rattle.std.specs.List.{join_with_byte}
use Rattle.std.proofs.lemmas.Option.{same_Some}
use Rattle.std.proofs.lemmas.List.Splits.{join_with_byte-slice_split}
use Rattle.std.proofs.lemmas.Slice.Eq.{bytes_eq-Decides}
use Rattle.std.proofs.lemmas.Bool.{cases_Bool}
use Rattle.std.specs.Str.{bytes_eq}
use Rattle.zre_values.specs.declared.peer_id.PeerId.{PeerId}
use Rattle.zre_values.specs.Address.{address_text}
use Rattle.zre_values.specs.Text.{quoted, quoted_list, id_text}
use Rattle.zre_outside.specs.declared.entry.Entry.{Entry}
use Rattle.zre_outside.specs.declared.entry.Input.{Input}
use Rattle.zre_outside.specs.declared.entry.Input.TheVariants as got
use Rattle.zre_outside.specs.declared.entry.Command.{Command}
use Rattle.zre_outside.specs.declared.entry.Command.TheVariants as ask
use Rattle.zre_capture.specs.declared.word.InputWord.{InputWord}
use Rattle.zre_capture.specs.declared.word.InputWord.TheVariants as word
use Rattle.zre_capture.specs.declared.word.CommandWord.{CommandWord}
use Rattle.zre_capture.specs.declared.word.CommandWord.TheVariants as order
use Rattle.zre_capture.specs.Lines.{hex_text, command_word_text, command_word, command_fields, input_word_text, input_word, input_fields, reading_text, fields, text}
use Rattle.zre_capture.specs.declared.format.Format.{Format}
use Rattle.zre_capture.specs.declared.format.Format.TheVariants.{First, Second}
use Rattle.zre_capture.specs.Values.{first_of, input_words, command_words, input_word_of, command_word_of, number_of, reading_of, hex_of, address_of, id_of, group_of, frames_of}
use Rattle.zre_capture.specs.Reading.{fields_in, by_word, alone, one_number, one_group, two_numbers, number_and_hex, address_and_hex, id_and_frames, group_and_frames, command_from, command_in, input_from, input_in, entry_in, entry_of}
use Rattle.zre_capture.proofs.FieldTexts.{number_of-some, hex_of-some, address_of-some, id_of-some, group_of-some}
use Rattle.zre_capture.proofs.ReadingDifferences.{reading_after-some}
use Rattle.zre_capture.proofs.QuotedMembers.{frames_of-some}

-- the word that was found is spelled so
found_word : {W : Type 0} (text : W → List ℕ) (ws : List W) (field : List ℕ) (w : W) → first_of text ws field ≡ Some w → text w ≡ field
found_word text [] field w e = absurd cc
found_word text (v ∷ ws) field w e =
    elim (cases_Bool (bytes_eq field (text v))) [
      | inl is ↦
          let first : Some v ≡ Some w = rw is at e in
          ap text (sym (same_Some v w first)) ∙ sym ((bytes_eq-Decides field (text v)).0 is)
      | inr isnt ↦ found_word text ws field w (rw isnt at e)
    ]

command_word-back : (field : List ℕ) (w : CommandWord) → command_word_of field ≡ Some w → command_word_text w ≡ field
unfolding command_word_of
command_word-back field w e = found_word command_word_text command_words field w e

input_word-back : (field : List ℕ) (w : InputWord) → input_word_of field ≡ Some w → input_word_text w ≡ field
unfolding input_word_of
input_word-back field w e = found_word input_word_text input_words field w e

-- both values were there
pub record Both {A B : Type 0} (o : Option A) (q : Option B) (p : A × B) : Type 0 where
  pub first : o ≡ Some p.0
  pub second : q ≡ Some p.1

pub both : {A B : Type 0} (o : Option A) (q : Option B) (p : A × B) → option_and_then (λ (a : A). option_and_then (λ (b : B). Some (a, b)) q) o ≡ Some p → Both o q p
both {A = A} {B = B} (Some a) (Some b) p e = let same : (a, b) ≡ p = same_Some (a, b) p e in record { first = ap (λ (x : A × B). Some x.0) same; second = ap (λ (x : A × B). Some x.1) same }
both (Some a) None p e = absurd cc
both None q p e = absurd cc

-- a value that was made of another
pub made : {A B : Type 0} (f : A → B) (o : Option A) (y : B) (P : B → Type 0) → option_map f o ≡ Some y → ((x : A) → o ≡ Some x → P (f x)) → P y
made f (Some x) y P e h = subst P (same_Some (f x) y e) (h x refl)
made f None y P e h = absurd cc

number-back : (fs : List (List ℕ)) (n : ℕ) → one_number fs ≡ Some n → decimal n ∷ [] ≡ fs
unfolding one_number
number-back [] n e = absurd cc
number-back (a ∷ []) n e = ap (λ (f : List ℕ). f ∷ []) (number_of-some a n e).text
number-back (a ∷ b ∷ fs) n e = absurd cc

group-back : (fs : List (List ℕ)) (v : List ℕ) → one_group fs ≡ Some v → quoted v ∷ [] ≡ fs
unfolding one_group
group-back [] v e = absurd cc
group-back (a ∷ []) v e = ap (λ (f : List ℕ). f ∷ []) (group_of-some a v e).text
group-back (a ∷ b ∷ fs) v e = absurd cc

pair : (a b c d : List ℕ) → a ≡ c → b ≡ d → a ∷ b ∷ [] ≡ c ∷ d ∷ []
pair a b c d p q = ap (λ (f : List ℕ). f ∷ b ∷ []) p ∙ ap (λ (f : List ℕ). c ∷ f ∷ []) q

numbers-back : (fs : List (List ℕ)) (p : ℕ × ℕ) → two_numbers fs ≡ Some p → decimal p.0 ∷ decimal p.1 ∷ [] ≡ fs
unfolding two_numbers
numbers-back [] p e = absurd cc
numbers-back (a ∷ []) p e = absurd cc
numbers-back (a ∷ b ∷ []) p e = let q = both (number_of a) (number_of b) p e in pair _ _ a b (number_of-some a p.0 q.first).text (number_of-some b p.1 q.second).text
numbers-back (a ∷ b ∷ c ∷ fs) p e = absurd cc

number_and_hex-back : (fs : List (List ℕ)) (p : ℕ × List ℕ) → number_and_hex fs ≡ Some p → decimal p.0 ∷ hex_text p.1 ∷ [] ≡ fs
unfolding number_and_hex
number_and_hex-back [] p e = absurd cc
number_and_hex-back (a ∷ []) p e = absurd cc
number_and_hex-back (a ∷ b ∷ []) p e = let q = both (number_of a) (hex_of b) p e in pair _ _ a b (number_of-some a p.0 q.first).text (hex_of-some b p.1 q.second).text
number_and_hex-back (a ∷ b ∷ c ∷ fs) p e = absurd cc

address_and_hex-back : (fs : List (List ℕ)) (p : List ℕ × List ℕ) → address_and_hex fs ≡ Some p → address_text p.0 ∷ hex_text p.1 ∷ [] ≡ fs
unfolding address_and_hex
address_and_hex-back [] p e = absurd cc
address_and_hex-back (a ∷ []) p e = absurd cc
address_and_hex-back (a ∷ b ∷ []) p e = let q = both (address_of a) (hex_of b) p e in pair _ _ a b (address_of-some a p.0 q.first).text (hex_of-some b p.1 q.second).text
address_and_hex-back (a ∷ b ∷ c ∷ fs) p e = absurd cc

id_and_frames-back : (fs : List (List ℕ)) (p : PeerId × List (List ℕ)) → id_and_frames fs ≡ Some p → id_text p.0 ∷ quoted_list p.1 ∷ [] ≡ fs
unfolding id_and_frames
id_and_frames-back [] p e = absurd cc
id_and_frames-back (a ∷ []) p e = absurd cc
id_and_frames-back (a ∷ b ∷ []) p e = let q = both (id_of a) (frames_of b) p e in pair _ _ a b (id_of-some a p.0 q.first).text (frames_of-some b p.1 q.second).text
id_and_frames-back (a ∷ b ∷ c ∷ fs) p e = absurd cc

group_and_frames-back : (fs : List (List ℕ)) (p : List ℕ × List (List ℕ)) → group_and_frames fs ≡ Some p → quoted p.0 ∷ quoted_list p.1 ∷ [] ≡ fs
unfolding group_and_frames
group_and_frames-back [] p e = absurd cc
group_and_frames-back (a ∷ []) p e = absurd cc
group_and_frames-back (a ∷ b ∷ []) p e = let q = both (group_of a) (frames_of b) p e in pair _ _ a b (group_of-some a p.0 q.first).text (frames_of-some b p.1 q.second).text
group_and_frames-back (a ∷ b ∷ c ∷ fs) p e = absurd cc

-- a value that stands alone
pub stood_alone : {V : Type 0} (value v : V) (fs : List (List ℕ)) (P : V → Type 0) → alone value fs ≡ Some v → ([] ≡ fs → P value) → P v
stood_alone value v [] P e h = subst P (same_Some value v e) (h refl)
stood_alone value v (f ∷ fs) P e h = absurd cc

-- the fields of a command, or of what happened, are these
abbrev IsCommandOf : CommandWord → List (List ℕ) → Command → Type 0
IsCommandOf w fs c = command_word_text (command_word c) ∷ command_fields c ≡ command_word_text w ∷ fs

abbrev IsInputOf : InputWord → List (List ℕ) → Input → Type 0
IsInputOf w fs i = input_word_text (input_word i) ∷ input_fields i ≡ input_word_text w ∷ fs

after : (f : List ℕ) (fs gs : List (List ℕ)) → fs ≡ gs → f ∷ fs ≡ f ∷ gs
after f fs gs e = ap (λ (r : List (List ℕ)). f ∷ r) e

command_from-back : (w : CommandWord) (fs : List (List ℕ)) (c : Command) → command_from w fs ≡ Some c → IsCommandOf w fs c
command_from-back order.Join fs c e = made ask.Join (one_group fs) c (IsCommandOf order.Join fs) e (λ v h. after (command_word_text order.Join) (quoted v ∷ []) fs (group-back fs v h))
command_from-back order.Leave fs c e = made ask.Leave (one_group fs) c (IsCommandOf order.Leave fs) e (λ v h. after (command_word_text order.Leave) (quoted v ∷ []) fs (group-back fs v h))
command_from-back order.Whisper fs c e = made (λ (p : PeerId × List (List ℕ)). ask.Whisper p.0 p.1) (id_and_frames fs) c (IsCommandOf order.Whisper fs) e (λ p h. after (command_word_text order.Whisper) (id_text p.0 ∷ quoted_list p.1 ∷ []) fs (id_and_frames-back fs p h))
command_from-back order.Shout fs c e = made (λ (p : List ℕ × List (List ℕ)). ask.Shout p.0 p.1) (group_and_frames fs) c (IsCommandOf order.Shout fs) e (λ p h. after (command_word_text order.Shout) (quoted p.0 ∷ quoted_list p.1 ∷ []) fs (group_and_frames-back fs p h))
command_from-back order.Bad fs c e = made ask.Bad (one_number fs) c (IsCommandOf order.Bad fs) e (λ n h. after (command_word_text order.Bad) (decimal n ∷ []) fs (number-back fs n h))
command_from-back order.Quit fs c e = stood_alone ask.Quit c fs (IsCommandOf order.Quit fs) e (λ h. after (command_word_text order.Quit) [] fs h)

-- what stands after a step that gave a value
pub stepped : {A B : Type 0} (f : A → Option B) (o : Option A) (y : B) (P : Type 0) → option_and_then f o ≡ Some y → ((x : A) → o ≡ Some x → f x ≡ Some y → P) → P
stepped f (Some x) y P e h = h x refl e
stepped f None y P e h = absurd cc

-- the word of what was said, and the fields after it
pub worded : {W V : Type 0} (word_of : List ℕ → Option W) (from : W → List (List ℕ) → Option V) (fs : List (List ℕ)) (v : V) (P : List (List ℕ) → Type 0) → by_word word_of from fs ≡ Some v
    → ((f : List ℕ) (gs : List (List ℕ)) (w : W) → word_of f ≡ Some w → from w gs ≡ Some v → P (f ∷ gs)) → P fs
worded word_of from [] v P e h = absurd cc
worded {W = W} word_of from (f ∷ fs) v P e h = stepped (λ (w : W). from w fs) (word_of f) v (P (f ∷ fs)) e (h f fs)

command_in-back : (fs : List (List ℕ)) (c : Command) → command_in fs ≡ Some c → command_word_text (command_word c) ∷ command_fields c ≡ fs
unfolding command_in
command_in-back fs c e =
    worded command_word_of command_from fs c (λ gs. command_word_text (command_word c) ∷ command_fields c ≡ gs) e
    (λ f gs w is from. command_from-back w gs c from ∙ ap (λ (g : List ℕ). g ∷ gs) (command_word-back f w is))

input_from-back : (w : InputWord) (fs : List (List ℕ)) (i : Input) → input_from w fs ≡ Some i → IsInputOf w fs i
input_from-back word.Datagram fs i e = made (λ (p : List ℕ × List ℕ). got.Datagram p.0 p.1) (address_and_hex fs) i (IsInputOf word.Datagram fs) e (λ p h. after (input_word_text word.Datagram) (address_text p.0 ∷ hex_text p.1 ∷ []) fs (address_and_hex-back fs p h))
input_from-back word.Opened fs i e = made got.Opened (one_number fs) i (IsInputOf word.Opened fs) e (λ n h. after (input_word_text word.Opened) (decimal n ∷ []) fs (number-back fs n h))
input_from-back word.Piece fs i e = made (λ (p : ℕ × List ℕ). got.Piece p.0 p.1) (number_and_hex fs) i (IsInputOf word.Piece fs) e (λ p h. after (input_word_text word.Piece) (decimal p.0 ∷ hex_text p.1 ∷ []) fs (number_and_hex-back fs p h))
input_from-back word.Shut fs i e = made got.Shut (one_number fs) i (IsInputOf word.Shut fs) e (λ n h. after (input_word_text word.Shut) (decimal n ∷ []) fs (number-back fs n h))
input_from-back word.Linked fs i e = made got.Linked (one_number fs) i (IsInputOf word.Linked fs) e (λ n h. after (input_word_text word.Linked) (decimal n ∷ []) fs (number-back fs n h))
input_from-back word.Reply fs i e = made (λ (p : ℕ × List ℕ). got.Reply p.0 p.1) (number_and_hex fs) i (IsInputOf word.Reply fs) e (λ p h. after (input_word_text word.Reply) (decimal p.0 ∷ hex_text p.1 ∷ []) fs (number_and_hex-back fs p h))
input_from-back word.Unlinked fs i e = made got.Unlinked (one_number fs) i (IsInputOf word.Unlinked fs) e (λ n h. after (input_word_text word.Unlinked) (decimal n ∷ []) fs (number-back fs n h))
input_from-back word.Took fs i e = made (λ (p : ℕ × ℕ). got.Took p.0 p.1) (two_numbers fs) i (IsInputOf word.Took fs) e (λ p h. after (input_word_text word.Took) (decimal p.0 ∷ decimal p.1 ∷ []) fs (numbers-back fs p h))
input_from-back word.Tick fs i e = stood_alone got.Tick i fs (IsInputOf word.Tick fs) e (λ h. after (input_word_text word.Tick) [] fs h)
input_from-back word.Do fs i e = made got.Do (command_in fs) i (IsInputOf word.Do fs) e (λ c h. after (input_word_text word.Do) (command_word_text (command_word c) ∷ command_fields c) fs (command_in-back fs c h))
input_from-back word.End fs i e = stood_alone got.End i fs (IsInputOf word.End fs) e (λ h. after (input_word_text word.End) [] fs h)

input_in-back : (fs : List (List ℕ)) (i : Input) → input_in fs ≡ Some i → input_word_text (input_word i) ∷ input_fields i ≡ fs
unfolding input_in
input_in-back fs i e =
    worded input_word_of input_from fs i (λ gs. input_word_text (input_word i) ∷ input_fields i ≡ gs) e
    (λ f gs w is from. input_from-back w gs i from ∙ ap (λ (g : List ℕ). g ∷ gs) (input_word-back f w is))

reading-back : (f : Format) (before : ℕ) (field : List ℕ) (at : ℕ) → reading_of f before field ≡ Some at → reading_text f before at ≡ field
reading-back First before field at e = (number_of-some field at e).text
reading-back Second before field at e = (reading_after-some before field at e).text

entry_in-back : (f : Format) (before : ℕ) (fs : List (List ℕ)) (e : Entry) → entry_in f before fs ≡ Some e → fields f before e ≡ fs
unfolding entry_in
entry_in-back f before [] e h = absurd cc
entry_in-back f before (t ∷ fs) e h =
    stepped (λ (at : ℕ). option_and_then (λ (input : Input). Some (record { at = at; input = input })) (input_in fs)) (reading_of f before t) e (fields f before e ≡ t ∷ fs) h
    (λ at is more. stepped (λ (input : Input). Some (record { at = at; input = input })) (input_in fs) e (fields f before e ≡ t ∷ fs) more
    (λ input there same.
    let both_parts : fields f before (record { at = at; input = input }) ≡ t ∷ fs = ap (λ (g : List ℕ). g ∷ input_word_text (input_word input) ∷ input_fields input) (reading-back f before t at is) ∙ ap (λ (r : List (List ℕ)). t ∷ r) (input_in-back fs input there) in
    ap (fields f before) (sym (same_Some (record { at = at; input = input }) e same)) ∙ both_parts))

-- a line is that of its entry
pub text-entry_of : (f : Format) (before : ℕ) (t : List ℕ) (e : Entry) → entry_of f before t ≡ Some e → text f before e ≡ t
text-entry_of f before t e h = ap (join_with_byte 32) (entry_in-back f before (fields_in t) e h) ∙ join_with_byte-slice_split 32 t

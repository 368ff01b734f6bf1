-- A journal that was read in format 1 can be written in format 2: its entries hold values of their types, and none of its
-- lines is too long there.
use Rattle.std.proofs.Common.{◌≡◌, ℕ, ◌+◌, ◌-◌, ◌≤◌, ◌==◌, Bool, true, false, cond, leb, ltb, List, [], ◌∷◌, ◌++◌, length, All, Option, Some, None, inl, inr, refl, sym, subst, arith}
use Rattle.std.specs.Prelude.{decimal, option_map, option_and_then}
use Rattle.std.specs.List.{join_with_byte}
use Rattle.std.proofs.lemmas.Bool.{cases_Bool, ltb-false}
use Rattle.std.proofs.lemmas.Fmt.{decimal_nonempty, length-decimal-le}
use Rattle.std.proofs.lemmas.List.{length-append}
use Rattle.std.proofs.lemmas.List.Elements.{All-nil, All-cons}
use Rattle.std.proofs.lemmas.Option.{same_Some}
use Rattle.zre_values.specs.declared.peer_id.PeerId.{PeerId}
use Rattle.zre_outside.specs.declared.entry.Entry.{Entry}
use Rattle.zre_outside.specs.declared.entry.Input.{Input}
use Rattle.zre_outside.specs.declared.entry.Input.TheVariants as got
use Rattle.zre_outside.specs.declared.entry.Command.{Command}
use Rattle.zre_outside.specs.declared.entry.Command.TheVariants as ask
use Rattle.zre_capture.specs.Formats.{longest}
use Rattle.zre_capture.specs.Journal.{journal, next, lines_in, is_head, said, line_of, last_reading, entries_from}
use Rattle.zre_capture.specs.Lines.{difference, input_word_text, input_word, input_fields, text, IsNumber, IsOctets, IsCommand, IsInput, IsEntry, AreShort}
use Rattle.zre_capture.specs.Reading.{one_number, one_group, two_numbers, number_and_hex, address_and_hex, id_and_frames, group_and_frames, command_from, command_in, input_from, input_in, entry_in, entry_of, fields_in}
use Rattle.zre_capture.specs.Values.{number_of, hex_of, address_of, id_of, group_of, frames_of, reading_of, command_word_of, input_word_of}
use Rattle.zre_capture.specs.declared.format.Format.{Format}
use Rattle.zre_capture.specs.declared.format.Format.TheVariants.{First, Second}
use Rattle.zre_capture.specs.declared.line_start.LineStart.{LineStart}
use Rattle.zre_capture.specs.declared.word.InputWord.{InputWord}
use Rattle.zre_capture.specs.declared.word.InputWord.TheVariants as word
use Rattle.zre_capture.specs.declared.word.CommandWord.{CommandWord}
use Rattle.zre_capture.specs.declared.word.CommandWord.TheVariants as order
use Rattle.zre_capture.proofs.ReadIsSpelled.{both, made, stood_alone, stepped, worded, text-entry_of}
use Rattle.zre_capture.proofs.ReadingDifferences.{reading_after-some}
use Rattle.zre_capture.proofs.LineByLine.{entries-good, entries-bad}
use Rattle.zre_capture.proofs.QuotedMembers.{frames_of-some}
use Rattle.zre_capture.proofs.FieldTexts.{number_of-some, hex_of-some, address_of-some, id_of-some, group_of-some}

-- ---- what is read holds values of its types

number-is : (fs : List (List ℕ)) (n : ℕ) → one_number fs ≡ Some n → IsNumber n
unfolding one_number
number-is [] n e = absurd cc
number-is (a ∷ []) n e = (number_of-some a n e).fits
number-is (a ∷ b ∷ fs) n e = absurd cc

group-is : (fs : List (List ℕ)) (v : List ℕ) → one_group fs ≡ Some v → IsOctets v
unfolding one_group
group-is [] v e = absurd cc
group-is (a ∷ []) v e = (group_of-some a v e).is
group-is (a ∷ b ∷ fs) v e = absurd cc

numbers-are : (fs : List (List ℕ)) (p : ℕ × ℕ) → two_numbers fs ≡ Some p → IsNumber p.0 × IsNumber p.1
unfolding two_numbers
numbers-are [] p e = absurd cc
numbers-are (a ∷ []) p e = absurd cc
numbers-are (a ∷ b ∷ []) p e = let q = both (number_of a) (number_of b) p e in ((number_of-some a p.0 q.first).fits, (number_of-some b p.1 q.second).fits)
numbers-are (a ∷ b ∷ c ∷ fs) p e = absurd cc

number_and_hex-are : (fs : List (List ℕ)) (p : ℕ × List ℕ) → number_and_hex fs ≡ Some p → IsNumber p.0 × IsOctets p.1
unfolding number_and_hex
number_and_hex-are [] p e = absurd cc
number_and_hex-are (a ∷ []) p e = absurd cc
number_and_hex-are (a ∷ b ∷ []) p e = let q = both (number_of a) (hex_of b) p e in ((number_of-some a p.0 q.first).fits, (hex_of-some b p.1 q.second).is)
number_and_hex-are (a ∷ b ∷ c ∷ fs) p e = absurd cc

datagram-is : (fs : List (List ℕ)) (p : List ℕ × List ℕ) → address_and_hex fs ≡ Some p → IsInput (got.Datagram p.0 p.1)
unfolding address_and_hex
datagram-is [] p e = absurd cc
datagram-is (a ∷ []) p e = absurd cc
datagram-is (a ∷ b ∷ []) p e = let q = both (address_of a) (hex_of b) p e in ((address_of-some a p.0 q.first).is, (hex_of-some b p.1 q.second).is)
datagram-is (a ∷ b ∷ c ∷ fs) p e = absurd cc

whisper-is : (fs : List (List ℕ)) (p : PeerId × List (List ℕ)) → id_and_frames fs ≡ Some p → IsCommand (ask.Whisper p.0 p.1)
unfolding id_and_frames
whisper-is [] p e = absurd cc
whisper-is (a ∷ []) p e = absurd cc
whisper-is (a ∷ b ∷ []) p e = let q = both (id_of a) (frames_of b) p e in ((id_of-some a p.0 q.first).is, (frames_of-some b p.1 q.second).is)
whisper-is (a ∷ b ∷ c ∷ fs) p e = absurd cc

shout-is : (fs : List (List ℕ)) (p : List ℕ × List (List ℕ)) → group_and_frames fs ≡ Some p → IsCommand (ask.Shout p.0 p.1)
unfolding group_and_frames
shout-is [] p e = absurd cc
shout-is (a ∷ []) p e = absurd cc
shout-is (a ∷ b ∷ []) p e = let q = both (group_of a) (frames_of b) p e in ((group_of-some a p.0 q.first).is, (frames_of-some b p.1 q.second).is)
shout-is (a ∷ b ∷ c ∷ fs) p e = absurd cc

command_from-is : (w : CommandWord) (fs : List (List ℕ)) (c : Command) → command_from w fs ≡ Some c → IsCommand c
command_from-is order.Join fs c e = made ask.Join (one_group fs) c IsCommand e (λ v h. group-is fs v h)
command_from-is order.Leave fs c e = made ask.Leave (one_group fs) c IsCommand e (λ v h. group-is fs v h)
command_from-is order.Whisper fs c e = made (λ (p : PeerId × List (List ℕ)). ask.Whisper p.0 p.1) (id_and_frames fs) c IsCommand e (λ p h. whisper-is fs p h)
command_from-is order.Shout fs c e = made (λ (p : List ℕ × List (List ℕ)). ask.Shout p.0 p.1) (group_and_frames fs) c IsCommand e (λ p h. shout-is fs p h)
command_from-is order.Bad fs c e = made ask.Bad (one_number fs) c IsCommand e (λ n h. number-is fs n h)
command_from-is order.Quit fs c e = stood_alone ask.Quit c fs IsCommand e (λ h. tt)

command_in-is : (fs : List (List ℕ)) (c : Command) → command_in fs ≡ Some c → IsCommand c
unfolding command_in
command_in-is fs c e = worded command_word_of command_from fs c (λ gs. IsCommand c) e (λ f gs w is from. command_from-is w gs c from)

input_from-is : (w : InputWord) (fs : List (List ℕ)) (i : Input) → input_from w fs ≡ Some i → IsInput i
input_from-is word.Datagram fs i e = made (λ (p : List ℕ × List ℕ). got.Datagram p.0 p.1) (address_and_hex fs) i IsInput e (λ p h. datagram-is fs p h)
input_from-is word.Opened fs i e = made got.Opened (one_number fs) i IsInput e (λ n h. number-is fs n h)
input_from-is word.Piece fs i e = made (λ (p : ℕ × List ℕ). got.Piece p.0 p.1) (number_and_hex fs) i IsInput e (λ p h. number_and_hex-are fs p h)
input_from-is word.Shut fs i e = made got.Shut (one_number fs) i IsInput e (λ n h. number-is fs n h)
input_from-is word.Linked fs i e = made got.Linked (one_number fs) i IsInput e (λ n h. number-is fs n h)
input_from-is word.Reply fs i e = made (λ (p : ℕ × List ℕ). got.Reply p.0 p.1) (number_and_hex fs) i IsInput e (λ p h. number_and_hex-are fs p h)
input_from-is word.Unlinked fs i e = made got.Unlinked (one_number fs) i IsInput e (λ n h. number-is fs n h)
input_from-is word.Took fs i e = made (λ (p : ℕ × ℕ). got.Took p.0 p.1) (two_numbers fs) i IsInput e (λ p h. numbers-are fs p h)
input_from-is word.Tick fs i e = stood_alone got.Tick i fs IsInput e (λ h. tt)
input_from-is word.Do fs i e = made got.Do (command_in fs) i IsInput e (λ c h. command_in-is fs c h)
input_from-is word.End fs i e = stood_alone got.End i fs IsInput e (λ h. tt)

input_in-is : (fs : List (List ℕ)) (i : Input) → input_in fs ≡ Some i → IsInput i
unfolding input_in
input_in-is fs i e = worded input_word_of input_from fs i (λ gs. IsInput i) e (λ f gs w is from. input_from-is w gs i from)

reading-is : (f : Format) (before : ℕ) (field : List ℕ) (at : ℕ) → reading_of f before field ≡ Some at → IsNumber at
reading-is First before field at e = (number_of-some field at e).fits
reading-is Second before field at e = (reading_after-some before field at e).fits

entry_in-is : (f : Format) (before : ℕ) (fs : List (List ℕ)) (e : Entry) → entry_in f before fs ≡ Some e → IsEntry e
unfolding entry_in
entry_in-is f before [] e h = absurd cc
entry_in-is f before (t ∷ fs) e h =
    stepped (λ (at : ℕ). option_and_then (λ (input : Input). Some (record { at = at; input = input })) (input_in fs)) (reading_of f before t) e (IsEntry e) h
    (λ at is more. stepped (λ (input : Input). Some (record { at = at; input = input })) (input_in fs) e (IsEntry e) more
    (λ input there same. subst IsEntry (same_Some (record { at = at; input = input }) e same) (record { at = reading-is f before t at is; input = input_in-is fs input there })))

-- the entry of a line holds values of its types
pub entry_of-is : (f : Format) (before : ℕ) (t : List ℕ) (e : Entry) → entry_of f before t ≡ Some e → IsEntry e
entry_of-is f before t e h = entry_in-is f before (fields_in t) e h

-- ---- a line of format 2 is little longer than that of format 1

difference-short : (before at : ℕ) → IsNumber before → IsNumber at → length (difference before at) ≤ 21
difference-short before at fb fa =
    elim (cases_Bool (leb before at)) [
      | inl is ↦ rw is (omega (arith, length-decimal-le 20 (at - before) (omega arith) (omega (arith, fa)) (omega (arith, fa))))
      | inr isnt ↦ rw isnt (omega (arith, length-decimal-le 20 (before - at) (omega arith) (omega (arith, fb)) (omega (arith, fb))))
    ]

second-short : (before : ℕ) (e : Entry) → IsNumber before → IsEntry e → length (text First 0 e) ≤ longest First → length (text Second before e) ≤ longest Second
second-short before e fb is short =
    let rest = 32 ∷ join_with_byte 32 (input_word_text (input_word e.input) ∷ input_fields e.input) in
    let first = length-append (decimal e.at) rest in
    let second = length-append (difference before e.at) rest in
    omega (arith, first, second, short, decimal_nonempty e.at is.at, difference-short before e.at fb is.at)

-- what a line of format 1 says: no entry, or one that can be written
abbrev AreSaid : List Entry → Type 0
AreSaid [] = Unit {0}
AreSaid (e ∷ []) = IsEntry e × (length (text First 0 e) ≤ longest First)
AreSaid (e ∷ f ∷ es) = ⊥

said-by : (first is_one : Bool) (o : Option Entry) (es : List Entry) → ((e : Entry) → o ≡ Some e → IsEntry e × (length (text First 0 e) ≤ longest First))
    → cond first (cond is_one (Some []) None) (option_map (λ e. e ∷ []) o) ≡ Some es → AreSaid es
said-by true true o es h e = subst AreSaid (same_Some [] es e) tt
said-by true false o es h e = absurd cc
said-by false is_one None es h e = absurd cc
said-by false is_one (Some x) es h e = subst AreSaid (same_Some (x ∷ []) es e) (h x refl)

said-first : (line before : ℕ) (t : List ℕ) (es : List Entry) → length t ≤ longest First → said (record { format = First; line = line; before = before }) t ≡ Some es → AreSaid es
unfolding said
said-first line before t es short e =
    said-by (line == 1) (is_head First t) (entry_of First before t) es
    (λ x is. (entry_of-is First before t x is, subst (λ (u : List ℕ). length u ≤ longest First) (sym (text-entry_of First before t x is)) short)) e

line-first : (line before : ℕ) (t : List ℕ) (es : List Entry) → line_of (record { format = First; line = line; before = before }) t ≡ Some es → AreSaid es
line-first line before t es e =
    elim (cases_Bool (ltb (longest First) (length t))) [
      | inl long ↦ let none : None ≡ Some es = rw long at e in absurd cc
      | inr isnt ↦ said-first line before t es (ltb-false (longest First) (length t) isnt) (rw isnt at e)
    ]

-- entries that can be written in format 2 after this reading
record AreWritable (before : ℕ) (es : List Entry) : Type 0 where
  are : All IsEntry es
  short : AreShort Second before es

none_written : (before : ℕ) (es : List Entry) → es ≡ [] → AreWritable before es
none_written before es e = subst (AreWritable before) (sym e) (record { are = All-nil IsEntry; short = tt })

more_written : (before : ℕ) (es fs all : List Entry) → IsNumber before → AreSaid es → ((at : ℕ) → IsNumber at → AreWritable at fs) → all ≡ es ++ fs → AreWritable before all
more_written before [] fs all fits is more e = subst (AreWritable before) (sym e) (more before fits)
more_written before (x ∷ []) fs all fits is more e =
    let rest = more x.at is.0.at in
    subst (AreWritable before) (sym e) (record { are = All-cons IsEntry x fs is.0 rest.are; short = (second-short before x fits is.0 is.1, rest.short) })
more_written before (x ∷ y ∷ es) fs all fits is more e = absurd is

written-from : (line before : ℕ) (ls : List (List ℕ)) (after : ℕ) → IsNumber after → AreWritable after (entries_from (record { format = First; line = line; before = before }) ls)
unfolding entries_from
written-from line before [] after fits = none_written after [] refl
written-from line before (t ∷ []) after fits = none_written after [] refl
written-from line before (t ∷ u ∷ ls) after fits =
    by (λ (es : List Entry). written-from (line + 1) (last_reading before es) (u ∷ ls)) (line_of p t) refl
  where
    p : LineStart
    p = record { format = First; line = line; before = before }

    by : ((es : List Entry) (at : ℕ) → IsNumber at → AreWritable at (entries_from (next p es) (u ∷ ls))) → (o : Option (List Entry)) → line_of p t ≡ o → AreWritable after (entries_from p (t ∷ u ∷ ls))
    by r None e = none_written after _ (entries-bad p t (u ∷ ls) (omega arith) e)
    by r (Some es) e = more_written after es (entries_from (next p es) (u ∷ ls)) _ fits (line-first line before t es e) (r es) (entries-good p t es (u ∷ ls) (omega arith) e)

pub journal-are : (o : List ℕ) → All IsEntry (journal First o)
journal-are o = (written-from 1 0 (lines_in o) 0 (omega arith)).are

pub journal-short : (o : List ℕ) → AreShort Second 0 (journal First o)
journal-short o = (written-from 1 0 (lines_in o) 0 (omega arith)).short

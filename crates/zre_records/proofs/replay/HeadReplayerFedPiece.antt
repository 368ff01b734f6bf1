-- The machine of `replay` without words, fed one more piece: settings that were told are told still, there is no journal
-- before them, and the text of more octets begins with that of fewer.
use Rattle.std.proofs.Common.{◌≡◌, ℕ, Bool, true, false, cond, Option, Some, None, List, [], ◌∷◌, ◌++◌, length, refl, sym, ap, ◌∙◌, subst, append-nil, arith}
use Rattle.std.specs.Prelude.{is_some, IfSome, nat_lt}
use Rattle.zre_capture.specs.Formats.{longest}
use Rattle.zre_values.specs.Settings.{is_valid}
use Rattle.zre_capture.specs.Journal.{journal, settings, settings_in, lines_in, said, start, entries_from}
use Rattle.zre_capture.specs.Reading.{settings_of}
use Rattle.zre_capture.specs.declared.format.Format.TheVariants.{Second}
use Rattle.zre_values.specs.declared.settings.Settings.{Settings}
use Rattle.zre_capture.proofs.JournalGrows.{journal_grows, settings_stay}
use Rattle.zre_capture.proofs.HeadSettings.{settings_of-some}
use Rattle.zre_capture.proofs.LineByLine.{entries-bad}
use Rattle.zre_journal.specs.Events.{events}
use Rattle.zre_journal.proofs.JoinedEntries.{continues}
use Rattle.zre_node.specs.declared.node.Node.{Node}
use Rattle.zre_node.specs.Journal.{StandsFor}
use Rattle.zre_outside.specs.declared.entry.Entry.{Entry}
use Rattle.zre_peer.specs.Lines.{lines}
use Rattle.zre_peer.specs.declared.event.Event.{Event}
use Rattle.zre_commands.specs.pump.Meaning.{Grows}
use Rattle.zre_records.specs.replay.Lives.{Lives, AreStill, Tells, TookIfAny}
use Rattle.zre_records.specs.replay.Replay.{told_text, told_replay}
use Rattle.zre_records.proofs.replay.ReplayerFedPiece.{lines_more}

-- ---- before any octet

pub no_settings : settings Second [] ≡ None
no_settings = refl

pub text_nothing : told_text [] ≡ []
text_nothing = refl

-- ---- settings

-- a head that says no settings says no entries, and what follows it isn't read
bad_head : (long : Bool) (s : Option Settings) → cond long None s ≡ None → cond {A = Option (List Entry)} long None (cond (is_some s) (Some []) None) ≡ None
bad_head true s e = refl
bad_head false None e = refl
bad_head false (Some s) e = absurd cc

no_entries : (ls : List (List ℕ)) → settings_in Second ls ≡ None → entries_from (start Second) ls ≡ []
unfolding entries_from said
no_entries [] e = refl
no_entries (last ∷ []) e = refl
no_entries (text ∷ after ∷ more) e = entries-bad (start Second) text (after ∷ more) (omega arith) (bad_head (nat_lt (longest Second) (length text)) (settings_of text) e)

-- there is no journal before the settings
pub no_journal : (o : List ℕ) → settings Second o ≡ None → journal Second o ≡ []
no_journal o e = no_entries (lines_in o) e

valid_unless : (long : Bool) (text : List ℕ) (s : Settings) → cond long None (settings_of text) ≡ Some s → is_valid s ≡ true
valid_unless true text s e = absurd cc
valid_unless false text s e = (settings_of-some text s e).valid

valid_in : (ls : List (List ℕ)) (s : Settings) → settings_in Second ls ≡ Some s → is_valid s ≡ true
valid_in [] s e = absurd cc
valid_in (last ∷ []) s e = absurd cc
valid_in (text ∷ after ∷ more) s e = valid_unless (nat_lt (longest Second) (length text)) text s e

if_any : (t : Option Settings) → ((s : Settings) → t ≡ Some s → is_valid s ≡ true) → IfSome t (λ s. is_valid s ≡ true)
if_any None h = tt
if_any (Some s) h = h s refl

still : (o x : List ℕ) → AreStill (settings Second o) (journal Second o) (settings Second (o ++ x))
still o x = by (settings Second o) refl
  where
    by : (t : Option Settings) → settings Second o ≡ t → AreStill t (journal Second o) (settings Second (o ++ x))
    by None e = no_journal o e
    by (Some s) e = settings_stay Second o x s e

-- what more octets tell
pub tells : (o x : List ℕ) (told : Option Settings) → told ≡ settings Second (o ++ x) → Tells (settings Second o) (journal Second o) told
tells o x told e = record {
  still = subst (AreStill (settings Second o) (journal Second o)) (sym e) (still o x);
  valid = subst (λ t. IfSome t (λ s. is_valid s ≡ true)) (sym e) (if_any (settings Second (o ++ x)) (valid_in (lines_in (o ++ x))));
}

none_before : (o x : List ℕ) → settings Second (o ++ x) ≡ None → settings Second o ≡ None
none_before o x e = by (settings Second o) refl
  where
    by : (t : Option Settings) → settings Second o ≡ t → t ≡ None
    by None h = refl
    by (Some s) h = let z : Some s ≡ None = sym (settings_stay Second o x s h) ∙ e in absurd cc

-- ---- a node that lives

pub lives_on : (told : Option Settings) (J es K : List Entry) (n : Option Node) (out out' : List ℕ) → TookIfAny told J es n out out' → K ≡ J ++ es → Lives told K n
lives_on None J es K None out out' t e = tt
lives_on None J es K (Some n) out out' t e = absurd t
lives_on (Some s) J es K None out out' t e = absurd t
lives_on (Some s) J es K (Some n) out out' t e = subst (λ L. StandsFor s L n) (sym e) t.stands

-- ---- the text

text_at : (o : List ℕ) (s : Settings) → settings Second o ≡ Some s → told_text o ≡ lines (events s (journal Second o))
text_at o s e = rw e refl

text_none : (o : List ℕ) → settings Second o ≡ None → told_text o ≡ []
text_none o e = rw e refl

-- before settings that come with a piece the text is that of their node too, which has taken nothing
text_before : (o x : List ℕ) (s : Settings) → settings Second (o ++ x) ≡ Some s → told_text o ≡ lines (events s (journal Second o))
text_before o x s e = by (settings Second o) refl
  where
    same : (t : Settings) → settings Second o ≡ Some t → Some s ≡ Some t
    same t h = sym e ∙ settings_stay Second o x t h

    by : (t : Option Settings) → settings Second o ≡ t → told_text o ≡ lines (events s (journal Second o))
    by None h = text_none o h ∙ sym (ap (λ J. lines (events s J)) (no_journal o h))
    by (Some t) h = text_at o s (h ∙ sym (same t h))

silent : (o x : List ℕ) → settings Second (o ++ x) ≡ None → told_text (o ++ x) ≡ told_text o ++ []
silent o x e = text_none (o ++ x) e ∙ sym (append-nil (told_text o) ∙ text_none o (none_before o x e))

grown : (o x : List ℕ) (s : Settings) (es : List Entry) (told : List Event) → settings Second (o ++ x) ≡ Some s → journal Second (o ++ x) ≡ journal Second o ++ es
    → events s (journal Second o ++ es) ≡ events s (journal Second o) ++ told → told_text (o ++ x) ≡ told_text o ++ lines told
grown o x s es told e j more =
    text_at (o ++ x) s e ∙ ap (λ J. lines (events s J)) j ∙ lines_more s (journal Second o) es told more
    ∙ ap (λ (l : List ℕ). l ++ lines told) (sym (text_before o x s e))

pub text_grows : (o x : List ℕ) → (added : List ℕ) × (told_text (o ++ x) ≡ told_text o ++ added)
text_grows o x = by (settings Second (o ++ x)) refl
  where
    by : (t : Option Settings) → settings Second (o ++ x) ≡ t → (added : List ℕ) × (told_text (o ++ x) ≡ told_text o ++ added)
    by None e = ([], silent o x e)
    by (Some s) e =
        let more = journal_grows Second o x in
        (_, grown o x s more.0 _ e more.1 (continues s (journal Second o) more.0).told)

-- the entries of a piece were told to the node of the settings
pub text_on : (o x : List ℕ) (told : Option Settings) (es : List Entry) (n : Option Node) (out out' : List ℕ) → told ≡ settings Second (o ++ x) → TookIfAny told (journal Second o) es n out out' → journal Second (o ++ x) ≡ journal Second o ++ es
    → Grows told_replay o x out out'
text_on o x None es None out out' e t j = record { added = []; longer = silent o x (sym e); appended = t ∙ sym (append-nil out) }
text_on o x None es (Some n) out out' e t j = absurd t
text_on o x (Some s) es None out out' e t j = absurd t
text_on o x (Some s) es (Some n) out out' e t j = record {
  added = lines t.told;
  longer = grown o x s es t.told (sym e) j t.more;
  appended = t.appended;
}

-- The machine of `replay`, fed one more piece: the text of more octets begins with that of fewer.
use Rattle.std.proofs.Common.{◌≡◌, ℕ, List, [], ◌++◌, ap, ◌∙◌}
use Rattle.std.proofs.lemmas.List.Concat.{flat_map-append}
use Rattle.zre_capture.specs.Journal.{journal}
use Rattle.zre_capture.specs.declared.format.Format.TheVariants.{First}
use Rattle.zre_capture.proofs.JournalGrows.{journal_grows}
use Rattle.zre_values.specs.declared.settings.Settings.{Settings as Config}
use Rattle.zre_journal.specs.Events.{events}
use Rattle.zre_journal.proofs.JoinedEntries.{continues}
use Rattle.zre_node.specs.declared.node.Node.{Node}
use Rattle.zre_outside.specs.declared.entry.Entry.{Entry}
use Rattle.zre_peer.specs.Lines.{line, lines}
use Rattle.zre_peer.specs.declared.event.Event.{Event}
use Rattle.zre_commands.specs.pump.Meaning.{Grows}
use Rattle.zre_records.specs.replay.Replay.{text, replay}
use Rattle.zre_records.specs.replay.Taken.{Took}
use Rattle.zre_records.proofs.replay.CaptureInPieces.{no_entries}

-- more events have more lines
pub lines_more : (g : Config) (J K : List Entry) (told : List Event) → events g (J ++ K) ≡ events g J ++ told → lines (events g (J ++ K)) ≡ lines (events g J) ++ lines told
lines_more g J K told e = ap lines e ∙ flat_map-append line (events g J) told

text_by : (g : Config) (o x : List ℕ) (es : List Entry) (told : List Event) → journal First (o ++ x) ≡ journal First o ++ es → events g (journal First o ++ es) ≡ events g (journal First o) ++ told → text g (o ++ x) ≡ text g o ++ lines told
text_by g o x es told j e = ap (λ J. lines (events g J)) j ∙ lines_more g (journal First o) es told e

pub text_grows : (g : Config) (o x : List ℕ) → (added : List ℕ) × (text g (o ++ x) ≡ text g o ++ added)
text_grows g o x = let more = journal_grows First o x in (_, text_by g o x more.0 _ more.1 (continues g (journal First o) more.0).told)

pub text_nothing : (g : Config) → text g [] ≡ []
text_nothing g = ap (λ J. lines (events g J)) no_entries

-- the entries of a piece were told to the node
pub text_on : (g : Config) (o x : List ℕ) (es : List Entry) (n : Node) (out out' : List ℕ) → Took g (journal First o) es n out out' → journal First (o ++ x) ≡ journal First o ++ es → Grows (replay g) o x out out'
text_on g o x es n out out' t j = record {
  added = lines t.told;
  longer = text_by g o x es t.told j t.more;
  appended = t.appended;
}

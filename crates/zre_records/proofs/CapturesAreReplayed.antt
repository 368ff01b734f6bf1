-- Captures that are replayed without words.
use Rattle.std.proofs.Common.{◌≡◌, ℕ, All, List, [], ◌++◌, ap, ◌∙◌, append-nil}
use Rattle.std.specs.Prelude.{is_some}
use Rattle.std.specs.Option.{option_map_or}
use Rattle.zre_capture.specs.Heads.{AreSettings}
use Rattle.zre_capture.specs.Journal.{capture, journal, IsCaptureOf}
use Rattle.zre_capture.specs.Lines.{IsEntry, AreShort}
use Rattle.zre_capture.specs.declared.format.Format.TheVariants.{First, Second}
use Rattle.zre_values.specs.declared.settings.Settings.{Settings}
use Rattle.zre_capture.proofs.HeadShort.{head-short}
use Rattle.zre_capture.proofs.FormatUpgrade.{journal-are, journal-short}
use Rattle.zre_capture.proofs.WholeCaptures.{captured}
use Rattle.zre_journal.specs.Events.{events}
use Rattle.zre_outside.specs.declared.entry.Entry.{Entry}
use Rattle.zre_peer.specs.Lines.{lines}
use Rattle.zre_records.specs.Laws.{IsReplayed}
use Rattle.zre_commands.specs.pump.Lines.{refusal}
use Rattle.zre_records.specs.replay.Replay.{told_text}
use Rattle.zre_records.specs.upgrade.Upgrade.{text}

of_capture : (s : Settings) (J : List Entry) (o : List ℕ) → IsCaptureOf Second s J o → IsReplayed s J o
of_capture s J o is =
    let text : told_text o ≡ lines (events s J) =
    ap (λ t. option_map_or (λ (u : Settings). lines (events u (journal Second o))) t []) is.settings_are
    ∙ ap (λ K. lines (events s K)) is.entries in
    record {
      is_good = ap is_some is.whole;
      is_written = ap (λ b. told_text o ++ refusal b) is.whole ∙ append-nil (told_text o) ∙ text;
    }

pub written : (s : Settings) (J : List Entry) → AreSettings s → All IsEntry J → AreShort Second 0 J → IsReplayed s J (capture Second s J)
written s J are entries short = of_capture s J (capture Second s J) (captured Second s J are (head-short Second s are) entries short)

pub upgraded : (s : Settings) (o : List ℕ) → AreSettings s → IsReplayed s (journal First o) (text s o)
unfolding text
upgraded s o are = written s (journal First o) are (journal-are o) (journal-short o)

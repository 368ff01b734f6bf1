-- What is proved of what the commands make of captures and of schedules.
use Rattle.std.specs.Prelude.{◌≡◌, ◌↔◌, ℕ, false, List, All, Some, codes}
use Rattle.zre_audit.specs.Agreement.{Agree}
use Rattle.zre_capture.specs.Heads.{AreSettings}
use Rattle.zre_capture.specs.Journal.{capture, journal, settings}
use Rattle.zre_capture.specs.Lines.{IsEntry, AreShort}
use Rattle.zre_capture.specs.declared.format.Format.TheVariants.{First, Second}
use Rattle.zre_values.specs.declared.settings.Settings.{Settings}
use Rattle.zre_journal.specs.Events.{events}
use Rattle.zre_net.specs.Agreement.{IsAgreed}
use Rattle.zre_net.specs.Reading.{lines_in, moves_of}
use Rattle.zre_net.specs.Said.{said}
use Rattle.zre_outside.specs.declared.entry.Entry.{Entry}
use Rattle.zre_peer.specs.Lines.{lines}
use Rattle.zre_commands.specs.pump.Meaning.{whole_text}
use Rattle.zre_records.specs.audit.Audit.{audit, earlier, later}
use Rattle.zre_records.specs.replay.Replay.{told_replay}
use Rattle.zre_records.specs.simulate.Simulate.{simulate, told_lines}
use Rattle.zre_records.specs.upgrade.Upgrade.{upgrade}

-- these octets are replayed without words: nothing in them is refused, and what is written are the lines of the events
-- of this journal, for the node of these settings
pub record IsReplayed (s : Settings) (J : List Entry) (o : List ℕ) : Type 0 where
  pub is_good : told_replay.is_bad o ≡ false
  pub is_written : whole_text told_replay o ≡ lines (events s J)

-- so is a capture of format 2, where its entries hold values of their types and no line is too long
abbrev pub CapturesAreReplayed : Type 0
CapturesAreReplayed =
    (s : Settings) (J : List Entry) → AreSettings s → All IsEntry J → AreShort Second 0 J
    → IsReplayed s J (capture Second s J)

-- and what `upgrade` writes of a capture of format 1, whatever that is
abbrev pub UpgradedIsReplayed : Type 0
UpgradedIsReplayed =
    (s : Settings) (o : List ℕ) → AreSettings s → IsReplayed s (journal First o) ((upgrade s).text o)

-- the nodes of this schedule agree, and what is written are the lines of what they tell
pub record IsSimulated (o : List ℕ) : Type 0 where
  pub agreed : IsAgreed (moves_of (lines_in o))
  pub is_written : whole_text simulate o ≡ told_lines (said (moves_of (lines_in o)))

-- so it is of every schedule that isn't refused
abbrev pub SchedulesAgree : Type 0
SchedulesAgree = (o : List ℕ) → simulate.is_bad o ≡ false → IsSimulated o

-- of two captures that aren't refused, of nodes with these settings, `AUDIT yes` is written exactly where their
-- journals agree
abbrev pub AuditsSayYes : Type 0
AuditsSayYes =
    (o : List ℕ) (s t : Settings) → audit.is_bad o ≡ false
    → settings Second (earlier o) ≡ Some s → settings Second (later o) ≡ Some t
    → (whole_text audit o ≡ codes "AUDIT yes\n")
    ↔ Agree s t (journal Second (earlier o)) (journal Second (later o))

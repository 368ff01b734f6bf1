-- What `audit` makes of the octets of two captures of format 2, one after the other.
use Rattle.std.specs.Prelude.{ℕ, ◌+◌, Bool, false, ◌||◌, if◌then◌else◌, List, [], ◌++◌, Option, Some, None, option_map}
use Rattle.std.specs.Prelude.{is_some, nat_eq, codes}
use Rattle.std.specs.Option.{option_or}
use Rattle.zre_values.specs.Text.{id_text}
use Rattle.zre_capture.specs.Journal.{journal, settings, bad, bad_at_end}
use Rattle.zre_capture.specs.declared.fault.BadCapture.{BadCapture}
use Rattle.zre_capture.specs.declared.format.Format.TheVariants.{Second}
use Rattle.zre_values.specs.declared.settings.Settings.{Settings}
use Rattle.zre_audit.specs.Agreement.{judged}
use Rattle.zre_audit.specs.Lines.{line}
use Rattle.zre_audit.specs.Prefixes.{begins}
use Rattle.zre_outside.specs.declared.entry.Entry.{Entry}
use Rattle.zre_records.specs.audit.Cut.{cut, lines_of}
use Rattle.zre_records.specs.replay.Capture.{refusal_or}
use Rattle.zre_commands.specs.pump.Meaning.{Meaning}

-- the octets of each capture: none of the second before it has begun
abbrev pub earlier : List ℕ → List ℕ
earlier o = (cut o).0

abbrev pub later : List ℕ → List ℕ
later o = (cut o).1

-- ---- the second capture, where these settings are told of the node of the first

-- the front of a head of that node
abbrev pub own_front : Settings → List ℕ
own_front s = codes "zre-capture 2 " ++ id_text s.id

-- whether the second is of the same node, or has an identity that begins so
abbrev pub is_again : Option Settings → List ℕ → Bool
is_again None o = false
is_again (Some s) o = begins nat_eq (own_front s) o

-- where it is bad, whatever follows, and if nothing follows: at its identity, if that is the same
abbrev pub later_bad : Option Settings → List ℕ → Option BadCapture
later_bad told o = if is_again told o then Some (record { line = 1; column = 15 }) else bad Second o

abbrev pub later_bad_at_end : Option Settings → List ℕ → Option BadCapture
later_bad_at_end told o = if is_again told o then Some (record { line = 1; column = 15 }) else bad_at_end Second o

-- ---- both

-- a place that is so many lines later
abbrev pub moved : ℕ → BadCapture → BadCapture
moved lines b = record { line = b.line + lines; column = b.column }

-- where the input is bad, if nothing follows: in the first capture, or else in the second, which isn't there before it
-- has begun
abbrev pub place : List ℕ → Option BadCapture
place o =
    option_or (bad_at_end Second (earlier o))
    (option_map (moved (lines_of (earlier o))) (later_bad_at_end (settings Second (earlier o)) (later o)))

-- the line of what is judged of journals of nodes with these settings, once they are told
abbrev pub judgement : Option Settings → Option Settings → List Entry → List Entry → List ℕ
judgement None told J K = []
judgement (Some s) None J K = []
judgement (Some s) (Some t) J K = line (judged s t J K)

abbrev pub verdict : List ℕ → List ℕ
verdict o =
    judgement (settings Second (earlier o)) (settings Second (later o)) (journal Second (earlier o))
    (journal Second (later o))

-- all that `audit` makes of octets: nothing is written before their end, and then whether the two nodes agree, or else
-- the place where the input is bad. It is `AUDIT yes` exactly where their journals agree (law
-- `audits_say_yes_where_journals_agree`).
abbrev pub audit : Meaning
audit = record {
  text = λ o. [];
  is_stopped = λ o. is_some (bad Second (earlier o))
      || is_some (later_bad (settings Second (earlier o)) (later o));
  is_bad = λ o. is_some (place o);
  ending = λ o. refusal_or (place o) (verdict o);
}

-- What `table` makes of the octets of a capture of format 2.
use Rattle.std.specs.Prelude.{ℕ, List, [], is_some}
use Rattle.std.specs.Option.{option_map_or}
use Rattle.zre_capture.specs.Journal.{journal, settings, bad, bad_at_end}
use Rattle.zre_capture.specs.declared.format.Format.TheVariants.{Second}
use Rattle.zre_shared.specs.Lines.{lines}
use Rattle.zre_shared.specs.Tables.{table as table_of}
use Rattle.zre_records.specs.replay.Capture.{refusal_or}
use Rattle.zre_commands.specs.pump.Meaning.{Meaning}
use Rattle.zre_records.specs.table.Writes.{writes}

-- the lines of the table of the writes of its journal to the group, for the node of its settings
abbrev pub text : List ℕ → List ℕ → List ℕ
text group o =
    option_map_or (λ s. lines (table_of (writes s group (journal Second o)))) (settings Second o) []

-- all that `table` makes of octets: nothing is written before their end, and then the table, or else the place of the
-- first bad line alone
abbrev pub table : List ℕ → Meaning
table group = record {
  text = λ o. [];
  is_stopped = λ o. is_some (bad Second o);
  is_bad = λ o. is_some (bad_at_end Second o);
  ending = λ o. refusal_or (bad_at_end Second o) (text group o);
}

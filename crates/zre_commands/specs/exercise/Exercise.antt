-- What the command `exercise` writes.
use Rattle.std.specs.Prelude.{ℕ, List, length}
use Rattle.zre_capture.specs.Exercise.{exercise}
use Rattle.zre_journal.specs.Events.{events}
use Rattle.zre_commands.specs.exercise.Counts.{tally}
use Rattle.zre_commands.specs.exercise.Settings.{settings}
use Rattle.zre_commands.specs.exercise.Summary.{summary}

-- the summary of the journal of a seed, with so many peers and messages: of its entries, and of the events of the node
abbrev pub text : ℕ → ℕ → ℕ → List ℕ
text seed peers messages =
    summary (tally (length (exercise seed peers messages)) (events settings (exercise seed peers messages)))

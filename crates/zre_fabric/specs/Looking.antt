-- When a look comes before any other turn.
use Rattle.std.specs.Prelude.{ℕ, Bool, ◌+◌, ◌||◌, ◌&&◌, nat_le, nat_lt, length, Option, Some, None}
use Rattle.zre_outside.specs.declared.entry.Input.{Input}
use Rattle.zre_outside.specs.declared.entry.Input.TheVariants as input
use Rattle.zre_outside.specs.declared.entry.Command.{Command}
use Rattle.zre_outside.specs.declared.turn.Turn.{Turn}
use Rattle.zre_outside.specs.declared.turn.Turn.TheVariants as turn
use Rattle.zre_outside.specs.Causes.{raised}
use Rattle.zre_fabric.specs.Retries.{latest}

-- the entries since the last look, after this turn
abbrev pub entries_after : ℕ → Turn → ℕ
entries_after entries turn.Look = 0
entries_after entries (turn.Entry e) = raised entries

-- the commands since the last entry that isn't one, after this turn
abbrev pub commands_after : ℕ → Option Command → Turn → ℕ
commands_after commands command turn.Look = commands
commands_after commands None (turn.Entry e) = 0
commands_after commands (Some c) (turn.Entry e) = raised commands

-- after 64 entries, and after a command, unless 64 came in a row: a command comes after a look, so where there are
-- entries and commands the last turn was a command
abbrev pub is_full : ℕ → ℕ → Bool
is_full entries commands = nat_le 64 entries || (nat_lt 0 entries && (nat_lt 0 commands && nat_lt commands 64))

-- the octets that an entry brings from a socket
abbrev pub octets_in : Input → ℕ
octets_in (input.Datagram from bytes) = length bytes
octets_in (input.Piece conn bytes) = length bytes
octets_in (input.Reply link bytes) = length bytes
octets_in _ = 0

-- the octets of the entries since the last look, after this turn
abbrev pub octets_after : ℕ → Turn → ℕ
octets_after octets turn.Look = 0
octets_after octets (turn.Entry e) = latest (octets + octets_in e.input)

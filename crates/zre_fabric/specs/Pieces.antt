-- The pieces in which octets come.
use Rattle.std.specs.Prelude.{◌≤◌, length, ⊤}
use Rattle.zre_outside.specs.declared.entry.Input.{Input}
use Rattle.zre_outside.specs.declared.entry.Input.TheVariants as input
use Rattle.zre_outside.specs.declared.turn.Turn.{Turn}
use Rattle.zre_outside.specs.declared.turn.Turn.TheVariants as turn
use Rattle.zre_fabric.specs.declared.polled.Polled.{Polled}
use Rattle.zre_fabric.specs.declared.polled.Polled.TheVariants as step
use Rattle.zre_fabric.specs.declared.read_buffer.StreamRead.{StreamRead as HeardValue}
use Rattle.zre_fabric.specs.declared.read_buffer.StreamRead.TheVariants as heard

-- a datagram has at most 65,536 octets, what a connection or a link brings at a time 16,384
abbrev pub IsShort : Input → Type 0
IsShort (input.Datagram from bytes) = length bytes ≤ 65536
IsShort (input.Piece conn bytes) = length bytes ≤ 16384
IsShort (input.Reply link bytes) = length bytes ≤ 16384
IsShort _ = ⊤

-- the same of an entry, of what a read gave, and of a look at a source
abbrev pub TurnIsShort : Turn → Type 0
TurnIsShort turn.Look = ⊤
TurnIsShort (turn.Entry e) = IsShort e.input

abbrev pub HeardIsShort : HeardValue → Type 0
HeardIsShort (heard.Octets bytes) = length bytes ≤ 16384
HeardIsShort _ = ⊤

abbrev pub StepIsShort : Polled → Type 0
StepIsShort (step.More i) = IsShort i
StepIsShort (step.Last i) = IsShort i
StepIsShort _ = ⊤

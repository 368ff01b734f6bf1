-- The clock's readings.
use Rattle.std.specs.Prelude.{ℕ, ◌≡◌, ⊤}
use Rattle.zre_outside.specs.declared.turn.Turn.{Turn}
use Rattle.zre_outside.specs.declared.turn.Turn.TheVariants as turn

-- an entry has this reading
abbrev pub IsReadAt : ℕ → Turn → Type 0
IsReadAt at turn.Look = ⊤
IsReadAt at (turn.Entry e) = e.at ≡ at

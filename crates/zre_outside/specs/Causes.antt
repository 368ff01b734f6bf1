-- Counts of faults: they never fall, and a fault is answered only where its count rose.
use Rattle.std.specs.Prelude.{ℕ, ◌+◌, ◌-◌, ◌^◌, ◌≤◌, Bool, true, false, min, Result, Ok, Err}
use Rattle.zre_outside.specs.declared.sink.NextFault.{NextFault}
use Rattle.zre_outside.specs.declared.sink.NextFault.TheVariants.{Failed, OutOfMemory}

-- one more; at the last value of a u64 a count stands still
abbrev pub raised : ℕ → ℕ
raised count = min (count + 1) (2 ^ 64 - 1)

-- the count rose; at its last value it is read as risen
abbrev pub Rose : ℕ → ℕ → Type 0
Rose before now = raised before ≤ now

-- the outside failed, and not with OutOfMemory
abbrev pub is_failed : {T : Type 0} → Result T NextFault → Bool
is_failed (Ok value) = false
is_failed (Err Failed) = true
is_failed (Err OutOfMemory) = false

-- a count after a call, which it raises where the outside failed and nowhere else
abbrev pub counted : Bool → ℕ → ℕ
counted true before = raised before
counted false before = before

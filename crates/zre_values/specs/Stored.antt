-- Where octets lie. No public clause cites this module.
use Rattle.std.specs.Prelude.{◌≡◌, ℕ, ◌+◌, ◌≤◌, List, length, take, Result, OnOk}
use Rattle.zre_values.specs.declared.octets.Buffer.{Buffer}
use Rattle.zre_values.specs.declared.octets.Buffer.TheVariants.{Inline, Heap}

abbrev pub stored : Buffer → List ℕ
stored (Inline short) = short
stored (Heap long) = long

-- a call that was to make room for `more` octets after the first `count` of a vector: these stay as they were, and
-- where it is done there is room
abbrev pub MakesRoom : {E : Type 0} → Result (Unit {0}) E → ℕ → ℕ → List ℕ → List ℕ → Type 0
MakesRoom result count more items items' =
    (take count items' ≡ take count items) × (count ≤ length items') × OnOk result (count + more ≤ length items')

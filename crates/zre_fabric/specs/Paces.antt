-- When Ticks and looks are due. All are readings in milliseconds.
use Rattle.std.specs.Prelude.{ℕ, min, ◌+◌, ◌-◌, ◌*◌, nat_lt, if◌then◌else◌}
use Rattle.zre_fabric.specs.Retries.{latest}

-- the next Tick after the one that was due at tick and was given: an interval later, or, where that has passed too, an
-- interval from now on
abbrev pub tick_after : ℕ → ℕ → ℕ → ℕ
tick_after interval tick at =
    if nat_lt at (latest (tick + interval)) then latest (tick + interval) else latest (at + interval)

-- up to the next look or Tick, and 20 milliseconds at most, in nanoseconds
abbrev pub wait_of : ℕ → ℕ → ℕ → ℕ
wait_of look tick at = 1000000 * min (min look tick - at) 20

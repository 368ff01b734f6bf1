-- When what failed is tried again, and how often something may happen.
use Rattle.std.specs.Prelude.{ℕ, min, ◌+◌, ◌*◌, ◌-◌, ◌/◌, ◌%◌, ◌^◌, Bool, ◌&&◌, nat_lt, nat_le, if◌then◌else◌}
use Rattle.zre_outside.specs.Causes.{raised}

-- a reading that has room in 64 bits
abbrev pub latest : ℕ → ℕ
latest at = min at (2 ^ 64 - 1)

-- 100 milliseconds, doubled with each try, and 2,000 from the sixth on
abbrev pub whole_delay : ℕ → ℕ
whole_delay tries = if nat_lt tries 5 then 100 * 2 ^ tries else 2000

-- up to a quarter less by chance
abbrev pub delay_of : ℕ → ℕ → ℕ
delay_of tries chance = whole_delay tries - chance % (whole_delay tries / 4 + 1)

-- the closings before this one that it counts with: those of which each came within 10 seconds of the one before
abbrev pub closings_after : ℕ → ℕ → ℕ → ℕ → ℕ
closings_after due closed closings at = if nat_lt 0 due && nat_lt (at - closed) 10000 then raised closings else 0

-- whether a closing has the connections of the address wait: of each eight that count together the third to the sixth
abbrev pub is_again : ℕ → Bool
is_again closings = nat_le 2 (closings % 8) && nat_lt (closings % 8) 6

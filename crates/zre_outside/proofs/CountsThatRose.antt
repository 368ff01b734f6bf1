-- Counts of faults that rose.
use Rattle.std.proofs.Common.{ℕ, ◌≤◌, arith}
use Rattle.zre_outside.specs.Causes.{Rose}

pub rose_since : (before mid now : ℕ) → before ≤ mid → Rose mid now → Rose before now
rose_since before mid now le h = omega (arith, le, h)

pub rose_still : (before mid now : ℕ) → mid ≤ now → Rose before mid → Rose before now
rose_still before mid now le h = omega (arith, le, h)

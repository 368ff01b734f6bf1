-- Faults of an object.
use Rattle.std.specs.Prelude.{ℕ, Option}
use Rattle.std.specs.declared.io.Error.{Error}

-- how many there were, and why the last call that failed did
pub record Faults : Type 0 where
  pub count : ℕ
  pub reason : Option Error

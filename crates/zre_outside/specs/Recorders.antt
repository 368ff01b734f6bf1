-- What the recorders in memory hold.
use Rattle.std.specs.Prelude.{ℕ, Bool, List}
use Rattle.zre_outside.specs.Calls.{Calls}
use Rattle.zre_outside.specs.Faults.{Faults}

-- what is kept, under which name, and whether it is begun
pub record Capture : Type 0 where
  pub kept : List ℕ
  pub named : List ℕ
  pub begun : Bool

-- the same where some calls are to fail
pub record FailingCapture : Type 0 where
  pub capture : Capture
  pub begins : Calls
  pub puts : Calls
  pub faults : ℕ

-- a file: whether it is begun, and its faults
pub record FileCapture : Type 0 where
  pub begun : Bool
  pub faults : Faults

-- What the objects in memory hold.
use Rattle.std.specs.Prelude.{ℕ, List}
use Rattle.zre_outside.specs.Calls.{Calls, last_is_listed}
use Rattle.zre_outside.specs.Refusals.{Refusals}

-- octets that are read in order
pub record SourceReading : Type 0 where
  pub left : List ℕ
  pub taken : List ℕ

-- the same where some reads are to fail
pub record FailingReading : Type 0 where
  pub octets : SourceReading
  pub reads : Calls
  pub faults : ℕ

-- the reads that it refused
abbrev pub refusals_in : FailingReading → Refusals
refusals_in s = record { count = s.faults; is_last = last_is_listed s.reads }

-- octets that are written in order, where some writes are to fail
pub record FailingWriting : Type 0 where
  pub written : List ℕ
  pub writes : Calls
  pub faults : ℕ

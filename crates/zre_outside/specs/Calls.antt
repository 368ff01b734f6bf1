-- Calls that are counted, of which some are to fail.
use Rattle.std.specs.Prelude.{ℕ, ◌==◌, Bool, List}
use Rattle.std.specs.List.{list_any}
use Rattle.zre_outside.specs.Causes.{raised}

pub record Calls : Type 0 where
  -- the numbers of those that are to fail, counted from 1
  pub fails : List ℕ
  -- how many there were
  pub made : ℕ

-- none was made yet
abbrev pub no_calls : List ℕ → Calls
no_calls fails = record { fails = fails; made = 0 }

-- one more was made
abbrev pub called : Calls → Calls
called c = record c { made = raised c.made }

-- the next one is to fail
abbrev pub next_is_listed : Calls → Bool
next_is_listed c = list_any (λ n. n == raised c.made) c.fails

-- the last one was to fail
abbrev pub last_is_listed : Calls → Bool
last_is_listed c = list_any (λ n. n == c.made) c.fails

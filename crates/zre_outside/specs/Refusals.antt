-- What an object tells of the calls that it refused since it failed.
use Rattle.std.specs.Prelude.{◌≡◌, ℕ, Bool, true, false, Option, option_map}
use Rattle.zre_outside.specs.Causes.{raised, counted}

-- how many there were after a call more, where that is told
abbrev pub refused_after : Bool → Option ℕ → Option ℕ
refused_after true count = option_map raised count
refused_after false count = count

-- the reads that a source refused: how many there were, and whether the last read was one
pub record Refusals : Type 0 where
  pub count : ℕ
  pub is_last : Bool

-- none so far
abbrev pub no_refusals : Refusals
no_refusals = record { count = 0; is_last = false }

-- a read was refused or answered
abbrev pub after_read : Bool → Refusals → Refusals
after_read is_refused r = record { count = counted is_refused r.count; is_last = is_refused }

-- where that is told, none of the reads since was refused
abbrev pub RefusesNone : Option Refusals → Option Refusals → Type 0
RefusesNone old new = option_map (λ r. r.count) new ≡ option_map (λ r. r.count) old

-- where that is told, the last of them was refused and no other
abbrev pub RefusesLast : Option Refusals → Option Refusals → Type 0
RefusesLast old new = new ≡ option_map (after_read true) old

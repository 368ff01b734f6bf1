-- What a desk tells of itself, and what its calls do to that.
use Rattle.std.specs.Prelude.{◌≡◌, ℕ, List, [], ◌∷◌, ◌++◌, Option, Some, None}
use Rattle.zre_values.specs.declared.endpoint.Endpoint.{Endpoint}
use Rattle.zre_outside.specs.Calls.{Calls}
use Rattle.zre_outside.specs.Memory.{SourceReading}

pub record Register (Client : Type 0) : Type 0 where
  -- where it was last begun
  pub begun : Option Endpoint
  -- the clients, each as it was when it was given, in order
  pub given : List Client

-- it was begun
abbrev pub with_begun : {Client : Type 0} → List ℕ → ℕ → Register Client → Register Client
with_begun addr port r = record r { begun = Some (record { addr = addr; port = port }) }

-- a client was given
abbrev pub with_given : {Client : Type 0} → Client → Register Client → Register Client
with_given c r = record r { given = r.given ++ c ∷ [] }

-- nothing was done yet
abbrev pub first_register : {Client : Type 0} → Register Client
first_register = record { begun = None; given = [] }

-- the clients that a desk in memory has left to give, and what it did
pub record ClientQueue (Client : Type 0) : Type 0 where
  pub left : List Client
  pub told : Register Client

-- the same where some calls are to fail
pub record FailingQueue (Client : Type 0) : Type 0 where
  pub queue : ClientQueue Client
  pub begins : Calls
  pub nexts : Calls
  pub faults : ℕ

-- the client that comes is the first that is left, and past the last one it has nothing to send
abbrev pub GivesOn : SourceReading → List SourceReading → List SourceReading → Type 0
GivesOn c [] later = (c.left ≡ []) × (c.taken ≡ []) × (later ≡ [])
GivesOn c (first ∷ rest) later = (c ≡ first) × (later ≡ rest)

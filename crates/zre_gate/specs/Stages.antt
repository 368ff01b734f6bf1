-- How far a gate has come before the threads are started.
use Rattle.std.specs.Prelude.{◌≡◌, ℕ, Bool, true, List, Option, option_map, length}
use Rattle.zre_values.specs.declared.endpoint.Endpoint.{Endpoint}
use Rattle.zre_outside.specs.Desks.{Register}
use Rattle.zre_gate.specs.Gate.{with_clients}

-- a desk gave these clients, and no others
pub record HasGiven {C : Type 0} (place : Endpoint) (told told' : Option (Register C)) (given : List C) : Type 0 where
  pub begun : Bool
  pub is_told : told' ≡ option_map (with_clients begun place given) told

-- it was begun there, and gave so many
pub record HasGivenAll {C : Type 0} (place : Endpoint) (many : ℕ) (told told' : Option (Register C)) (given : List C)
    : Type 0 where
  pub is_told : told' ≡ option_map (with_clients true place given) told
  pub are_many : length given ≡ many

-- What the machine of `simulate` keeps of the octets that it was fed.
use Rattle.std.specs.Prelude.{◌≡◌, ℕ, List, take}
use Rattle.zre_records.specs.declared.simulate.simulator.Simulator.{Simulator}

-- as many of the first octets as a schedule may have, and one
pub record Fed (r : Simulator) (o : List ℕ) : Type 0 where
  pub kept : r.kept ≡ take 16777217 o

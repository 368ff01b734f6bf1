use Rattle.std.proofs.Common.{◌≡◌, ◌<◌, ◌^◌, ◌++◌, ℕ, List, length, All}
use Rattle.std.specs.Prelude.{flat_map}
use Rattle.zre_values.specs.Text.{quoted_octet}
use Rattle.zre_values.proofs.unquoting.are_quoted_octets.Given as goal

abbrev pub invariant-octets : goal.invariant-octets
invariant-octets l = (u : List ℕ) × All (λ b. b < 2 ^ 8) u × (flat_map quoted_octet u ++ l.rest ≡ l.text)

abbrev pub decreases-octets : goal.decreases-octets
decreases-octets l = length l.rest

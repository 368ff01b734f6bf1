use Rattle.std.proofs.Common.{◌≡◌, ◌<◌, ◌^◌, ◌++◌, length, All}
use Rattle.std.specs.Prelude.{flat_map}
use Rattle.zre_values.specs.Text.{quoted_octet}
use Rattle.zre_values.proofs.unquoting.unquote_octets.Given as goal

abbrev pub invariant-octets : goal.invariant-octets
invariant-octets l = record { so_far : flat_map quoted_octet l.octets ++ l.rest ≡ l.text; fit : All (λ b. b < 2 ^ 8) l.octets }

abbrev pub decreases-octets : goal.decreases-octets
decreases-octets l = length l.rest

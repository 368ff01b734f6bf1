use Rattle.std.proofs.Common.{◌≡◌, length}
use Rattle.zre_tables.specs.Searches.{since_link}
use Rattle.zre_tables.proofs.offers.not_below.Given as goal

-- the same is found among the rest
abbrev pub invariant-loop-rest : goal.invariant-loop-rest
invariant-loop-rest l = since_link l.link l.rest ≡ since_link l.link l.links

abbrev pub decreases-loop-rest : goal.decreases-loop-rest
decreases-loop-rest l = length l.rest

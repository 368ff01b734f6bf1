use Rattle.std.proofs.Common.{◌≡◌, take}
use Rattle.zre_audit.specs.Kept.{octets_at}
use Rattle.zre_audit.proofs.put.join.Given as goal

abbrev pub invariant-loop-place : goal.invariant-loop-place
invariant-loop-place l = l.octets ≡ octets_at l.messages (take l.place-index l.places)

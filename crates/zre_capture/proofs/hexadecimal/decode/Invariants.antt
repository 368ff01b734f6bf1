use Rattle.std.proofs.Common.{◌-◌, ◌≤◌, length}
use Rattle.zre_capture.proofs.DecodedPairs.{AreDecoded}
use Rattle.zre_capture.proofs.hexadecimal.decode.Given as goal

abbrev pub invariant-fours : goal.invariant-fours
invariant-fours l = record {
  so_far : AreDecoded l.digits l.buffer l.all l.i;
  within : l.i ≤ length l.buffer;
}

abbrev pub decreases-fours : goal.decreases-fours
decreases-fours l = length l.buffer - l.i

abbrev pub invariant-pairs : goal.invariant-pairs
invariant-pairs l = AreDecoded l.digits l.buffer l.all l.i

abbrev pub decreases-pairs : goal.decreases-pairs
decreases-pairs l = length l.buffer - l.i

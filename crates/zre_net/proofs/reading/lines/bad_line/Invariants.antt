use Rattle.std.proofs.Common.{◌≡◌, ◌≤◌, length}
use Rattle.zre_net.specs.Reading.{parts_in, bad_from}
use Rattle.zre_net.proofs.reading.lines.bad_line.Given as goal

abbrev pub invariant-lines : goal.invariant-lines
invariant-lines l = record {
  same : bad_from l.n l.used (parts_in l.rest) ≡ bad_from 1 0 (parts_in l.text);
  low : 1 ≤ l.n;
  high : l.n ≤ 262145;
  within : l.used ≤ 16777216;
}

abbrev pub decreases-lines : goal.decreases-lines
decreases-lines l = length l.rest

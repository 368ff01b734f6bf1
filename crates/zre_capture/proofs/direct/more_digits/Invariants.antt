use Rattle.std.proofs.Common.{◌≡◌, ◌-◌, ◌+◌, ◌<◌, ◌≤◌, ◌^◌, ◌++◌, take}
use Rattle.std.specs.Prelude.{decimal}
use Rattle.zre_capture.proofs.direct.more_digits.Given as goal

abbrev pub invariant-digits : goal.invariant-digits
invariant-digits l = record {
  digits : decimal l.n ≡ decimal l.first ++ take l.i l.later;
  some : 0 < l.n;
  below : l.n < 10 ^ (l.i + 1);
  within : l.i ≤ l.most;
}

abbrev pub decreases-digits : goal.decreases-digits
decreases-digits l = l.most - l.i

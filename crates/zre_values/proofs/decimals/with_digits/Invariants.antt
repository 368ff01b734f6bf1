use Rattle.std.proofs.Common.{◌≡◌, ◌++◌, ◌<◌, ◌^◌, take}
use Rattle.std.specs.Prelude.{decimal}
use Rattle.zre_values.proofs.decimals.with_digits.Given as goal

abbrev pub invariant-loop-octet : goal.invariant-loop-octet
invariant-loop-octet l = record {
  digits : decimal l.n ≡ decimal l.front ++ take l.octet-index l.later;
  some : 0 < l.n;
  fits : l.n < 2 ^ 64;
}

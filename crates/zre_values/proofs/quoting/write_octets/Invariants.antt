use Rattle.std.proofs.Common.{◌≡◌, ◌++◌, ◌+◌, ◌*◌, ◌≤◌, drop, take, length}
use Rattle.std.specs.List.{flat_map}
use Rattle.zre_values.specs.Text.{quoted_octet}
use Rattle.zre_values.proofs.quoting.write_octets.Given as goal

abbrev pub invariant-loop-octet : goal.invariant-loop-octet
invariant-loop-octet l = record {
  text : take l.end l.text ++ flat_map quoted_octet (drop l.octet-index l.bytes) ≡ take l.at l.initial.text ++ flat_map quoted_octet l.bytes;
  place : l.end ≤ l.at + 3 * l.octet-index;
  size : length l.text ≡ length l.initial.text;
}

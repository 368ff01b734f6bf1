use Rattle.std.proofs.Common.{◌≡◌, take}
use Rattle.std.specs.List.{list_all}
use Rattle.zre_capture.specs.Values.{is_lower_digit}
use Rattle.zre_capture.proofs.hexadecimal.are_digits.Given as goal

abbrev pub invariant-loop-octet : goal.invariant-loop-octet
invariant-loop-octet l = l.all ≡ list_all is_lower_digit (take l.octet-index l.field)

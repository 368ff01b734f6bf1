use Rattle.std.proofs.Common.{◌≤◌, length}
use Rattle.zre_cases.proofs.words_in.Given as goal

abbrev pub invariant-loop : goal.invariant-loop
invariant-loop l = length l.rest ≤ length l.octets

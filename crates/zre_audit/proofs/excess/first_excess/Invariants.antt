use Rattle.std.proofs.Common.{◌≡◌, ◌+◌, drop, nat_eq}
use Rattle.zre_audit.specs.Prefixes.{first_short, first_from}
use Rattle.zre_audit.proofs.excess.first_excess.Given as goal

abbrev pub invariant-loop-place : goal.invariant-loop-place
invariant-loop-place l = first_short nat_eq l.lists l.others ≡ first_from nat_eq (l.place + 1) l.lists l.others (drop l.place l.lists)

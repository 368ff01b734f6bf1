use Rattle.std.proofs.Common.{◌≡◌, drop}
use Rattle.zre_mailbox.specs.Talk.{arrivals_in}
use Rattle.zre_mailbox.specs.Conn.{identity_in}
use Rattle.zre_mailbox.proofs.taking.introduced_in.Given as goal

-- those so far introduce nobody
abbrev pub invariant-loop-item : goal.invariant-loop-item
invariant-loop-item l = identity_in (arrivals_in l.items) ≡ identity_in (arrivals_in (drop l.item-index l.items))

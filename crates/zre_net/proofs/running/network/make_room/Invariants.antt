use Rattle.std.proofs.Common.{◌≡◌, ℕ, ◌+◌, ◌-◌, length}
use Rattle.zre_net.specs.Rows.{running_at}
use Rattle.zre_net.proofs.running.network.make_room.Given as goal

abbrev pub invariant-room : goal.invariant-room
invariant-room l = (node : ℕ) → running_at node l.rows.items ≡ running_at node l.initial.rows.items

abbrev pub decreases-room : goal.decreases-room
decreases-room l = l.place + 1 - length l.rows.items

use Rattle.std.proofs.Common.{◌≡◌, ◌-◌, ◌≤◌, List, Some, true}
use Rattle.zre_net.specs.declared.moves.Move.TheVariants as move
use Rattle.zre_net.specs.Comes.{with_move}
use Rattle.zre_net.specs.History.{Happening}
use Rattle.zre_net.specs.Lists.{nth}
use Rattle.zre_net.specs.Numbers.{CarriedConn, conns}
use Rattle.zre_net.specs.Rows.{has_waiting}
use Rattle.zre_net.specs.Running.{StandsAfter}
use Rattle.zre_net.proofs.running.network.Network.hand_all.Given as goal

abbrev pub invariant-parts : goal.invariant-parts
invariant-parts l = record {
  few : l.left ≤ l.count;
  rest : has_waiting l.left (nth l.conn l.self.conns.items) ≡ true;
  come : (H : List Happening) (c : CarriedConn) → StandsAfter H l.fn.self → nth l.conn (conns H) ≡ Some c → l.to ≡ c.to.number → StandsAfter (with_move (move.Piece l.conn (l.count - l.left) l.at) H) l.self;
}

abbrev pub decreases-parts : goal.decreases-parts
decreases-parts l = l.left

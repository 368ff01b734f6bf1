use Rattle.std.proofs.Common.{subst, true, Bool}
use Rattle.zre_net.specs.Running.{IsPlayed}
use Rattle.zre_net.specs.Comes.{with_move}
use Rattle.zre_net.proofs.MovesInTurn.{taken}
use Rattle.zre_net.proofs.running.network.Network.advance.Goals as goal

pub returns-then-branch : goal.returns-then-branch
returns-then-branch c = λ H s. taken c.args.one H true c.has_room.result c.play.new.self (subst (λ (b : Bool). IsPlayed c.args.one H b c.play.new.self) c.if-branch.true (c.in_ok-play.ensures H s)) (λ t. c.has_room.ensures (with_move c.args.one H) t)

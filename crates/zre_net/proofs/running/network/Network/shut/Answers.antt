use Rattle.zre_net.specs.declared.moves.Move.TheVariants as move
use Rattle.zre_net.proofs.MovesWithEntries.{shut_gone, shut_played, still, kept}
use Rattle.zre_net.proofs.running.network.Network.shut.Goals as goal

pub returns-in_default : goal.returns-in_default
returns-in_default c = λ H s. shut_gone H c.args.conn c.args.at _ (c.in_default.ensures H s)

pub returns : goal.returns
returns c = λ H s. shut_played H c.args.conn c.args.at c.in-Some.to _ (c.in-Some.ensures H s) (λ a t. c.in_ok-turn.ensures H (move.Shut c.args.conn c.args.at) a s (still (move.Shut c.args.conn c.args.at) tt) (kept (move.Shut c.args.conn c.args.at) tt) tt t)

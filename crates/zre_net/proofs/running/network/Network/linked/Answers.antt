use Rattle.std.proofs.Common.{refl}
use Rattle.zre_outside.specs.declared.entry.Input.TheVariants as input
use Rattle.zre_net.specs.declared.moves.Move.TheVariants as move
use Rattle.zre_net.proofs.MovesWithEntries.{link_refused, link_played, still, kept}
use Rattle.zre_net.proofs.running.network.Network.linked.Goals as goal

pub returns-in_default : goal.returns-in_default
returns-in_default c = λ H s. link_refused (move.Linked c.args.link c.args.at) H c.args.link _ refl (c.in_default.ensures H s)

pub returns : goal.returns
returns c = λ H s. link_played H (move.Linked c.args.link c.args.at) (λ l. input.Linked l) c.args.link c.args.at _ _ refl refl (c.in-Some.ensures H s) (λ a t. c.in_ok-turn.ensures H (move.Linked c.args.link c.args.at) a s (still (move.Linked c.args.link c.args.at) tt) (kept (move.Linked c.args.link c.args.at) tt) tt t)

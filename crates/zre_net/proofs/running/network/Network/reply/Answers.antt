use Rattle.std.proofs.Common.{refl}
use Rattle.zre_outside.specs.declared.entry.Input.TheVariants as input
use Rattle.zre_net.specs.declared.moves.Move.TheVariants as move
use Rattle.zre_net.proofs.MovesWithEntries.{link_refused, link_played, still, kept}
use Rattle.zre_net.proofs.running.network.Network.reply.Goals as goal

pub returns-in_default : goal.returns-in_default
returns-in_default c = λ H s. link_refused (move.Reply c.args.link c.args.at c.args.bytes) H c.args.link _ refl (c.in_default.ensures H s)

pub returns : goal.returns
returns c = λ H s. link_played H (move.Reply c.args.link c.args.at c.args.bytes) (λ l. input.Reply l c.args.bytes) c.args.link c.args.at _ _ refl refl (c.in-Some.ensures H s) (λ a t. c.in_ok-turn.ensures H (move.Reply c.args.link c.args.at c.args.bytes) a s (still (move.Reply c.args.link c.args.at c.args.bytes) tt) (kept (move.Reply c.args.link c.args.at c.args.bytes) tt) tt t)

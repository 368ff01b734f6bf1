use Rattle.std.proofs.Common.{refl}
use Rattle.zre_outside.specs.declared.entry.Input.TheVariants as input
use Rattle.zre_net.specs.declared.moves.Move.TheVariants as move
use Rattle.zre_net.proofs.MovesWithEntries.{refused, not_running, plays_at, still, kept}
use Rattle.zre_net.proofs.running.network.Network.tick.Goals as goal

pub returns-in_default : goal.returns-in_default
returns-in_default c = λ H s. refused (move.Tick c.args.node c.args.at) H _ (not_running H _ c.args.node s c.in_default.ensures)

pub returns : goal.returns
returns c = λ H s. plays_at H (move.Tick c.args.node c.args.at) input.Tick c.args.node c.in-Some.start c.args.at _ _ s c.in-Some.ensures refl refl (λ a t. c.in_ok-turn.ensures H (move.Tick c.args.node c.args.at) a s (still (move.Tick c.args.node c.args.at) tt) (kept (move.Tick c.args.node c.args.at) tt) tt t)

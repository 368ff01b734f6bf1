use Rattle.std.proofs.Common.{◌∷◌, ◌∙◌, Some, ap, subst}
use Rattle.zre_outside.specs.declared.entry.Input.TheVariants as input
use Rattle.zre_net.specs.declared.moves.Move.TheVariants as move
use Rattle.zre_net.specs.Comes.{turn_of}
use Rattle.zre_net.specs.History.{Happens}
use Rattle.zre_net.specs.Lists.{nth}
use Rattle.zre_net.specs.Running.{StandsAfter}
use Rattle.zre_net.proofs.MovesWithEntries.{hears, still, kept}
use Rattle.zre_net.proofs.running.network.Network.hear.Goals as goal

pub returns : goal.returns
returns c = λ H s. hears H c.args.self.now c.turn.new.self c.args.beacon c.args.node c.in-Some.start c.args.at c.in-Some-nth.sent.now s c.in-Some.ensures (c.in-Some-nth.ensures ∙ ap (nth c.args.beacon) c.as_slice.ensures)
    (λ a t. subst (λ o. StandsAfter (Happens (move.Beacon c.args.beacon c.args.node c.args.at) (Some (turn_of a c.args.at (input.Datagram c.in-Some-nth.sent.now.from o))) ∷ H) c.turn.new.self) c.in_ok-bytes.ensures
    (c.in_ok-turn.ensures H (move.Beacon c.args.beacon c.args.node c.args.at) a s (still (move.Beacon c.args.beacon c.args.node c.args.at) tt) (kept (move.Beacon c.args.beacon c.args.node c.args.at) tt) tt t))

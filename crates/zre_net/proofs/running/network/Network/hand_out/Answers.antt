use Rattle.std.proofs.Common.{◌∙◌, refl}
use Rattle.zre_net.proofs.HandedOutEvents.{hands_out}
use Rattle.zre_net.proofs.running.network.Network.hand_out.Goals as goal

pub returns-clause-left : goal.returns-clause-left
returns-clause-left c = λ H s e.
    let none = c.swap.ensures.x_after ∙ c.clear.ensures in
    (hands_out H c.args.self.now _ s e none refl refl refl refl refl refl refl refl, none)

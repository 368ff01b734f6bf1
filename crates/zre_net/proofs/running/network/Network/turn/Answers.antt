use Rattle.std.proofs.Common.{◌∙◌, ap}
use Rattle.zre_journal.specs.Chronicle.{Comes}
use Rattle.zre_net.specs.Comes.{turn_of}
use Rattle.zre_net.specs.History.{incarnations, chronicle_of}
use Rattle.zre_net.specs.Lists.{nth}
use Rattle.std.proofs.Common.{◌∷◌}
use Rattle.zre_net.proofs.ConnectionsAfterEntry.{stands_more, on_all}
use Rattle.zre_net.proofs.ReadSideAfterEntry.{is_slight_too}
use Rattle.zre_net.proofs.running.network.Network.turn.Goals as goal

pub returns : goal.returns
returns c = λ H m a s still kept quiet there.
    let slight = is_slight_too a.settings c.args.input (chronicle_of a H) (Comes (turn_of a c.args.at c.args.input).entry ∷ chronicle_of a H) quiet in
    let known = ap (λ n. nth n (incarnations H)) (s.nodes.started.each c.args.start a there).number ∙ there in
    on_all c.step.result (c.step.ensures.nodes H m a s.nodes still there slight) c.step.ensures.conns c.step.ensures.pending
    (λ nodes conns pending. stands_more H m still a c.args.at c.args.input known kept quiet c.args.self.now c.step.new.self s nodes conns pending)

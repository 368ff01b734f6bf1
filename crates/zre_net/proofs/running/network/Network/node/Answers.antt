use Rattle.std.proofs.Common.{◌∙◌, sym, ap}
use Rattle.zre_net.specs.Comes.{history}
use Rattle.zre_net.specs.History.{journal}
use Rattle.zre_net.specs.Lists.{nth}
use Rattle.zre_net.specs.Rows.{has_node}
use Rattle.zre_net.proofs.RunningNodeOfNumber.{sends_for, is_live}
use Rattle.zre_net.proofs.MovesWithEntries.{not_running}
use Rattle.zre_net.proofs.running.network.Network.node.Goals as goal

pub returns-in_default-clause-there : goal.returns-in_default-clause-there
returns-in_default-clause-there c = λ ms h. sym (not_running (history ms) c.args.self.now c.args.node h.stands c.in_default.ensures)

pub returns-clause-there : goal.returns-clause-there
returns-clause-there c = λ ms h. c.node.ensures.there ∙ ap has_node (c.in-Some-nth.ensures ∙ ap (nth c.in-Some.start) c.as_slice.ensures.value) ∙ is_live (history ms) c.args.self.now c.args.node c.in-Some.start h.stands c.in-Some.ensures

pub returns-clause-stands : goal.returns-clause-stands
returns-clause-stands c = λ ms a h r. c.node.ensures.stands a.settings (journal a (history ms))
    (sends_for (history ms) c.args.self.now c.args.node c.in-Some.start a c.in-Some-nth.started.now h.stands r c.in-Some.ensures (c.in-Some-nth.ensures ∙ ap (nth c.in-Some.start) c.as_slice.ensures.value))

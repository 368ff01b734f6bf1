use Rattle.std.proofs.Common.{◌∙◌, ap, length}
use Rattle.std.proofs.lemmas.List.{length-map}
use Rattle.zre_net.specs.Comes.{history}
use Rattle.zre_net.specs.Numbers.{routes}
use Rattle.zre_net.specs.Running.{way_of}
use Rattle.zre_net.proofs.running.network.Network.links.Goals as goal

pub returns : goal.returns
returns c = λ ms h. c.len.ensures ∙ ap (λ xs. length xs) h.stands.nodes.links ∙ length-map (routes (history ms)) way_of

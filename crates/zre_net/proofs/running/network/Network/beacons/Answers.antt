use Rattle.std.proofs.Common.{◌∙◌, ap, length}
use Rattle.std.proofs.lemmas.List.{length-map}
use Rattle.zre_net.specs.Comes.{history}
use Rattle.zre_net.specs.Numbers.{broadcasts}
use Rattle.zre_net.specs.Running.{sent_of}
use Rattle.zre_net.proofs.running.network.Network.beacons.Goals as goal

pub returns : goal.returns
returns c = λ ms h. c.len.ensures ∙ ap (λ xs. length xs) h.stands.nodes.beacons ∙ length-map (broadcasts (history ms)) sent_of

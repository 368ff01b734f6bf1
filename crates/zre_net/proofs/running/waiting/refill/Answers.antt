use Rattle.std.proofs.lemmas.List.Elements.{All-rest}
use Rattle.zre_link.specs.Front.{HasOctets}
use Rattle.zre_net.proofs.running.waiting.refill.Goals as goal

pub returns-in-Some-clause-parts : goal.returns-in-Some-clause-parts
returns-in-Some-clause-parts c = All-rest HasOctets c.in-Some.part c.pop_front.new.self.items c.args.parts.now.items c.in-Some.ensures.items c.requires

use Rattle.std.proofs.Common.{◌&&◌, ◌∙◌, ap, sym, leb, le-leb}
use Rattle.std.proofs.lemmas.Bool.{lt-leb}
use Rattle.zre_net.proofs.CountedOctets.{room_same}
use Rattle.zre_net.proofs.running.network.Network.has_room.Goals as goal

pub returns-then-self-le-QUEUED_OCTETS : goal.returns-then-self-le-QUEUED_OCTETS
returns-then-self-le-QUEUED_OCTETS c = λ H s. sym (ap (λ b. b && leb c.args.self.now.pending 1073741824) (le-leb c.args.self.now.queued 1073741824 c.if-self-le-QUEUED_OCTETS.true)) ∙ room_same H c.args.self.now s

pub returns-else-self-le-QUEUED_OCTETS : goal.returns-else-self-le-QUEUED_OCTETS
returns-else-self-le-QUEUED_OCTETS c = λ H s.
    let no = lt-leb c.args.self.now.queued 1073741824 c.if-self-le-QUEUED_OCTETS.false in
    no ∙ sym (ap (λ b. b && leb c.args.self.now.pending 1073741824) no) ∙ room_same H c.args.self.now s

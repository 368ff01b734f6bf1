use Rattle.zre_zmtp.proofs.Handshakes.{handshake_is_read}
use Rattle.zre_zmtp.proofs.laws.handshakes_are_read.Goals as goal

pub returns : goal.returns
returns c = λ want kind identity sixteen wanted. handshake_is_read want kind identity sixteen wanted

use Rattle.zre_msg.proofs.SpellingIsUnique.{octets-one}
use Rattle.zre_msg.proofs.laws.octets_hold_one_message.Goals as goal

pub returns : goal.returns
returns c = λ m n a b h k e. octets-one m n a b h k e

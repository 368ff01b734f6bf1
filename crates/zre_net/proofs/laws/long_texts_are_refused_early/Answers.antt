use Rattle.zre_net.proofs.TooLongText.{as_short}
use Rattle.zre_net.proofs.laws.long_texts_are_refused_early.Goals as goal

pub returns : goal.returns
returns c = as_short

use Rattle.zre_net.proofs.TooLongText.{is_short}
use Rattle.zre_net.proofs.laws.schedules_are_short.Goals as goal

pub returns : goal.returns
returns c = is_short

use Rattle.zre_journal.proofs.SentOctetsInOrder.{goes_out_in_order}
use Rattle.zre_journal.proofs.laws.what_goes_out_is_the_text.Goals as goal

pub returns : goal.returns
returns c = λ g J K can. goes_out_in_order g J K can

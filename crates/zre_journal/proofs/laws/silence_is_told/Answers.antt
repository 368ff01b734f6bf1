use Rattle.zre_journal.proofs.FirstTickAfterSilence.{tells_silence}
use Rattle.zre_journal.proofs.laws.silence_is_told.Goals as goal

pub returns : goal.returns
returns c = λ g J. tells_silence g J

use Rattle.zre_journal.proofs.CutPieces.{same_cut}
use Rattle.zre_journal.proofs.laws.any_cut.Goals as goal

pub returns : goal.returns
returns c = λ g J at c a b. same_cut g J at c a b

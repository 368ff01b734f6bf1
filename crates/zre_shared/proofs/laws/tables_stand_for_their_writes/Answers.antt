use Rattle.zre_shared.proofs.TableIsOneList.{table-left}
use Rattle.zre_shared.proofs.laws.tables_stand_for_their_writes.Goals as goal

pub returns : goal.returns
returns c = λ xs ys. table-left xs ys

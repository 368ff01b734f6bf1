use Rattle.zre_shared.proofs.TableIsOneList.{members-public}
use Rattle.zre_shared.proofs.laws.tables_are_of_members.Goals as goal

pub returns : goal.returns
returns c = λ xs ys h. members-public xs ys h

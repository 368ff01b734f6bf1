use Rattle.zre_shared.proofs.TableIsOneList.{rising-table}
use Rattle.zre_shared.proofs.laws.rising_writes_are_a_table.Goals as goal

pub returns : goal.returns
returns c = λ ws rising. rising-table ws rising

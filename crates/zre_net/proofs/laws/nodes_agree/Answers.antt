use Rattle.zre_net.specs.Reading.{moves_of}
use Rattle.zre_net.proofs.SchedulesAgree.{are_agreed}
use Rattle.zre_net.proofs.FieldsOfStarts.{are_fielded}
use Rattle.zre_net.proofs.laws.nodes_agree.Goals as goal

pub returns : goal.returns
returns c = λ lines good. are_agreed (moves_of lines) (are_fielded lines) good

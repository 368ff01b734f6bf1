use Rattle.zre_net.specs.Reading.{moves_of}
use Rattle.zre_net.proofs.SchedulesAgree.{hand_in_order}
use Rattle.zre_net.proofs.FieldsOfStarts.{are_fielded}
use Rattle.zre_net.proofs.laws.pieces_are_a_front_of_what_is_carried.Goals as goal

pub returns : goal.returns
returns c = λ lines good. hand_in_order (moves_of lines) (are_fielded lines) good

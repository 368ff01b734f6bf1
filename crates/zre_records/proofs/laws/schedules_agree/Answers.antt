use Rattle.zre_records.proofs.ScheduleIsWritten.{simulated}
use Rattle.zre_records.proofs.laws.schedules_agree.Goals as goal

pub returns : goal.returns
returns c = simulated

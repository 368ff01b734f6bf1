use Rattle.std.proofs.Common.{[], ap}
use Rattle.std.specs.Prelude.{is_some}
use Rattle.zre_records.proofs.audit.CapturesOfText.{nothing_not_bad}
use Rattle.zre_records.proofs.audit.later.Later.new.Goals as goal

pub returns : goal.returns
returns c = c.in_ok-take.ensures _ [] (record { follows = c.new.ensures; seen = c.in_ok-unseen.ensures }) (ap is_some (nothing_not_bad _))

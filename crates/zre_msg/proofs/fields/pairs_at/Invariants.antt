use Rattle.std.proofs.Common.{◌≡◌, ◌-◌}
use Rattle.zre_msg.specs.Reading.{pair_at, each_at}
use Rattle.zre_msg.proofs.FieldByField.{with_front}
use Rattle.zre_msg.proofs.fields.pairs_at.Given as goal

abbrev pub invariant-each : goal.invariant-each
invariant-each l = with_front l.pairs (each_at pair_at (l.count - l.counter) l.rest) ≡ each_at pair_at l.count l.octets

use Rattle.std.proofs.Common.{◌≡◌, ◌-◌}
use Rattle.zre_msg.specs.Reading.{long_string_at, each_at}
use Rattle.zre_msg.proofs.FieldByField.{with_front}
use Rattle.zre_msg.proofs.fields.long_strings_at.Given as goal

abbrev pub invariant-each : goal.invariant-each
invariant-each l = with_front l.strings (each_at long_string_at (l.count - l.counter) l.rest) ≡ each_at long_string_at l.count l.octets

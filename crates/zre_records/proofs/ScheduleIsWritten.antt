-- What is written of a schedule that isn't refused, and that its nodes agree.
use Rattle.std.proofs.Common.{◌≡◌, ℕ, false, List, Option, Some, None, refl, ap}
use Rattle.std.specs.Prelude.{is_some}
use Rattle.std.specs.Option.{option_or}
use Rattle.zre_net.specs.Answer.{bad_move, bad_in}
use Rattle.zre_net.specs.Reading.{bad_line, lines_in, moves_of}
use Rattle.zre_net.proofs.SchedulesAgree.{are_agreed}
use Rattle.zre_net.proofs.FieldsOfStarts.{are_fielded}
use Rattle.zre_records.specs.Laws.{IsSimulated}
use Rattle.zre_records.specs.simulate.Simulate.{simulate, answer_of}

is_none : (a : Option ℕ) → is_some a ≡ false → a ≡ None
is_none None e = refl
is_none (Some n) e = absurd cc

second_is_none : (a b : Option ℕ) → is_some (option_or a b) ≡ false → b ≡ None
second_is_none None b e = is_none b e
second_is_none (Some n) b e = absurd cc

pub simulated : (o : List ℕ) → simulate.is_bad o ≡ false → IsSimulated o
simulated o good = record {
  agreed = are_agreed (moves_of (lines_in o)) (are_fielded (lines_in o)) (second_is_none (bad_line o) (bad_move (moves_of (lines_in o))) good);
  is_written = ap (λ a. answer_of a o) (is_none (bad_in o) good);
}

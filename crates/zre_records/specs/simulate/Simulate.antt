-- What `simulate` makes of the octets of a schedule.
use Rattle.std.specs.Prelude.{ℕ, false, List, [], ◌∷◌, ◌++◌, Option, Some, None, is_some, flat_map, decimal}
use Rattle.zre_net.specs.Answer.{bad_in}
use Rattle.zre_net.specs.Reading.{lines_in, moves_of}
use Rattle.zre_net.specs.Said.{said}
use Rattle.zre_peer.specs.Lines.{line}
use Rattle.zre_peer.specs.declared.event.Event.{Event}
use Rattle.zre_commands.specs.pump.Lines.{bad_line}
use Rattle.zre_commands.specs.pump.Meaning.{Meaning}

-- the line of an event, after the number of its node and a space
abbrev pub told_line : ℕ × Event → List ℕ
told_line p = decimal p.0 ++ (32 ∷ line p.1)

abbrev pub told_lines : List (ℕ × Event) → List ℕ
told_lines es = flat_map told_line es

-- the last line of a text that is no schedule, or the lines of what the nodes tell
abbrev pub answer_of : Option ℕ → List ℕ → List ℕ
answer_of (Some number) o = bad_line number
answer_of None o = told_lines (said (moves_of (lines_in o)))

abbrev pub answer : List ℕ → List ℕ
answer o = answer_of (bad_in o) o

-- all that `simulate` makes of octets: nothing before they are whole
abbrev pub simulate : Meaning
simulate = record {
  text = λ o. [];
  is_stopped = λ o. false;
  is_bad = λ o. is_some (bad_in o);
  ending = answer;
}

-- What a schedule is answered by: what its nodes tell, or the line of its first move that is outside the grammar.
use Rattle.std.specs.Prelude.{ℕ, ◌+◌, List, [], ◌∷◌, Option, Some, None, if◌then◌else◌}
use Rattle.std.specs.Option.{option_or}
use Rattle.zre_net.specs.declared.fault.ScheduleFault.{ScheduleFault}
use Rattle.zre_net.specs.declared.fault.ScheduleFault.TheVariants.{Bad, OutOfMemory}
use Rattle.zre_net.specs.declared.moves.Move.{Move}
use Rattle.zre_net.specs.Comes.{with_move}
use Rattle.zre_net.specs.History.{Happening}
use Rattle.zre_net.specs.Grammar.{is_good}
use Rattle.zre_net.specs.Reading.{bad_line, lines_in, moves_of}

-- a refusal tells the number of a line; OutOfMemory has no cause
abbrev pub Refuses : ScheduleFault → (ℕ → Type 0) → Type 0
Refuses (Bad bad) P = P bad.number
Refuses OutOfMemory P = Unit {0}

-- the line of the first of these moves that is outside the grammar, where they come after H and the first is this line
abbrev pub bad_move_after : ℕ → List Move → List Happening → Option ℕ
bad_move_after line [] H = None
bad_move_after line (m ∷ ms) H = if is_good m H then bad_move_after (line + 1) ms (with_move m H) else Some line

-- the line of the first move of a schedule that is outside the grammar; the head is line 1
abbrev pub bad_move : List Move → Option ℕ
bad_move s = bad_move_after 2 s []

-- the line at which a text is no schedule: the first that can't be read, or else the first whose move is outside the
-- grammar
abbrev pub bad_in : List ℕ → Option ℕ
bad_in text = option_or (bad_line text) (bad_move (moves_of (lines_in text)))

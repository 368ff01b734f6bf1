-- What a user types: lines, each of which is a command.
use Rattle.std.specs.Prelude.{◌≡◌, ℕ, ◌+◌, ◌==◌, nat_lt, Bool, true, false, if◌then◌else◌, List, [], ◌∷◌, ◌++◌, length}
use Rattle.std.specs.Prelude.{Option, Some, None, option_map, unwrap_or, codes}
use Rattle.std.specs.List.{join_with_byte}
use Rattle.std.specs.Str.{bytes_eq}
use Rattle.zre_outside.specs.declared.entry.Command.{Command}
use Rattle.zre_outside.specs.declared.entry.Command.TheVariants.{Join, Leave, Whisper, Shout, Bad, Quit}
use Rattle.zre_capture.specs.Values.{group_of, id_of}
use Rattle.zre_capture.specs.Reading.{fields_in, but_last}
use Rattle.zre_capture.specs.Journal.{lines_in}
use Rattle.zre_console.specs.declared.lines.line.TheConstants.{LINE_OCTETS}

-- a word alone
abbrev pub word_alone : List ℕ → Option Command
word_alone word = if bytes_eq word (codes "quit") then Some Quit else None

-- a word and a group
abbrev pub with_group : List ℕ → List ℕ → Option Command
with_group word group =
    if bytes_eq word (codes "join") then option_map Join (group_of group)
    else if bytes_eq word (codes "leave") then option_map Leave (group_of group)
    else None

-- a word, to whom it goes, and a text, which is one frame
abbrev pub with_text : List ℕ → List ℕ → List ℕ → Option Command
with_text word to text =
    if bytes_eq word (codes "shout") then option_map (λ group. Shout group (text ∷ [])) (group_of to)
    else if bytes_eq word (codes "whisper") then option_map (λ peer. Whisper peer (text ∷ [])) (id_of to)
    else None

-- the command that the fields of a line are; a text is the rest of the line as it stands
unfoldable pub order_from : List (List ℕ) → Option Command
order_from [] = None
order_from (word ∷ []) = word_alone word
order_from (word ∷ group ∷ []) = with_group word group
order_from (word ∷ to ∷ part ∷ parts) = with_text word to (join_with_byte 32 (part ∷ parts))

-- the command of a line with this number
abbrev pub order_of : ℕ → List ℕ → Command
order_of n line = if nat_lt LINE_OCTETS (length line) then Bad n else unwrap_or (order_from (fields_in line)) (Bad n)

-- the commands of lines, the first of which has this number
abbrev pub orders_from : ℕ → List (List ℕ) → List Command
orders_from n [] = []
orders_from n (line ∷ lines) = order_of n line ∷ orders_from (n + 1) lines

abbrev pub is_quit : Command → Bool
is_quit (Join group) = false
is_quit (Leave group) = false
is_quit (Whisper peer content) = false
is_quit (Shout group content) = false
is_quit (Bad line) = false
is_quit Quit = true

-- up to the first quit
abbrev pub through_quit : List Command → List Command
through_quit [] = []
through_quit (c ∷ cs) = c ∷ (if is_quit c then [] else through_quit cs)

-- up to the first quit, without it
abbrev pub before_quit : List Command → List Command
before_quit [] = []
before_quit (c ∷ cs) = if is_quit c then [] else c ∷ before_quit cs

-- the lines of a text that has ended; a last one without a line feed counts unless it is empty
unfoldable pub ended_lines : List (List ℕ) → List (List ℕ)
ended_lines [] = []
ended_lines (last ∷ []) = if length last == 0 then [] else last ∷ []
ended_lines (line ∷ next ∷ more) = line ∷ ended_lines (next ∷ more)

-- the commands of the whole lines of a text so far
abbrev pub typed : List ℕ → List Command
typed o = orders_from 1 (but_last (lines_in o))

-- the orders of a text that has ended, up to its first quit; the end is a quit too
abbrev pub orders : List ℕ → List Command
orders o = through_quit (orders_from 1 (ended_lines (lines_in o)) ++ Quit ∷ [])

-- what a text asks for, without the quit at its end; where its last line is cut off and so isn't counted, by its whole
-- lines alone
abbrev pub asked : Bool → List ℕ → List Command
asked true o = before_quit (typed o)
asked false o = before_quit (orders o)

-- these begin the orders of a text, before its quit
pub record Begins (front : List Command) (o : List ℕ) : Type 0 where
  pub rest : List Command
  pub parts : orders o ≡ front ++ (rest ++ Quit ∷ [])

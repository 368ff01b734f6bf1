-- Lines as they are read: the move of a line.
use Rattle.std.specs.Prelude.{ℕ, ◌&&◌, nat_le, nat_lt, ◌^◌, List, [], ◌∷◌, length, Option, Some, None, if◌then◌else◌}
use Rattle.std.specs.Prelude.{option_map, codes}
use Rattle.std.specs.Map.{lookup}
use Rattle.std.specs.Str.{bytes_eq}
use Rattle.zre_values.specs.declared.peer_id.PeerId.{PeerId}
use Rattle.zre_capture.specs.Parts.{◌>>=◌, two}
use Rattle.zre_capture.specs.Reading.{fields_in, one_number, two_numbers, number_and_hex, command_in}
use Rattle.zre_capture.specs.Values.{number_of, address_of, group_of, id_of}
use Rattle.zre_net.specs.declared.limits.TheConstants.{NODES, NAME_OCTETS}
use Rattle.zre_net.specs.declared.word.MoveWord.{MoveWord}
use Rattle.zre_net.specs.declared.word.MoveWord.TheVariants as word
use Rattle.zre_net.specs.declared.moves.Move.{Move}
use Rattle.zre_net.specs.declared.moves.Move.TheVariants as move
use Rattle.zre_net.specs.declared.moves.Part.{Part}
use Rattle.zre_net.specs.declared.moves.Part.TheVariants as part

-- ---- values

-- the words of moves
abbrev pub move_words : List (List ℕ × MoveWord)
move_words =
    (codes "start", word.Start) ∷ (codes "crash", word.Crash) ∷ (codes "tick", word.Tick) ∷ (codes "do", word.Do)
    ∷ (codes "beacon", word.Beacon) ∷ (codes "open", word.Open) ∷ (codes "carry", word.Carry)
    ∷ (codes "piece", word.Piece) ∷ (codes "shut", word.Shut) ∷ (codes "linked", word.Linked)
    ∷ (codes "unlinked", word.Unlinked) ∷ (codes "reply", word.Reply) ∷ (codes "took", word.Took) ∷ []

-- the word of a move
unfoldable pub move_word_of : List ℕ → Option MoveWord
move_word_of f = lookup (bytes_eq f) move_words

-- the number of a node, from 1 to 16
abbrev pub node_in : ℕ → Option ℕ
node_in n = if nat_le 1 n && nat_le n NODES then Some n else None

-- a port, of sixteen bits
abbrev pub port_in : ℕ → Option ℕ
port_in n = if nat_lt n (2 ^ 16) then Some n else None

-- a name of at most 255 octets
abbrev pub short_name : List ℕ → Option (List ℕ)
short_name name = if nat_le (length name) NAME_OCTETS then Some name else None

unfoldable pub name_of : List ℕ → Option (List ℕ)
name_of f = do
  name ← group_of f
  short_name name

unfoldable pub part_of : List ℕ → Option Part
part_of f =
    if bytes_eq f (codes "greeting") then Some part.Greeting
    else if bytes_eq f (codes "ready") then Some part.Ready
    else option_map part.Message (number_of f)

-- ---- several fields

-- the first of some fields, and those after it, of which there is one at least
abbrev pub cut : List (List ℕ) → Option (List ℕ × List (List ℕ))
cut [] = None
cut (f ∷ []) = None
cut (f ∷ g ∷ fs) = Some (f, g ∷ fs)

-- a number, and the fields after it
unfoldable pub number_then : List (List ℕ) → Option (ℕ × List (List ℕ))
number_then fs = do
  p ← cut fs
  n ← number_of p.0
  Some (n, p.1)

-- a node and a number, and the fields after them
unfoldable pub node_and_number_then : List (List ℕ) → Option (ℕ × (ℕ × List (List ℕ)))
node_and_number_then fs = do
  p ← number_then fs
  n ← node_in p.0
  q ← number_then p.1
  Some (n, q)

-- a node alone, and a node and a number
unfoldable pub one_node : List (List ℕ) → Option ℕ
one_node fs = one_number fs >>= node_in

unfoldable pub node_and_number : List (List ℕ) → Option (ℕ × ℕ)
node_and_number fs = do
  p ← two_numbers fs
  n ← node_in p.0
  Some (n, p.1)

-- a number, a node and a number
unfoldable pub number_and_node : List (List ℕ) → Option (ℕ × (ℕ × ℕ))
number_and_node fs = do
  p ← number_then fs
  q ← node_and_number p.1
  Some (p.0, q)

unfoldable pub three_numbers : List (List ℕ) → Option (ℕ × (ℕ × ℕ))
three_numbers fs = do
  p ← number_then fs
  q ← two_numbers p.1
  Some (p.0, q)

-- ---- moves

-- an address and a port
unfoldable pub host_and_port : List (List ℕ) → Option (List ℕ × ℕ)
host_and_port fs = do
  p ← two fs
  host ← address_of p.0
  n ← number_of p.1
  port ← port_in n
  Some (host, port)

-- an identity, a field, and those
unfoldable pub who_and_place : List (List ℕ) → Option (PeerId × (List ℕ × (List ℕ × ℕ)))
who_and_place fs = do
  p ← cut fs
  id ← id_of p.0
  q ← cut p.1
  place ← host_and_port q.1
  Some (id, (q.0, place))

unfoldable pub start_in : List (List ℕ) → Option Move
start_in fs = do
  n ← node_and_number_then fs
  w ← who_and_place n.1.1
  name ← name_of w.1.0
  Some (move.Start n.0 n.1.0 w.0 name w.1.1.0 w.1.1.1)

unfoldable pub do_in : List (List ℕ) → Option Move
do_in fs = do
  n ← node_and_number_then fs
  c ← command_in n.1.1
  Some (move.Do n.0 n.1.0 c)

unfoldable pub carry_in : List (List ℕ) → Option Move
carry_in fs = do
  p ← two fs
  x ← number_of p.0
  part ← part_of p.1
  Some (move.Carry x part)

unfoldable pub reply_in : List (List ℕ) → Option Move
reply_in fs = do
  g ← number_then fs
  p ← number_and_hex g.1
  Some (move.Reply g.0 p.0 p.1)

-- what the word of a move says with the fields after it
abbrev pub move_from : MoveWord → List (List ℕ) → Option Move
move_from word.Start fs = start_in fs
move_from word.Crash fs = option_map move.Crash (one_node fs)
move_from word.Tick fs = option_map (λ p. move.Tick p.0 p.1) (node_and_number fs)
move_from word.Do fs = do_in fs
move_from word.Beacon fs = option_map (λ p. move.Beacon p.0 p.1.0 p.1.1) (number_and_node fs)
move_from word.Open fs = option_map (λ p. move.Open p.0 p.1.0 p.1.1) (number_and_node fs)
move_from word.Carry fs = carry_in fs
move_from word.Piece fs = option_map (λ p. move.Piece p.0 p.1.0 p.1.1) (three_numbers fs)
move_from word.Shut fs = option_map (λ p. move.Shut p.0 p.1) (two_numbers fs)
move_from word.Linked fs = option_map (λ p. move.Linked p.0 p.1) (two_numbers fs)
move_from word.Unlinked fs = option_map (λ p. move.Unlinked p.0 p.1) (two_numbers fs)
move_from word.Reply fs = reply_in fs
move_from word.Took fs = option_map (λ p. move.Took p.0 p.1.0 p.1.1) (three_numbers fs)

-- the move of some fields
unfoldable pub move_in : List (List ℕ) → Option Move
move_in fs = do
  p ← cut fs
  word ← move_word_of p.0
  move_from word p.1

-- the move of a line, if it is the line of one
abbrev pub move_of : List ℕ → Option Move
move_of text = move_in (fields_in text)

-- An example: two nodes, and a message that is left out or not.
use Rattle.std.specs.Prelude.{◌≡◌, ℕ, false, List, [], ◌∷◌, ◌++◌, replicate, codes, Some, None}
use Rattle.zre_values.specs.declared.peer_id.PeerId.{PeerId}
use Rattle.zre_outside.specs.declared.entry.Command.TheVariants as command
use Rattle.zre_peer.specs.declared.event.Event.{Event}
use Rattle.zre_peer.specs.declared.event.Event.TheVariants as event
use Rattle.zre_peer.specs.declared.causes.Cause.TheVariants as cause
use Rattle.zre_net.specs.declared.moves.Move.{Move}
use Rattle.zre_net.specs.declared.moves.Move.TheVariants as move
use Rattle.zre_net.specs.declared.moves.Part.TheVariants as part
use Rattle.zre_net.specs.Answer.{bad_move}
use Rattle.zre_net.specs.Comes.{history}
use Rattle.zre_net.specs.Grammar.{is_good}
use Rattle.zre_net.specs.Said.{said}

abbrev pub first_id : PeerId
first_id = record { 0 = replicate 16 17 }

abbrev pub second_id : PeerId
second_id = record { 0 = replicate 16 34 }

-- node 2 hears node 1's beacon and joins x and y, and a connection to node 1 carries its greeting, READY and HELLO
abbrev pub introduced : List Move
introduced =
    move.Start 1 0 first_id (codes "a") (10 ∷ 0 ∷ 0 ∷ 1 ∷ []) 5001
    ∷ move.Start 2 0 second_id (codes "b") (10 ∷ 0 ∷ 0 ∷ 2 ∷ []) 5002
    ∷ move.Tick 1 0
    ∷ move.Beacon 1 2 0
    ∷ move.Do 2 0 (command.Join (codes "x"))
    ∷ move.Do 2 0 (command.Join (codes "y"))
    ∷ move.Open 1 1 0
    ∷ move.Carry 1 part.Greeting
    ∷ move.Carry 1 part.Ready
    ∷ move.Carry 1 (part.Message 1)
    ∷ []

-- the JOIN of x is left out
abbrev pub one_left_out : List Move
one_left_out = introduced ++ move.Piece 1 163 0 ∷ move.Carry 1 (part.Message 3) ∷ move.Piece 1 11 0 ∷ []

-- nothing is left out
abbrev pub all_carried : List Move
all_carried =
    introduced ++ move.Piece 1 163 0 ∷ move.Carry 1 (part.Message 2) ∷ move.Carry 1 (part.Message 3)
    ∷ move.Piece 1 22 0 ∷ []

abbrev pub enters : ℕ × Event
enters = (1, event.Enter second_id (codes "b") (codes "tcp://10.0.0.2:5002") [])

abbrev pub breaks : List (ℕ × Event)
breaks = enters ∷ (1, event.Exit second_id (codes "b") (cause.Order 2 3)) ∷ []

abbrev pub joins : List (ℕ × Event)
joins =
    enters ∷ (1, event.Join second_id (codes "b") (codes "x")) ∷ (1, event.Join second_id (codes "b") (codes "y")) ∷ []

-- The example is within the grammar and tells this; a message that isn't queued, an octet more than there are, and the
-- start of a running node are outside.
pub record IsExample : Type 0 where
  pub is_good_left_out : bad_move one_left_out ≡ None
  pub tells_left_out : said one_left_out ≡ breaks
  pub is_good_all : bad_move all_carried ≡ None
  pub tells_all : said all_carried ≡ joins
  pub not_queued : bad_move (all_carried ++ move.Carry 1 (part.Message 4) ∷ []) ≡ Some 16
  pub not_pending : is_good (move.Piece 1 1 0) (history all_carried) ≡ false
  pub not_again : is_good (move.Start 1 0 first_id [] [] 1) (history all_carried) ≡ false

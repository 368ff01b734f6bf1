-- An example: a node that crashes and starts anew.
use Rattle.std.specs.Prelude.{◌≡◌, true, false, List, [], ◌∷◌, ◌++◌, replicate, codes, length}
use Rattle.zre_outside.specs.declared.entry.Command.TheVariants as command
use Rattle.zre_peer.specs.declared.event.Event.TheVariants as event
use Rattle.zre_peer.specs.declared.causes.Cause.TheVariants as cause
use Rattle.zre_peer.specs.declared.causes.CloseWhy.TheVariants as close
use Rattle.zre_net.specs.declared.moves.Move.{Move}
use Rattle.zre_net.specs.declared.moves.Move.TheVariants as move
use Rattle.zre_net.specs.declared.moves.Part.TheVariants as part
use Rattle.zre_net.specs.Numbers.{routes}
use Rattle.zre_net.specs.Comes.{history}
use Rattle.zre_net.specs.Grammar.{are_good, is_good, queued_octets, pending_octets}
use Rattle.zre_net.specs.Said.{said}
use Rattle.zre_net.specs.Example.{introduced, second_id}

-- Node 2 leaves x and joins it anew, and crashes; what it had put on its link is carried on, but for the last octet;
-- then it starts with its ID anew.
abbrev pub crashed : List Move
crashed =
    introduced ++ move.Piece 1 163 0 ∷ move.Do 2 5 (command.Leave (codes "x")) ∷ move.Do 2 6 (command.Join (codes "x"))
    ∷ move.Crash 2 ∷ move.Carry 1 (part.Message 2) ∷ move.Carry 1 (part.Message 3) ∷ move.Carry 1 (part.Message 4)
    ∷ move.Carry 1 (part.Message 5) ∷ move.Piece 1 43 7
    ∷ move.Start 2 9 second_id (codes "c") (10 ∷ 0 ∷ 0 ∷ 3 ∷ []) 5003 ∷ []

-- A connection that carries its new link takes over.
abbrev pub anew : List Move
anew =
    crashed ++ move.Beacon 1 2 3 ∷ move.Open 3 1 0 ∷ move.Carry 2 part.Greeting ∷ move.Carry 2 part.Ready
    ∷ move.Carry 2 (part.Message 1) ∷ move.Piece 2 163 10 ∷ []

-- The octets that wait are counted on; the ID of a node belongs to no other, no node starts without a port, and nothing
-- comes at a node or link that is gone.
pub record IsRestart : Type 0 where
  pub good : are_good crashed ≡ true
  pub queued_is : queued_octets (history crashed) ≡ 122
  pub pending_is : pending_octets (history crashed) ≡ 1
  pub other_id : is_good (move.Start 3 9 second_id [] (10 ∷ 0 ∷ 0 ∷ 3 ∷ []) 5003) (history crashed) ≡ false
  pub no_port : is_good (move.Start 3 9 (record { 0 = replicate 16 3 }) [] (10 ∷ 0 ∷ 0 ∷ 3 ∷ []) 0) (history crashed)
      ≡ false
  pub gone : is_good (move.Tick 3 0) (history crashed) ≡ false
  pub old_link : is_good (move.Linked 1 0) (history crashed) ≡ false
  pub new_good : are_good anew ≡ true
  pub routes_are : length (routes (history anew)) ≡ 4
  pub takes_over : said anew ≡ (1, event.Enter second_id (codes "b") (codes "tcp://10.0.0.2:5002") [])
      ∷ (1, event.Join second_id (codes "b") (codes "x")) ∷ (1, event.Join second_id (codes "b") (codes "y"))
      ∷ (1, event.Leave second_id (codes "b") (codes "x")) ∷ (1, event.Exit second_id (codes "b") cause.Taken)
      ∷ (1, event.Closed 1 close.Taken)
      ∷ (1, event.Enter second_id (codes "c") (codes "tcp://10.0.0.3:5003") []) ∷ []

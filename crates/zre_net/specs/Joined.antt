-- An example: a node joins a group, then hears of another and makes a link to it, and joins a second group.
use Rattle.std.specs.Prelude.{◌≡◌, ℕ, ◌+◌, List, [], ◌∷◌, codes, Some, None, length}
use Rattle.zre_values.specs.declared.peer_id.PeerId.{PeerId}
use Rattle.zre_outside.specs.declared.entry.Command.TheVariants as command
use Rattle.zre_journal.specs.Connections.{runs}
use Rattle.zre_journal.specs.Links.{groups}
use Rattle.zre_journal.specs.Peers.{counted, view}
use Rattle.zre_net.specs.declared.moves.Move.{Move}
use Rattle.zre_net.specs.declared.moves.Move.TheVariants as move
use Rattle.zre_net.specs.declared.moves.Part.TheVariants as part
use Rattle.zre_net.specs.Answer.{bad_move}
use Rattle.zre_net.specs.Comes.{history}
use Rattle.zre_net.specs.Example.{first_id, second_id}
use Rattle.zre_net.specs.History.{Incarnation, IsKnown, chronicle_of, settings_of}
use Rattle.zre_journal.specs.Speaking.{moment}

abbrev pub joined_first : List Move
joined_first =
    move.Start 1 0 first_id (codes "a") (10 ∷ 0 ∷ 0 ∷ 1 ∷ []) 5001
    ∷ move.Start 2 0 second_id (codes "b") (10 ∷ 0 ∷ 0 ∷ 2 ∷ []) 5002
    ∷ move.Do 2 0 (command.Join (codes "x"))
    ∷ move.Tick 1 0
    ∷ move.Beacon 1 2 0
    ∷ move.Do 2 0 (command.Join (codes "y"))
    ∷ move.Open 1 1 0
    ∷ move.Carry 1 part.Greeting
    ∷ move.Carry 1 part.Ready
    ∷ move.Carry 1 (part.Message 1)
    ∷ move.Piece 1 168 0
    ∷ []

-- node n, which is the nth that starts
abbrev pub started_nth : ℕ → PeerId → List ℕ → Incarnation
started_nth n id name = record {
  number = n;
  node = n;
  since = 0;
  settings = settings_of id name (10 ∷ 0 ∷ 0 ∷ n ∷ []) (5000 + n);
}

abbrev pub hears : Incarnation
hears = started_nth 1 first_id (codes "a")

abbrev pub says : Incarnation
says = started_nth 2 second_id (codes "b")

-- Node 1 has counted HELLO. It shows the group that node 2 was in as the link was made: neither none, as at the start
-- of node 2, nor both, as it is now.
pub record IsJoined : Type 0 where
  pub is_good : bad_move joined_first ≡ None
  pub is_known : IsKnown (history joined_first) hears
  pub is_run : runs 1 (chronicle_of hears (history joined_first)) ≡ Some 1
  pub counts_one : length (counted 1 (chronicle_of hears (history joined_first))) ≡ 1
  pub shows : (view 1 (chronicle_of hears (history joined_first))).groups ≡ codes "x" ∷ []
  pub was : groups (moment 1 1 (chronicle_of says (history joined_first))) ≡ codes "x" ∷ []
  pub is_now : groups (chronicle_of says (history joined_first)) ≡ codes "x" ∷ codes "y" ∷ []

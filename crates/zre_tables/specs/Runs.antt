-- The runs of rows.
use Rattle.std.specs.Prelude.{◌≡◌, ℕ, List, Option, Some, None}
use Rattle.zre_values.specs.declared.peer_id.PeerId.{PeerId}
use Rattle.zre_msg.specs.declared.message.Message.{Message}
use Rattle.zre_peer.specs.Runs.{shown}
use Rattle.zre_peer.specs.Standing.{Stands, id_of, view_in}
use Rattle.zre_tables.specs.Rows.{with_row}
use Rattle.zre_tables.specs.declared.peer.Peer.{Peer}
use Rattle.zre_tables.specs.declared.peer.CarriedRun.{CarriedRun}

-- the run that connection c carries has taken these messages of this peer
pub record IsRunning (c : ℕ) (id : PeerId) (messages : List Message) (x : CarriedRun) : Type 0 where
  pub conn : x.conn ≡ c
  pub stands : Stands x.run messages
  pub of : id_of x.run ≡ id

-- a run, where some connection carries one
abbrev pub HasRun : Option ℕ → PeerId → List Message → Option CarriedRun → Type 0
HasRun None id messages o = o ≡ None
HasRun (Some c) id messages o = (x : CarriedRun) × (o ≡ Some x) × IsRunning c id messages x

-- the view of a run is that of these messages, though it has maybe refused one after them
abbrev pub HadRun : Option ℕ → List Message → Option CarriedRun → Type 0
HadRun None messages o = o ≡ None
HadRun (Some c) messages o = (x : CarriedRun) × (o ≡ Some x) × (x.conn ≡ c) × (view_in x.run ≡ shown messages)

-- the peer of row n, which was x, has shown that it is there, and has another run, of which P tells
pub record IsTaken (n : ℕ) (x : Peer) (now : ℕ) (P : Option CarriedRun → Type 0) (old new : List (ℕ × Peer))
    : Type 0 where
  pub run : Option CarriedRun
  pub its_run : P run
  pub rows : new ≡ with_row n (record x { active = now; run = run }) old

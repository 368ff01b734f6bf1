-- What the machine of `follow` knows of the octets that it was fed.
use Rattle.std.specs.Prelude.{◌≡◌, ◌⊎◌, ℕ, Bool, true, false, List, ◌++◌, take, is_some, Result, IfOk}
use Rattle.zre_values.specs.declared.memory.OutOfMemory.{OutOfMemory}
use Rattle.zre_values.specs.declared.peer_id.PeerId.{PeerId}
use Rattle.zre_peer.specs.Standing.{Stands, id_of, is_spent}
use Rattle.zre_zmtp.specs.Stream.{Traffic}
use Rattle.zre_commands.specs.Stream.{HasRead}
use Rattle.zre_commands.specs.declared.follow.follower.Follower.{Follower}
use Rattle.zre_commands.specs.follow.Follow.{follow, over, is_stopped}
use Rattle.zre_commands.specs.pump.Meaning.{Grows}
use Rattle.zre_commands.specs.follow.Messages.{messages}

-- the machine was fed these octets: its run is spent where they are over; else it stands after their messages, and
-- the fault is known, or the reader stands after them
pub record Fed (f : Follower) (o : List ℕ) : Type 0 where
  pub spent : is_spent f.run ≡ over o
  pub stands : over o ≡ false → Stands f.run (messages o)
  pub read : over o ≡ false → HasRead Traffic o f.fault f.reader

-- the peer whose connection is followed
abbrev pub peer_of : Follower → PeerId
peer_of f = id_of f.run

-- an answer whether more octets are read: they aren't after the end of the run, nor after a fault
abbrev pub GoesOn : Bool → Follower → Type 0
GoesOn true f = (is_spent f.run ≡ false) × (f.reader.spent ≡ false) × (is_some f.fault ≡ false)
GoesOn false f = (is_spent f.run ≡ true) ⊎ ((f.reader.spent ≡ true) ⊎ (is_some f.fault ≡ true))

-- so many octets were taken from the front of these, after whatever the machine was fed
abbrev pub FeedsFront : Result ℕ OutOfMemory → Follower → Follower → List ℕ → List ℕ → List ℕ → Type 0
FeedsFront result was now octets out out' =
    (o : List ℕ) → Fed was o → is_stopped o ≡ false →
    IfOk result (λ len. Fed now (o ++ take len octets) × Grows (follow (peer_of was)) o (take len octets) out out')

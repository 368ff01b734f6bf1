-- EVASIVE of a peer.
use Rattle.std.specs.Prelude.{◌≡◌, List, [], ◌∷◌, ◌++◌, Some, None}
use Rattle.zre_msg.specs.declared.message.Message.{Message}
use Rattle.zre_peer.specs.declared.event.Event.{Event}
use Rattle.zre_peer.specs.declared.event.Event.TheVariants.{Evasive}
use Rattle.zre_peer.specs.Runs.{shown}
use Rattle.zre_peer.specs.Standing.{view_in}
use Rattle.zre_peer.specs.Views.{view_of}
use Rattle.zre_tables.specs.declared.peer.Peer.{Peer}
use Rattle.zre_tables.specs.declared.peer.CarriedRun.{CarriedRun}

-- the user was told that an entered peer is evasive, with the name that it has told, and nothing of another
pub record IsTold (x : Peer) (before now : List Event) : Type 0 where
  pub entered : (r : CarriedRun) (ms : List Message) → x.run ≡ Some r → view_in r.run ≡ shown ms
      → now ≡ before ++ Evasive x.id (view_of ms).name ∷ []
  pub other : x.run ≡ None → now ≡ before

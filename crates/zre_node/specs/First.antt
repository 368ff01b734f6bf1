-- The first message of a connection.
use Rattle.std.specs.Prelude.{◌≡◌, ◌≢◌, ◌<◌, ℕ, false, List, [], ◌∷◌, Some, None, length}
use Rattle.zre_values.specs.declared.peer_id.PeerId.{PeerId}
use Rattle.zre_values.specs.Endpoint.{endpoint_in}
use Rattle.zre_msg.specs.declared.message.Message.{Message}
use Rattle.zre_peer.specs.Runs.{may_follow, fault_of}
use Rattle.zre_peer.specs.Views.{view_of}
use Rattle.zre_peer.specs.declared.peer_run.RunFault.{RunFault}
use Rattle.zre_peer.specs.declared.peer_run.RunFault.TheVariants as fault
use Rattle.zre_values.specs.declared.settings.Settings.{Settings as Config}
use Rattle.zre_journal.specs.Chronicle.{Mark, Ignores}
use Rattle.zre_journal.specs.Peers.{Life, lives, life_of}
use Rattle.zre_journal.specs.Arrivals.{start_unknown}
use Rattle.zre_node.specs.declared.incoming.first.Reach.{Reach}
use Rattle.zre_node.specs.declared.incoming.first.Reach.TheVariants.{Known, New, Nowhere}

-- where the peer of a first message is to be reached
abbrev pub IsPlace : Config → PeerId → Message → List Mark → Reach → Type 0
IsPlace g p m H (Known l) = (v : Life) × (life_of p H ≡ Some v) × (v.link ≡ l)
IsPlace g p m H (New e) =
    (life_of p H ≡ None) × (endpoint_in (view_of (m ∷ [])).endpoint ≡ Some e) × (length (lives H) < 256)
IsPlace g p m H (Nowhere why) =
    (life_of p H ≡ None)
    × ((c : ℕ) → start_unknown g c p m (endpoint_in (view_of (m ∷ [])).endpoint) H ≡ Ignores c why ∷ [])

-- why a first message makes no run: of OutOfMemory nothing is said
abbrev pub IsFirstFault : RunFault → Message → Type 0
IsFirstFault f m = f ≢ fault.OutOfMemory → (may_follow [] m ≡ false) × (f ≡ fault_of [] m)

-- What comes about at an entry, as the marks that it leaves in the chronicle.
use Rattle.std.specs.Prelude.{ℕ, Bool, true, false, not, ◌&&◌, List, [], ◌∷◌, Option, Some, None, if◌then◌else◌, nat_eq}
use Rattle.std.specs.Prelude.{nat_lt, length}
use Rattle.std.specs.Str.{bytes_eq}
use Rattle.zre_values.specs.declared.peer_id.PeerId.{PeerId}
use Rattle.zre_outside.specs.declared.entry.Entry.{Entry}
use Rattle.zre_outside.specs.declared.entry.Input.{Input}
use Rattle.zre_outside.specs.declared.entry.Input.TheVariants as input
use Rattle.zre_values.specs.declared.limits.TheConstants.{PEERS}
use Rattle.zre_beacon.specs.Beacon.{beacon_in}
use Rattle.zre_peer.specs.declared.causes.Cause.TheVariants as cause
use Rattle.zre_values.specs.declared.settings.Settings.{Settings as Config}
use Rattle.zre_journal.specs.Chronicle.{Mark, Comes, HearsBeacon, Ends, Stops, after, ever}
use Rattle.zre_journal.specs.Heard.{newly_completed}
use Rattle.zre_journal.specs.Peers.{Life, lives, life_of, life}
use Rattle.zre_journal.specs.Pushes.{birth}
use Rattle.zre_journal.specs.Arrivals.{at_opened, at_shut, at_places}
use Rattle.zre_journal.specs.LinkEntries.{at_linked, at_reply, at_unlinked, at_took}
use Rattle.zre_journal.specs.Ticks.{at_tick}
use Rattle.zre_journal.specs.Commands.{at_stop, at_command}

abbrev pub is_stop : Mark → Bool
is_stop Stops = true
is_stop _ = false

-- the node has stopped
abbrev pub has_stopped : List Mark → Bool
has_stopped H = ever is_stop H

module _ (g : Config) where
  -- a beacon that isn't the node's own and has a port, where fewer than 256 peers are known (RFC 36, the beacon)
  abbrev pub is_welcome : PeerId → ℕ → ℕ → Bool
  is_welcome p port known = not (nat_eq port 0) && (not (bytes_eq p.0 g.id.0) && nat_lt known PEERS)

  -- a known peer is there, or leaves by a beacon with port 0; an unknown one is born (RFC 36, the beacon)
  abbrev pub at_beacon : List ℕ → PeerId → ℕ → Option Life → List Mark → List Mark
  at_beacon from p port (Some v) K = if nat_eq port 0 then Ends v.link cause.Beacon ∷ [] else HearsBeacon v.link ∷ []
  at_beacon from p port None K =
      if is_welcome p port (length (lives K)) then birth g p (record { addr = from; port = port }) K else []

  abbrev pub at_datagram : List ℕ → Option (PeerId × ℕ) → List Mark → List Mark
  at_datagram from None K = []
  at_datagram from (Some b) K = at_beacon from b.0 b.1 (life_of b.0 K) K

  -- what comes about at an entry: H is the chronicle before it, K with it
  abbrev pub at_input : Input → List Mark → List Mark → List Mark
  at_input (input.Datagram from o) H K = at_datagram from (beacon_in o) K
  at_input (input.Opened c) H K = at_opened g c K
  at_input (input.Piece c o) H K = at_places g c (newly_completed g.id c H K) K
  at_input (input.Shut c) H K = at_shut g c K
  at_input (input.Linked l) H K = at_linked g l (life l K) K
  at_input (input.Reply l o) H K = at_reply g l (life l K) H K
  at_input (input.Unlinked l) H K = at_unlinked g l (life l K)
  at_input (input.Took l n) H K = at_took g l n (life l K) K
  at_input input.Tick H K = at_tick g K
  at_input (input.Do c) H K = at_command g c K
  at_input input.End H K = at_stop g K

  -- the marks of an entry; after a stop there is none but its own
  abbrev pub marks : Entry → List Mark → List Mark
  marks e H = if has_stopped H then [] else at_input e.input H (Comes e ∷ H)

  -- the chronicle H, after one more entry
  abbrev pub with_entry : Entry → List Mark → List Mark
  with_entry e H = after (marks e H) (Comes e ∷ H)

  -- the chronicle of entries that come after H
  abbrev pub chronicle_after : List Entry → List Mark → List Mark
  chronicle_after [] H = H
  chronicle_after (e ∷ es) H = chronicle_after es (with_entry e H)

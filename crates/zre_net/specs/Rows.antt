-- What a network keeps of starts, beacons, links and connections.
use Rattle.std.specs.List.{list_all}
use Rattle.std.specs.Prelude.{◌≡◌, ◌⊎◌, ℕ, Bool, true, false, not, ◌&&◌, ◌≤◌, ◌<◌, max, List, [], ◌∷◌, ◌++◌, length}
use Rattle.std.specs.Prelude.{take, drop, Option, Some, None, if◌then◌else◌, nat_eq, nat_le, option_and_then}
use Rattle.std.specs.Prelude.{slice_get, is_some}
use Rattle.std.specs.Str.{bytes_eq}
use Rattle.zre_values.specs.declared.peer_id.PeerId.{PeerId}
use Rattle.zre_zmtp.specs.declared.writing.SocketType.TheVariants as socket
use Rattle.zre_zmtp.specs.Written.{own_greeting, ready_frame}
use Rattle.zre_outside.specs.declared.act.Act.{Act}
use Rattle.zre_outside.specs.declared.act.Act.TheVariants as act
use Rattle.zre_outside.specs.declared.entry.Entry.{Entry}
use Rattle.zre_outside.specs.declared.entry.Input.{Input}
use Rattle.zre_link.specs.Front.{HasOctets}
use Rattle.zre_mailbox.specs.Conn.{conn_after}
use Rattle.zre_mailbox.specs.Talk.{completed}
use Rattle.zre_values.specs.declared.settings.Settings.{Settings as Config}
use Rattle.zre_journal.specs.Chronicle.{Mark}
use Rattle.zre_journal.specs.Connections.{is_new}
use Rattle.zre_journal.specs.Happens.{has_stopped}
use Rattle.zre_journal.specs.Heard.{bytes, was_opened}
use Rattle.zre_net.specs.declared.moves.Part.{Part}
use Rattle.zre_net.specs.declared.moves.Part.TheVariants as part
use Rattle.zre_net.specs.declared.running.read_side.ReadSide.{ReadSide}
use Rattle.zre_net.specs.declared.running.rows.Carrier.{Carrier}
use Rattle.zre_net.specs.declared.running.rows.Owner.{Owner}
use Rattle.zre_net.specs.declared.running.rows.SentBeacon.{SentBeacon}
use Rattle.zre_net.specs.declared.running.rows.Started.{Started}
use Rattle.zre_net.specs.declared.running.rows.Way.{Way}
use Rattle.zre_net.specs.declared.running.steps.EntryTurn.{EntryTurn}
use Rattle.zre_net.specs.Lines.{messages_at, octets_in}
use Rattle.zre_net.specs.Lists.{nth}
use Rattle.zre_net.specs.Sending.{HasSent, Stepped}

-- ---- nodes

-- the start that runs at node n, by a table of them
abbrev pub running_at : ℕ → List (Option ℕ) → Option ℕ
running_at n rows = option_and_then (λ o. o) (slice_get rows n)

abbrev pub with_running : ℕ → Option ℕ → List (Option ℕ) → List (Option ℕ) → Type 0
with_running n start rows now = (k : ℕ) → running_at k now ≡ (if nat_eq k n then start else running_at k rows)

abbrev pub same_number : ℕ → Option ℕ → Bool
same_number k None = false
same_number k (Some n) = nat_eq n k

-- the start under the number k runs at its node
abbrev pub is_at : ℕ → Option Started → List (Option ℕ) → Bool
is_at k None rows = false
is_at k (Some x) rows = same_number k (running_at x.node rows)

-- the node of a start is there
abbrev pub has_node : Option Started → Bool
has_node None = false
has_node (Some x) = is_some x.sender.node

-- no start has its node but those that run
abbrev pub OnlyRunning : List Started → List (Option ℕ) → Type 0
OnlyRunning xs rows = (k : ℕ) → is_at k (nth k xs) rows ≡ false → has_node (nth k xs) ≡ false

-- an ID belongs to one node, and a node has one ID
abbrev pub fits_owner : ℕ → PeerId → Owner → Bool
fits_owner n id o = if nat_eq o.node n then bytes_eq o.id.0 id.0 else not (bytes_eq o.id.0 id.0)

-- node n has this ID
abbrev pub is_owner : ℕ → PeerId → Owner → Bool
is_owner n id o = if nat_eq o.node n then bytes_eq o.id.0 id.0 else false

-- with that owner these belong to the same, whether or not it was one of them before
abbrev pub Owns : List Owner → ℕ → PeerId → List Owner → Type 0
Owns before n id now = (k : ℕ) (p : PeerId)
    → list_all (fits_owner k p) now
    ≡ (list_all (fits_owner k p) before && fits_owner k p (record { node = n; id = id }))

-- a node that has started
pub record IsBegun (n since : ℕ) (g : Config) (x : Started) : Type 0 where
  pub node : x.node ≡ n
  pub since_is : x.since ≡ since
  pub id : x.id ≡ g.id
  pub host : x.host ≡ g.host
  pub sent : HasSent g [] x.sender
  pub live : has_node (Some x) ≡ true

-- a node that is gone
pub record HasStopped (x y : Started) : Type 0 where
  pub node : y.node ≡ x.node
  pub since : y.since ≡ x.since
  pub id : y.id ≡ x.id
  pub host : y.host ≡ x.host
  pub gone : has_node (Some y) ≡ false
  pub sent : (g : Config) (J : List Entry) → HasSent g J x.sender → HasSent g J y.sender
  pub lines : y.sender.lines ≡ x.sender.lines

-- ---- entries

abbrev pub entry_at : Started → ℕ → Input → Entry
entry_at x at i = record { at = max at x.since; input = i }

-- an entry has come
pub record Turned (g : Config) (J : List Entry) (e : Entry) (t : EntryTurn) (x : Started) : Type 0 where
  pub stepped : Stepped g J e t.step
  pub sent : HasSent g (J ++ e ∷ []) x.sender

-- and the rest of the row is as before, with the node in it
pub record StaysAt (t : EntryTurn) (x y : Started) : Type 0 where
  pub node : y.node ≡ x.node
  pub since : y.since ≡ x.since
  pub id : y.id ≡ x.id
  pub host : y.host ≡ x.host
  pub told_node : t.node ≡ x.node
  pub told_host : t.host ≡ x.host
  pub was_live : has_node (Some x) ≡ true
  pub live : has_node (Some y) ≡ true
  pub before : t.before ≡ octets_in x.sender.lines
  pub after : t.after ≡ octets_in y.sender.lines

abbrev pub sent_in : List ℕ → Act → Option SentBeacon
sent_in host (act.Beacon o) = Some (record { from = host; octets = o })
sent_in host _ = None

abbrev pub way_in : ℕ → Act → Option Way
way_in start (act.Connect l to) = Some (record { start = start; link = l })
way_in start _ = None

-- ---- parts

-- the octets of a part of a link
abbrev pub part_octets : Started → ℕ → Part → Option (List ℕ)
part_octets x l part.Greeting = Some own_greeting
part_octets x l part.Ready = Some (ready_frame socket.Dealer (Some x.id))
part_octets x l (part.Message k) = nth k (messages_at l x.sender.lines)

abbrev pub IsSpelled : Started → ℕ → Part → Option (List ℕ) → Type 0
IsSpelled x l p o = o ≡ part_octets x l p

abbrev pub IsSpelledAt : Option Started → ℕ → Part → Option (List ℕ) → Type 0
IsSpelledAt None l p o = ⊥
IsSpelledAt (Some x) l p o = IsSpelled x l p o

-- ---- connections

-- a connection carries these octets too
pub record IsLoaded (x : Carrier) (o : List ℕ) (y : Carrier) : Type 0 where
  pub to : y.to ≡ x.to
  pub along : y.along ≡ x.along
  pub waiting : y.waiting ≡ x.waiting ++ o
  pub read_side : y.read_side ≡ x.read_side

-- the read_side has heard all octets of connection x of a node, where that was opened; and it is not opened anew
pub record Fits (g : Config) (x : ℕ) (K : List Mark) (e : ReadSide) : Type 0 where
  pub heard : was_opened x K ≡ true → e.conn ≡ conn_after g.id (bytes x K)
  pub old : (is_new x K ≡ false) ⊎ (has_stopped K ≡ true)

-- so many octets wait on a connection that is there
abbrev pub has_waiting : ℕ → Option Carrier → Bool
has_waiting n None = false
has_waiting n (Some x) = nat_le n (length x.waiting)

-- the next octets have been taken off a connection, and heard: one at least where any wait
pub record IsHeard (x : Carrier) (most : ℕ) (b : List ℕ) (y : Carrier) : Type 0 where
  pub to : y.to ≡ x.to
  pub along : y.along ≡ x.along
  pub next : b ≡ take (length b) x.waiting
  pub few : length b ≤ most
  pub some : 0 < most → HasOctets x.waiting → HasOctets b
  pub waiting : y.waiting ≡ drop (length b) x.waiting
  pub read_side : (own : PeerId) (o : List ℕ) → x.read_side.conn ≡ conn_after own o →
      (length (completed own o b) ≤ 1) × (y.read_side.conn ≡ conn_after own (o ++ b))

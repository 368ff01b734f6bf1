-- What a node keeps of a chronicle.
use Rattle.std.specs.Prelude.{◌≡◌, ℕ, ◌≤◌, Bool, true, false, ◌||◌, List, [], ◌∷◌, ◌++◌, Option, Some, None, nat_lt}
use Rattle.std.specs.Prelude.{nat_eq, IsSome, length, Result, OnOk}
use Rattle.std.specs.List.{AllByRecursion, list_any}
use Rattle.zre_values.specs.declared.memory.OutOfMemory.{OutOfMemory}
use Rattle.zre_values.specs.declared.peer_id.PeerId.{PeerId}
use Rattle.zre_outside.specs.declared.entry.Input.{Input}
use Rattle.zre_outside.specs.declared.entry.Input.TheVariants as input
use Rattle.zre_msg.specs.declared.message.Message.{Message}
use Rattle.zre_msg.specs.declared.message.Body.{Body}
use Rattle.zre_msg.specs.declared.message.Body.TheVariants as body
use Rattle.zre_mailbox.specs.Conn.{ConnHearing, conn_after}
use Rattle.zre_link.specs.Link.{Sending, link_after}
use Rattle.zre_values.specs.declared.settings.Settings.{Settings as Config}
use Rattle.zre_journal.specs.Chronicle.{Mark, after}
use Rattle.zre_journal.specs.Config.{CanBe, own_endpoint}
use Rattle.zre_journal.specs.Heard.{clock, bytes}
use Rattle.zre_journal.specs.Connections.{open_ones, is_open, is_new, is_ignored, identity, runs, since}
use Rattle.zre_journal.specs.Peers.{Life, life, lives, other_lives, births, active, runner, counted}
use Rattle.zre_journal.specs.Proper.{IsProper}
use Rattle.zre_journal.specs.Links.{line, is_linked, replies, taken, groups, status}
use Rattle.zre_journal.specs.Happens.{has_stopped}
use Rattle.zre_journal.specs.Commands.{at_stop}
use Rattle.zre_journal.specs.Told.{told}
use Rattle.zre_journal.specs.Done.{done, puts}
use Rattle.zre_tables.specs.declared.peer.Peer.{Peer}
use Rattle.zre_tables.specs.declared.connection.Connection.{Connection}
use Rattle.zre_tables.specs.Runs.{HasRun, HadRun}
use Rattle.zre_tables.specs.Tabled.{Tabled}
use Rattle.zre_node.specs.declared.tables.Tables.{Tables}
use Rattle.zre_node.specs.declared.effects.Effects.{Effects}

-- ---- a known peer

pub record IsKept (id : PeerId) (now : ℕ) (run : Option ℕ) (messages : List Message) (link : Sending) (k : Peer)
    : Type 0 where
  pub id_is : k.id ≡ id
  pub active_is : k.active ≡ now
  pub run_is : HasRun run id messages k.run
  pub link_is : k.link ≡ link

-- what stands on the link of a life
abbrev pub link_of_life : Config → List Mark → ℕ → Sending
link_of_life g H l = link_after g.id (line l H) (is_linked l H) (replies l H) (taken l H)

-- what is kept of a life
abbrev pub IsPeer : Config → List Mark → Life → Peer → Type 0
IsPeer g H v k = IsKept v.id (active v.link H) (runner v.link H) (counted v.link H) (link_of_life g H v.link) k

-- ---- an open connection

-- what reads it: nothing, where it is ignored
abbrev pub heard_by : Bool → PeerId → List ℕ → Option ConnHearing
heard_by true own o = None
heard_by false own o = Some (conn_after own o)

-- what is kept of an open connection
abbrev pub kept_conn : Config → List Mark → ℕ → Connection
kept_conn g H c =
    record {
      since = since c H;
      identity = identity c H;
      run = runs c H;
      conn = heard_by (is_ignored c H) g.id (bytes c H);
    }

abbrev pub IsConn : Config → List Mark → ℕ → Connection → Type 0
IsConn g H c k = k ≡ kept_conn g H c

-- ---- the tables

abbrev pub is_above : Option ℕ → ℕ → Bool
is_above None c = true
is_above (Some n) c = nat_lt n c

-- all but the table of peers
pub record Keeps (g : Config) (H : List Mark) (t : Tables) : Type 0 where
  pub can : CanBe g
  pub proper : IsProper H
  pub going : has_stopped H ≡ false
  pub awake : t.stopped ≡ false
  pub config : t.config ≡ g
  pub mailbox : t.mailbox ≡ own_endpoint g
  pub clock_is : t.clock ≡ clock H
  pub births_is : t.births ≡ births H
  pub last_is : (c : ℕ) → is_new c H ≡ is_above t.last c
  pub groups_fit : AllByRecursion (λ group. length group ≤ 255) (groups H)
  pub own : t.own ≡ record { groups = groups H; status = status H }
  pub conns : Tabled (λ (c : ℕ). c) (IsConn g H) (open_ones H) t.conns

-- the node keeps what follows from the chronicle H, and goes on
pub record Holds (g : Config) (H : List Mark) (t : Tables) : Type 0 where
  pub keeps : Keeps g H t
  pub peers : Tabled (λ (v : Life). v.link) (IsPeer g H) (lives H) t.peers

-- ---- a peer that ends

-- what its end needs of a peer
pub record IsLeaving (H : List Mark) (v : Life) (k : Peer) : Type 0 where
  pub id_is : k.id ≡ v.id
  pub run_is : HadRun (runner v.link H) (counted v.link H) k.run

-- the row of link l may be that of a run that has refused a message
pub record IsBut (g : Config) (H : List Mark) (l : ℕ) (v : Life) (k : Peer) : Type 0 where
  pub leaving : IsLeaving H v k
  pub staying : nat_eq l v.link ≡ false → IsPeer g H v k

-- the node keeps what follows from H but for the peer of link l, which is to end
pub record Nearly (g : Config) (H : List Mark) (l : ℕ) (t : Tables) : Type 0 where
  pub keeps : Keeps g H t
  pub peers : Tabled (λ (v : Life). v.link) (IsBut g H l) (lives H) t.peers

-- the same, with that peer taken out
pub record Parted (g : Config) (H : List Mark) (l : ℕ) (k : Peer) (t : Tables) : Type 0 where
  pub keeps : Keeps g H t
  pub gone : Life
  pub known : life l H ≡ Some gone
  pub leaving : IsLeaving H gone k
  pub peers : Tabled (λ (v : Life). v.link) (IsPeer g H) (other_lives l (lives H)) t.peers

-- ---- what calls do

-- a call has left these marks, after H
pub record Did (g : Config) (hs H : List Mark) (t : Tables) (before now : Effects) : Type 0 where
  pub holds : Holds g (after hs H) t
  pub events : now.events ≡ before.events ++ told hs H
  pub acts : now.acts ≡ before.acts ++ done g.id hs
  pub pushed : (l : ℕ) → list_any (nat_eq l) now.pushed ≡ (list_any (nat_eq l) before.pushed || list_any (puts l) hs)

-- whatever the tables t hold, a call leaves marks
abbrev pub Does : (Config → List Mark → List Mark) → Tables → Tables → Effects → Effects
    → Result (Unit {0}) OutOfMemory → Type 0
Does marks t t' before now result =
    (g : Config) (K : List Mark) → Holds g K t → OnOk result (Did g (marks g K) K t' before now)

-- the same of a call about a connection that runs the peer of link l
abbrev pub DoesOnRun : ℕ → (Config → List Mark → ℕ → List Mark) → Tables → Tables → Effects → Effects
    → Result (Unit {0}) OutOfMemory → Type 0
DoesOnRun l marks t t' before now result =
    (g : Config) (H : List Mark) (c : ℕ) → Holds g H t → runs c H ≡ Some l →
    OnOk result (Did g (marks g H c) H t' before now)

-- the node has stopped
pub record Rests (g : Config) (H : List Mark) (t : Tables) : Type 0 where
  pub can : CanBe g
  pub stopped : has_stopped H ≡ true
  pub asleep : t.stopped ≡ true
  pub config : t.config ≡ g
  pub own : t.own ≡ record { groups = groups H; status = status H }
  pub none_known : lives H ≡ []
  pub no_peers : t.peers ≡ []
  pub none_open : open_ones H ≡ []
  pub no_conns : t.conns ≡ []

-- a stop has left its marks, after H
pub record Stopped (g : Config) (H : List Mark) (t : Tables) (before now : Effects) : Type 0 where
  pub rests : Rests g (after (at_stop g H) H) t
  pub events : now.events ≡ before.events ++ told (at_stop g H) H
  pub acts : now.acts ≡ before.acts ++ done g.id (at_stop g H)

-- ---- links and connections

-- these are links of known peers, each once
abbrev pub AreKnown : List Mark → List ℕ → Type 0
AreKnown H [] = Unit {0}
AreKnown H (l ∷ ls) = IsSome (life l H) × AllByRecursion (λ k. nat_eq l k ≡ false) ls × AreKnown H ls

-- no connection runs a peer
abbrev pub RunNone : List Mark → Type 0
RunNone H = (c : ℕ) → runs c H ≡ None

-- the connection is open, where there is one
abbrev pub IsOpenIfAny : Option ℕ → List Mark → Type 0
IsOpenIfAny None H = Unit {0}
IsOpenIfAny (Some c) H = is_open c H ≡ true

-- PING, which is answered
abbrev pub is_ping : Body → Bool
is_ping body.Ping = true
is_ping _ = false

-- an entry that brings no octets
abbrev pub is_quiet : Input → Bool
is_quiet (input.Piece c o) = false
is_quiet (input.Reply l o) = false
is_quiet _ = true

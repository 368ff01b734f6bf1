-- Tables seen from one connection or one peer: where CLOSED and IGNORED are told of a connection and why, where a peer
-- is born and where, and where it is told as EVASIVE. A row for each kind of place.
use Rattle.std.specs.Prelude.{◌≡◌, ℕ, false, not, ◌&&◌, List, [], ◌∷◌, Option, Some, None}
use Rattle.std.specs.Prelude.{if◌then◌else◌, nat_eq, nat_lt, length, is_none}
use Rattle.std.specs.List.{filter_map, cons_option}
use Rattle.std.specs.Option.{option_map_or}
use Rattle.std.specs.Str.{bytes_eq}
use Rattle.zre_values.specs.declared.limits.TheConstants.{PEERS, CONNECTIONS}
use Rattle.zre_values.specs.declared.peer_id.PeerId.{PeerId}
use Rattle.zre_values.specs.declared.endpoint.Endpoint.{Endpoint}
use Rattle.zre_values.specs.Endpoint.{endpoint_in}
use Rattle.zre_beacon.specs.Beacon.{beacon_in}
use Rattle.zre_mailbox.specs.declared.arrival.Arrival.TheVariants as arrival
use Rattle.zre_mailbox.specs.Talk.{Said, Arrived, Fault}
use Rattle.zre_msg.specs.declared.message.Message.{Message}
use Rattle.zre_outside.specs.declared.entry.Entry.{Entry}
use Rattle.zre_outside.specs.declared.entry.Input.{Input}
use Rattle.zre_outside.specs.declared.entry.Input.TheVariants as input
use Rattle.zre_peer.specs.Runs.{is_hello}
use Rattle.zre_peer.specs.Views.{view_of, is_small}
use Rattle.zre_peer.specs.declared.causes.CloseWhy.{CloseWhy}
use Rattle.zre_peer.specs.declared.causes.CloseWhy.TheVariants as close
use Rattle.zre_peer.specs.declared.causes.IgnoreWhy.{IgnoreWhy}
use Rattle.zre_peer.specs.declared.causes.IgnoreWhy.TheVariants as ignore
use Rattle.zre_values.specs.declared.settings.Settings.{Settings as Config}
use Rattle.zre_journal.specs.Arrivals.{at_place}
use Rattle.zre_journal.specs.Causes.{where_so}
use Rattle.zre_journal.specs.Chronicle.{Mark, Comes, TurnsAway, Ignores, Closes, Born, IsEvasive}
use Rattle.zre_journal.specs.Connections.{open_ones, is_open, is_new, identity, runs, is_live, other_with}
use Rattle.zre_journal.specs.Events.{chronicle}
use Rattle.zre_journal.specs.Happens.{is_welcome, at_input}
use Rattle.zre_journal.specs.Peers.{Life, lives, life, life_of}
use Rattle.zre_journal.specs.Places.{is_piece, IsEntry, Arrives}
use Rattle.zre_journal.specs.Ticks.{is_stale, is_evasive}

-- ---- CLOSED

abbrev pub closed_of : ℕ → Mark → Option CloseWhy
closed_of c (TurnsAway d) = where_so (nat_eq c d) close.TooMany
closed_of c (Closes d why) = where_so (nat_eq c d) why
closed_of c _ = None

-- the reasons with which c is told as closed among these marks
abbrev pub closed_in : ℕ → List Mark → List CloseWhy
closed_in c hs = filter_map (closed_of c) hs

module _ (g : Config) where
  -- at an entry as a whole: K is the chronicle with it
  abbrev pub closed_at : Input → List Mark → ℕ → Option CloseWhy
  closed_at (input.Opened d) K c =
      where_so (nat_eq c d && (is_new d K && not (nat_lt (length (open_ones K)) CONNECTIONS))) close.TooMany
  closed_at input.Tick K c = where_so (is_open c K && is_stale g K c) close.Timeout
  closed_at _ K c = None

-- at what is said on a live connection d
abbrev pub closed_said : ℕ → Said → List Mark → ℕ → Option CloseWhy
closed_said d (Arrived (arrival.Shaken p)) K c =
    where_so (is_none (identity d K) && option_map_or (nat_eq c) (other_with p d K) false) close.Taken
closed_said d (Fault f) K c = where_so (nat_eq c d) (close.Zmtp f)
closed_said d _ K c = None

-- ---- IGNORED

abbrev pub ignored_of : ℕ → Mark → Option IgnoreWhy
ignored_of c (Ignores d why) = where_so (nat_eq c d) why
ignored_of c _ = None

abbrev pub ignored_in : ℕ → List Mark → List IgnoreWhy
ignored_in c hs = filter_map (ignored_of c) hs

-- why a first message of the peer p doesn't start a run, where it doesn't: the first that holds
abbrev pub ignored_new : Option Endpoint → List Mark → Option IgnoreWhy
ignored_new None K = Some ignore.NoEndpoint
ignored_new (Some to) K = where_so (not (nat_lt (length (lives K)) PEERS)) ignore.Full

abbrev pub ignored_by : PeerId → Message → List Mark → Option IgnoreWhy
ignored_by p m K =
    if not (is_hello m.body && nat_eq m.sequence 1) then Some ignore.NotHello
    else if not (is_small (view_of (m ∷ []))) then Some ignore.Limit
    else if is_none (life_of p K) then ignored_new (endpoint_in (view_of (m ∷ [])).endpoint) K else None

abbrev pub ignored_first : Option PeerId → Message → List Mark → Option IgnoreWhy
ignored_first None m K = None
ignored_first (Some p) m K = ignored_by p m K

abbrev pub ignored_said : ℕ → Said → List Mark → ℕ → Option IgnoreWhy
ignored_said d (Arrived (arrival.Message m)) K c =
    if nat_eq c d && is_none (runs d K) then ignored_first (identity d K) m K else None
ignored_said d _ K c = None

-- ---- births

abbrev pub born_of : PeerId → Mark → Option Endpoint
born_of p (Born l q to) = where_so (bytes_eq p.0 q.0) to
born_of p _ = None

-- the endpoints with which p is born among these marks
abbrev pub born_in : PeerId → List Mark → List Endpoint
born_in p hs = filter_map (born_of p) hs

module _ (g : Config) where
  -- by a beacon
  abbrev pub born_by : List ℕ → Option (PeerId × ℕ) → List Mark → PeerId → Option Endpoint
  born_by from None K p = None
  born_by from (Some b) K p =
      where_so (bytes_eq p.0 b.0.0 && (is_none (life_of b.0 K) && is_welcome g b.0 b.1 (length (lives K)))) (record {
        addr = from;
        port = b.1;
      })

  abbrev pub born_at : Input → List Mark → PeerId → Option Endpoint
  born_at (input.Datagram from o) K p = born_by from (beacon_in o) K p
  born_at _ K p = None

-- by a first message of the peer q, where it starts a run of a peer that isn't known
abbrev pub born_new : Option Endpoint → List Mark → Option Endpoint
born_new None K = None
born_new (Some to) K = where_so (nat_lt (length (lives K)) PEERS) to

abbrev pub born_first : Option PeerId → Message → List Mark → PeerId → Option Endpoint
born_first None m K p = None
born_first (Some q) m K p =
    if bytes_eq p.0 q.0 && ((is_hello m.body && nat_eq m.sequence 1) && (is_small (view_of (m ∷ []))
    && is_none (life_of q K)))
    then born_new (endpoint_in (view_of (m ∷ [])).endpoint) K else None

abbrev pub born_said : ℕ → Said → List Mark → PeerId → Option Endpoint
born_said d (Arrived (arrival.Message m)) K p = if is_none (runs d K) then born_first (identity d K) m K p else None
born_said d _ K p = None

-- ---- EVASIVE

abbrev pub evasive_of : ℕ → Mark → Option ℕ
evasive_of l (IsEvasive k) = where_so (nat_eq l k) k
evasive_of l _ = None

-- how often the peer of link l turns evasive among these marks, as that link
abbrev pub evasive_in : ℕ → List Mark → List ℕ
evasive_in l hs = filter_map (evasive_of l) hs

module _ (g : Config) where
  abbrev pub evasive_at : Input → List Mark → Life → Option ℕ
  evasive_at input.Tick K v = where_so (is_evasive g K v) v.link
  evasive_at _ K v = None

-- ---- what is told

-- What is read off the marks of an entry is what a table has for it there, and nothing where it has none.
abbrev pub ReadsAtEntries : {A : Type 0} → Config → List Entry → (List Mark → List A) → (Input → List Mark → Option A)
    → Type 0
ReadsAtEntries g J read due = (earlier : List Entry) (e : Entry) (later : List Entry) → IsEntry g J earlier e later
    → is_piece e.input ≡ false → let H = chronicle g earlier in let K = Comes e ∷ H in
    read (at_input g e.input H K) ≡ cons_option (due e.input K) []

-- So it is of the marks that come of one thing said on a connection, where that is live.
abbrev pub ReadsAtPlaces : {A : Type 0} → Config → List Entry → (List Mark → List A)
    → (ℕ → Said → List Mark → Option A) → Type 0
ReadsAtPlaces g J read due = (d : ℕ) (one : Said) (K : List Mark) → Arrives g J d one K
    → read (at_place g d one K) ≡ cons_option (if is_live d K then due d one K else None) []

-- A connection is told as closed at a place exactly where the table has a reason for it, with that reason, and once; a
-- connection is told as ignored exactly so, a peer is born exactly so, and a known peer is told as evasive exactly so.
pub record TellsByTables (g : Config) (J : List Entry) : Type 0 where
  pub closed_entries : (c : ℕ) → ReadsAtEntries g J (closed_in c) (λ i K. closed_at g i K c)
  pub closed_places : (c : ℕ) → ReadsAtPlaces g J (closed_in c) (λ d one K. closed_said d one K c)
  pub ignored_entries : (c : ℕ) → ReadsAtEntries g J (ignored_in c) (λ i K. None)
  pub ignored_places : (c : ℕ) → ReadsAtPlaces g J (ignored_in c) (λ d one K. ignored_said d one K c)
  pub born_entries : (p : PeerId) → ReadsAtEntries g J (born_in p) (λ i K. born_at g i K p)
  pub born_places : (p : PeerId) → ReadsAtPlaces g J (born_in p) (λ d one K. born_said d one K p)
  pub evasive_entries : (earlier : List Entry) (e : Entry) (later : List Entry) (v : Life) → IsEntry g J earlier e later
      → is_piece e.input ≡ false → let H = chronicle g earlier in let K = Comes e ∷ H in life v.link K ≡ Some v
      → evasive_in v.link (at_input g e.input H K) ≡ cons_option (evasive_at g e.input K v) []
  pub evasive_places : (d : ℕ) (one : Said) (K : List Mark) (l : ℕ) → Arrives g J d one K
      → evasive_in l (at_place g d one K) ≡ []

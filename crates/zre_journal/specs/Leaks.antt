-- What has no end yet: the links that a node connected and the connections that it answered, as what passes between
-- the node and the outside says it.
use Rattle.std.specs.Prelude.{◌≡◌, ℕ, ◌≤◌, Bool, true, false, not, ◌&&◌, List, [], ◌∷◌, ◌++◌, Option}
use Rattle.std.specs.Prelude.{Some, None, length}
use Rattle.std.specs.Prelude.{map, nat_eq, is_none, if◌then◌else◌}
use Rattle.std.specs.List.{filter_map, list_any}
use Rattle.zre_values.specs.declared.endpoint.Endpoint.{Endpoint}
use Rattle.zre_values.specs.declared.limits.TheConstants.{PEERS, CONNECTIONS}
use Rattle.zre_outside.specs.declared.act.Act.{Act}
use Rattle.zre_outside.specs.declared.act.Act.TheVariants as act
use Rattle.zre_outside.specs.declared.entry.Entry.{Entry}
use Rattle.zre_outside.specs.declared.entry.Input.{Input}
use Rattle.zre_outside.specs.declared.entry.Input.TheVariants as input
use Rattle.zre_values.specs.declared.settings.Settings.{Settings as Config}
use Rattle.zre_journal.specs.Chronicle.{Mark}
use Rattle.zre_journal.specs.Connections.{open_ones, is_open}
use Rattle.zre_journal.specs.Done.{acts_at}
use Rattle.zre_journal.specs.Events.{chronicle, acts}
use Rattle.zre_journal.specs.Happens.{with_entry}
use Rattle.zre_journal.specs.Peers.{Life, lives, life}

-- one thing that passes between a node and the outside: what comes with an entry, or an act
pub data Passage : Type 0 where
  Came : (what : Input) → Passage
  Did : (what : Act) → Passage

abbrev pub input_of : Passage → Option Input
input_of (Came i) = Some i
input_of (Did a) = None

abbrev pub act_of : Passage → Option Act
act_of (Came i) = None
act_of (Did a) = Some a

module _ (g : Config) where
  -- what passes with entries that come after H: what comes with each, and then its acts
  abbrev pub passages_after : List Entry → List Mark → List Passage
  passages_after [] H = []
  passages_after (e ∷ es) H = Came e.input ∷ (map Did (acts_at g e H) ++ passages_after es (with_entry g e H))

  -- all that passes in a journal
  abbrev pub passages : List Entry → List Passage
  passages journal = passages_after journal []

-- ---- links

-- with this link l has its end: it is closed, or it broke
abbrev pub ends_link : ℕ → Passage → Bool
ends_link l (Did (act.CloseLink k)) = nat_eq l k
ends_link l (Came (input.Unlinked k)) = nat_eq l k
ends_link l _ = false

-- the links of all CONNECTs here after which no end of that link comes, in their order
abbrev pub links_left : List Passage → List ℕ
links_left [] = []
links_left (Did (act.Connect l to) ∷ later) =
    if list_any (ends_link l) later then links_left later else l ∷ links_left later
links_left (_ ∷ later) = links_left later

-- ---- connections

-- with this connection c has its end: it is closed, or it is shut
abbrev pub ends_conn : ℕ → Passage → Bool
ends_conn c (Did (act.CloseConn d)) = nat_eq c d
ends_conn c (Came (input.Shut d)) = nat_eq c d
ends_conn c _ = false

-- what passes next is an answer on c
abbrev pub is_answered : ℕ → List Passage → Bool
is_answered c (Did (act.Answer d octets) ∷ later) = nat_eq c d
is_answered c _ = false

-- the connections of all OPENEDs here that are answered, and after which no end of that connection comes, in their
-- order
abbrev pub conns_left : List Passage → List ℕ
conns_left [] = []
conns_left (Came (input.Opened c) ∷ later) =
    if is_answered c later && not (list_any (ends_conn c) later) then c ∷ conns_left later else conns_left later
conns_left (_ ∷ later) = conns_left later

-- Nothing leaks: each CONNECT is followed by a CLOSELINK or an UNLINKED of its link, or else its peer is known; each
-- OPENED that is answered is followed by a CLOSECONN or a SHUT of its connection, or else the connection is open; never
-- both. The links and connections without an end are those of the known peers and the open ones, in this order. And at
-- no moment, also amid the acts of an entry, are more than 256 links or 512 connections without an end.
pub record LeaksNothing (g : Config) (J : List Entry) : Type 0 where
  pub are_inputs : filter_map input_of (passages g J) ≡ map (λ (e : Entry). e.input) J
  pub are_acts : filter_map act_of (passages g J) ≡ acts g J
  pub each_link : (before later : List Passage) (l : ℕ) (to : Endpoint)
      → passages g J ≡ before ++ Did (act.Connect l to) ∷ later
      → list_any (ends_link l) later ≡ is_none (life l (chronicle g J))
  pub each_conn : (before later : List Passage) (c : ℕ) → passages g J ≡ before ++ Came (input.Opened c) ∷ later
      → is_answered c later ≡ true → list_any (ends_conn c) later ≡ not (is_open c (chronicle g J))
  pub links_are : links_left (passages g J) ≡ map (λ (v : Life). v.link) (lives (chronicle g J))
  pub conns_are : conns_left (passages g J) ≡ open_ones (chronicle g J)
  pub few_links : (before later : List Passage) → passages g J ≡ before ++ later → length (links_left before) ≤ PEERS
  pub few_conns : (before later : List Passage) → passages g J ≡ before ++ later
      → length (conns_left before) ≤ CONNECTIONS

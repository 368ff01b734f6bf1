-- A network that has run a history.
use Rattle.std.specs.Prelude.{◌≡◌, ℕ, Bool, true, ◌+◌, ◌<◌, List, [], ◌∷◌, length, map, Option, Some, None, is_some}
use Rattle.std.specs.Prelude.{sum_by}
use Rattle.std.specs.List.{AllByRecursion, list_all}
use Rattle.zre_values.specs.declared.peer_id.PeerId.{PeerId}
use Rattle.zre_outside.specs.declared.entry.Input.{Input}
use Rattle.zre_outside.specs.declared.entry.Input.TheVariants as input
use Rattle.zre_journal.specs.Heard.{bytes}
use Rattle.zre_net.specs.declared.moves.Move.{Move}
use Rattle.zre_net.specs.declared.running.network.Network.{Network}
use Rattle.zre_net.specs.declared.running.rows.Carrier.{Carrier}
use Rattle.zre_net.specs.declared.running.rows.SentBeacon.{SentBeacon}
use Rattle.zre_net.specs.declared.running.rows.Started.{Started}
use Rattle.zre_net.specs.declared.running.rows.Way.{Way}
use Rattle.zre_net.specs.Lists.{nth}
use Rattle.zre_net.specs.Lines.{octets_in}
use Rattle.zre_net.specs.Sending.{HasSent}
use Rattle.zre_net.specs.Rows.{running_at, has_node, OnlyRunning, fits_owner, Fits}
use Rattle.zre_net.specs.History.{Incarnation, NodeTurn, Happening, Happens, IsKnown, incarnations, running, journal}
use Rattle.zre_net.specs.History.{chronicle_of}
use Rattle.zre_net.specs.Numbers.{Broadcast, Route, CarriedConn, broadcasts, routes, conns}
use Rattle.zre_net.specs.Carried.{pending}
use Rattle.zre_net.specs.Answer.{bad_move}
use Rattle.zre_net.specs.Comes.{with_move, history}
use Rattle.zre_net.specs.Grammar.{may_come, is_good, is_there, agrees}
use Rattle.zre_net.specs.Said.{said_in, IsRest}

-- ---- nodes

pub record IsStarted (H : List Happening) (a : Incarnation) (x : Started) : Type 0 where
  pub node : x.node ≡ a.node
  pub since : x.since ≡ a.since
  pub id : x.id ≡ a.settings.id
  pub host : x.host ≡ a.settings.host
  pub sent : HasSent a.settings (journal a H) x.sender

-- what has number k stands in row k, and is as Is says of both
pub record HasRow {A B : Type 0} (number_of : A → ℕ) (Is : A → B → Type 0) (k : ℕ) (a : A) (rows : List B)
    : Type 0 where
  pub number : number_of a ≡ k
  pub row : B
  pub there : nth k rows ≡ Some row
  pub is : Is a row

abbrev pub HasStarted : List Happening → ℕ → Incarnation → List Started → Type 0
HasStarted H = HasRow (λ (a : Incarnation). a.number) (IsStarted H)

pub record AreStarted (H : List Happening) (xs : List Started) : Type 0 where
  pub count : length xs ≡ length (incarnations H)
  pub each : (k : ℕ) (a : Incarnation) → nth k (incarnations H) ≡ Some a → HasStarted H k a xs
  pub none_yet : (a : Incarnation) → length (incarnations H) < a.number → journal a H ≡ []

-- who runs at node n is found by its number
abbrev pub Finds : List Happening → ℕ → Option Incarnation → Option ℕ → Type 0
Finds H n None found = found ≡ None
Finds H n (Some a) found = (found ≡ Some a.number) × IsKnown H a × (a.node ≡ n)

abbrev pub sent_of : Broadcast → SentBeacon
sent_of b = record { from = b.from.settings.host; octets = b.octets }

abbrev pub way_of : Route → Way
way_of s = record { start = s.from.number; link = s.link }

pub record AreNodes (H : List Happening) (net : Network) : Type 0 where
  pub said : IsRest net.handed (said_in H) net.said
  pub started : AreStarted H net.started.items
  pub runs : (n : ℕ) → Finds H n (running n H) (running_at n net.running.items)
  pub live : (n start : ℕ) → running_at n net.running.items ≡ Some start
      → has_node (nth start net.started.items) ≡ true
  pub gone : OnlyRunning net.started.items net.running.items
  pub owners : (n : ℕ) (id : PeerId) → list_all (fits_owner n id) net.owners ≡ list_all (agrees n id) (incarnations H)
  pub beacons : net.beacons ≡ map sent_of (broadcasts H)
  pub links : net.links ≡ map way_of (routes H)
  pub known : AllByRecursion (λ (s : Route). IsKnown H s.from) (routes H)
  pub queued : net.queued ≡ sum_by (λ (x : Started). octets_in x.sender.lines) net.started.items

-- ---- connections

pub record IsConn (H : List Happening) (c : CarriedConn) (y : Carrier) : Type 0 where
  pub to : y.to ≡ c.to.number
  pub to_known : IsKnown H c.to
  pub along : y.along ≡ way_of c.along
  pub along_known : IsKnown H c.along.from
  pub waits : y.waiting ≡ pending c.number H
  pub fits : Fits c.to.settings c.number (chronicle_of c.to H) y.read_side

abbrev pub HasConn : List Happening → ℕ → CarriedConn → List Carrier → Type 0
HasConn H = HasRow (λ (c : CarriedConn). c.number) (IsConn H)

pub record AreConns (H : List Happening) (ys : List Carrier) : Type 0 where
  pub count : length ys ≡ length (conns H)
  pub each : (x : ℕ) (c : CarriedConn) → nth x (conns H) ≡ Some c → HasConn H x c ys
  pub silent : (a : Incarnation) → IsKnown H a → (x : ℕ) → length (conns H) < x → bytes x (chronicle_of a H) ≡ []

-- ---- all

pub record StandsAfter (H : List Happening) (net : Network) : Type 0 where
  pub nodes : AreNodes H net
  pub conns_are : AreConns H net.conns.items
  pub pending_is : net.pending ≡ sum_by (λ (y : Carrier). length y.waiting) net.conns.items

-- ---- moves

-- a move that starts and ends no node
pub record IsStill (m : Move) : Type 0 where
  pub incarnations_stay : (t : Option NodeTurn) (H : List Happening) → incarnations (Happens m t ∷ H) ≡ incarnations H
  pub running_stay : (t : Option NodeTurn) (H : List Happening) (n : ℕ) → running n (Happens m t ∷ H) ≡ running n H

-- one that does nothing with connections but to bring an entry about them
pub record IsKept (m : Move) : Type 0 where
  pub conns_stay : (t : Option NodeTurn) (H : List Happening) → conns (Happens m t ∷ H) ≡ conns H
  pub pending_stay : (t : Option NodeTurn) (H : List Happening) (x : ℕ) → pending x (Happens m t ∷ H) ≡ pending x H

-- an entry that is neither about the opening of a connection nor a piece of one
abbrev pub IsSilent : Input → Type 0
IsSilent (input.Opened c) = ⊥
IsSilent (input.Piece c o) = ⊥
IsSilent _ = Unit {0}

-- a move has come, if it may, but for the octets
pub record IsPlayed (m : Move) (H : List Happening) (may : Bool) (net : Network) : Type 0 where
  pub fits : may ≡ may_come m H
  pub stands : may ≡ true → StandsAfter (with_move m H) net

-- a move has come, if it is within the grammar
pub record IsTaken (m : Move) (H : List Happening) (good : Bool) (net : Network) : Type 0 where
  pub fits : good ≡ is_good m H
  pub stands : good ≡ true → StandsAfter (with_move m H) net

-- ---- what numbers of connections and links name

-- the value of what a number names, where the node that this is of still runs
abbrev pub Names : {A B : Type 0} → (A → Incarnation) → (A → B) → List Happening → Option A → Option B → Type 0
Names of value H None found = found ≡ None
Names of value H (Some x) found = (is_some found ≡ is_there H (of x)) × ((y : _) → found ≡ Some y → y ≡ value x)
    × IsKnown H (of x)

-- the start at which a connection opened
abbrev pub Receives : List Happening → Option CarriedConn → Option ℕ → Type 0
Receives H o found = Names (λ (c : CarriedConn). c.to) (λ (c : CarriedConn). c.to.number) H o found

-- the start of the node of a link, and the link's number there
abbrev pub Sends : List Happening → Option Route → Option Way → Type 0
Sends H o found = Names (λ (s : Route). s.from) way_of H o found

-- ---- many moves

-- these moves have come, all within the grammar, and what was told of them was handed out
pub record HasRun (moves : List Move) (net : Network) : Type 0 where
  pub stands : StandsAfter (history moves) net
  pub all_good : bad_move moves ≡ None
  pub none_left : net.said ≡ []

-- and this is the line of the next
pub record Goes (moves : List Move) (line : ℕ) (net : Network) : Type 0 where
  pub runs : HasRun moves net
  pub line_is : line ≡ 2 + length moves

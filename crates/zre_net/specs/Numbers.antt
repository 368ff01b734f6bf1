-- Beacons, links and connections, as they are numbered over the whole schedule.
use Rattle.std.specs.Prelude.{ℕ, ◌+◌, List, [], ◌∷◌, ◌++◌, Option, Some, None, length, option_map}
use Rattle.std.specs.List.{filter_map}
use Rattle.zre_outside.specs.declared.act.Act.{Act}
use Rattle.zre_outside.specs.declared.act.Act.TheVariants as act
use Rattle.zre_msg.specs.declared.message.Message.{Message}
use Rattle.zre_journal.specs.Chronicle.{followed}
use Rattle.zre_journal.specs.Done.{acts_at}
use Rattle.zre_journal.specs.Links.{queued}
use Rattle.zre_net.specs.declared.moves.Move.TheVariants as move
use Rattle.zre_net.specs.Lists.{nth}
use Rattle.zre_net.specs.History.{Incarnation, NodeTurn, Happening, Happens, running, chronicle_of}

-- the acts of a turn, after H
abbrev pub acts_of : NodeTurn → List Happening → List Act
acts_of t H = acts_at t.who.settings t.entry (chronicle_of t.who H)

-- what the acts of all turns so far come to, in order
abbrev pub all_of : {T : Type 0} → (Incarnation → Act → Option T) → List Happening → List T
all_of f [] = []
all_of f (Happens m None ∷ H) = all_of f H
all_of f (Happens m (Some t) ∷ H) = all_of f H ++ filter_map (f t.who) (acts_of t H)

-- ---- beacons

-- a beacon, and who sent it
pub record Broadcast : Type 0 where
  pub from : Incarnation
  pub octets : List ℕ

abbrev pub broadcast_in : Incarnation → Act → Option Broadcast
broadcast_in a (act.Beacon o) = Some (record { from = a; octets = o })
broadcast_in a _ = None

-- all beacons so far, in order
abbrev pub broadcasts : List Happening → List Broadcast
broadcasts H = all_of broadcast_in H

-- ---- links

-- a link, whose it is, and its number there
pub record Route : Type 0 where
  pub from : Incarnation
  pub link : ℕ

abbrev pub route_in : Incarnation → Act → Option Route
route_in a (act.Connect l to) = Some (record { from = a; link = l })
route_in a _ = None

-- all links so far, in order
abbrev pub routes : List Happening → List Route
routes H = all_of route_in H

-- the messages that were put on a link
abbrev pub queued_on : Route → List Happening → List Message
queued_on s H = queued s.link (chronicle_of s.from H)

-- ---- connections

-- a connection: its number, the link that it carries, and the incarnation at which it opened
pub record CarriedConn : Type 0 where
  pub number : ℕ
  pub along : Route
  pub to : Incarnation

abbrev pub conn_of : ℕ → Option Route → Option Incarnation → Option CarriedConn
conn_of x None b = None
conn_of x (Some s) b = option_map (λ r. record { number = x; along = s; to = r }) b

-- all connections so far, in order
abbrev pub conns : List Happening → List CarriedConn
conns [] = []
conns (Happens (move.Open g n at) t ∷ H) =
    followed (conns H) (conn_of (length (conns H) + 1) (nth g (routes H)) (running n H))
conns (_ ∷ H) = conns H

-- The turn that each move gives, and so the history of a schedule.
use Rattle.std.specs.Prelude.{ℕ, ◌+◌, max, List, [], ◌∷◌, Option, Some, None, length, take, option_map}
use Rattle.zre_outside.specs.declared.entry.Input.{Input}
use Rattle.zre_outside.specs.declared.entry.Input.TheVariants as input
use Rattle.zre_net.specs.declared.moves.Move.{Move}
use Rattle.zre_net.specs.declared.moves.Move.TheVariants as move
use Rattle.zre_net.specs.Lists.{nth}
use Rattle.zre_net.specs.History.{Incarnation, NodeTurn, Happening, Happens, running}
use Rattle.zre_net.specs.Numbers.{Broadcast, Route, CarriedConn, broadcasts, routes, conns}
use Rattle.zre_net.specs.Carried.{pending}

-- an entry of a. No reading is before its start
abbrev pub turn_of : Incarnation → ℕ → Input → NodeTurn
turn_of a at i = record { who = a; entry = record { at = max at a.since; input = i } }

-- an entry at the node n; of the node of the link g; at the node of the connection x
abbrev pub at_node : ℕ → ℕ → Input → List Happening → Option NodeTurn
at_node n at i H = option_map (λ a. turn_of a at i) (running n H)

abbrev pub at_link : ℕ → ℕ → (ℕ → Input) → List Happening → Option NodeTurn
at_link g at i H = option_map (λ (s : Route). turn_of s.from at (i s.link)) (nth g (routes H))

abbrev pub at_conn : ℕ → ℕ → (CarriedConn → Input) → List Happening → Option NodeTurn
at_conn x at i H = option_map (λ (c : CarriedConn). turn_of c.to at (i c)) (nth x (conns H))

-- a beacon comes from the host that its sender had as it sent it
abbrev pub at_broadcast : ℕ → ℕ → List Happening → Option Broadcast → Option NodeTurn
at_broadcast n at H None = None
at_broadcast n at H (Some b) = at_node n at (input.Datagram b.from.settings.host b.octets) H

-- the turn that a move gives, after H
abbrev pub turn : Move → List Happening → Option NodeTurn
turn (move.Start n at id name host port) H = None
turn (move.Crash n) H = None
turn (move.Tick n at) H = at_node n at input.Tick H
turn (move.Do n at c) H = at_node n at (input.Do c) H
turn (move.Beacon k n at) H = at_broadcast n at H (nth k (broadcasts H))
turn (move.Open g n at) H = at_node n at (input.Opened (length (conns H) + 1)) H
turn (move.Carry x p) H = None
turn (move.Piece x count at) H = at_conn x at (λ c. input.Piece x (take count (pending x H))) H
turn (move.Shut x at) H = at_conn x at (λ c. input.Shut x) H
turn (move.Linked g at) H = at_link g at (λ l. input.Linked l) H
turn (move.Unlinked g at) H = at_link g at (λ l. input.Unlinked l) H
turn (move.Reply g at o) H = at_link g at (λ l. input.Reply l o) H
turn (move.Took g count at) H = at_link g at (λ l. input.Took l count) H

-- the history H, after one more move
abbrev pub with_move : Move → List Happening → List Happening
with_move m H = Happens m (turn m H) ∷ H

-- the history of moves that come after H
abbrev pub history_after : List Move → List Happening → List Happening
history_after [] H = H
history_after (m ∷ ms) H = history_after ms (with_move m H)

-- the history of a schedule
abbrev pub history : List Move → List Happening
history s = history_after s []

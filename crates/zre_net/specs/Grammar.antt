-- Which moves may come, and which schedules are within their grammar.
use Rattle.std.specs.Prelude.{ℕ, Bool, true, false, not, ◌&&◌, List, [], ◌∷◌, Option, Some, None, if◌then◌else◌, nat_eq}
use Rattle.std.specs.Prelude.{nat_lt, nat_le, length, flat_map, is_some, is_none, sum_by}
use Rattle.std.specs.List.{list_all}
use Rattle.std.specs.Str.{bytes_eq}
use Rattle.zre_values.specs.declared.peer_id.PeerId.{PeerId}
use Rattle.zre_msg.specs.Spelling.{octets}
use Rattle.zre_net.specs.declared.moves.Move.{Move}
use Rattle.zre_net.specs.declared.moves.Move.TheVariants as move
use Rattle.zre_net.specs.declared.moves.Part.{Part}
use Rattle.zre_net.specs.declared.moves.Part.TheVariants as part
use Rattle.zre_net.specs.declared.limits.TheConstants.{QUEUED_OCTETS, PENDING_OCTETS}
use Rattle.zre_journal.specs.Chronicle.{Mark}
use Rattle.zre_journal.specs.Links.{queued}
use Rattle.zre_journal.specs.Peers.{births}
use Rattle.zre_net.specs.Lists.{nth, numbers_from}
use Rattle.zre_net.specs.History.{Incarnation, Happening, incarnations, running, chronicle_of}
use Rattle.zre_net.specs.Numbers.{Route, CarriedConn, broadcasts, routes, conns, queued_on}
use Rattle.zre_net.specs.Carried.{pending}
use Rattle.zre_net.specs.Comes.{with_move}

-- it is there, and passes the test
abbrev pub passes : {A : Type 0} → (A → Bool) → Option A → Bool
passes test None = false
passes test (Some a) = test a

-- the incarnation still runs at its node
abbrev pub is_there : List Happening → Incarnation → Bool
is_there H a = passes (λ (b : Incarnation). nat_eq a.number b.number) (running a.node H)

-- an ID belongs to one node number, and a node number to one ID
abbrev pub agrees : ℕ → PeerId → Incarnation → Bool
agrees n id a = if nat_eq n a.node then bytes_eq id.0 a.settings.id.0 else not (bytes_eq id.0 a.settings.id.0)

-- the greeting and READY may always be carried, a message once it is queued
abbrev pub can_carry : List Happening → Part → CarriedConn → Bool
can_carry H (part.Message k) c = is_some (nth k (queued_on c.along H))
can_carry H _ c = true

-- a move may come after H, but for the octets
abbrev pub may_come : Move → List Happening → Bool
may_come (move.Start n at id name host port) H =
    is_none (running n H) && list_all (agrees n id) (incarnations H) && nat_lt 0 port
may_come (move.Crash n) H = is_some (running n H)
may_come (move.Tick n at) H = is_some (running n H)
may_come (move.Do n at c) H = is_some (running n H)
may_come (move.Beacon k n at) H = is_some (running n H) && is_some (nth k (broadcasts H))
may_come (move.Open g n at) H = is_some (running n H) && is_some (nth g (routes H))
may_come (move.Carry x p) H = passes (can_carry H p) (nth x (conns H))
may_come (move.Piece x count at) H =
    passes (λ (c : CarriedConn). is_there H c.to && nat_le count (length (pending x H))) (nth x (conns H))
may_come (move.Shut x at) H = passes (λ (c : CarriedConn). is_there H c.to) (nth x (conns H))
may_come (move.Linked g at) H = passes (λ (s : Route). is_there H s.from) (nth g (routes H))
may_come (move.Unlinked g at) H = passes (λ (s : Route). is_there H s.from) (nth g (routes H))
may_come (move.Reply g at o) H = passes (λ (s : Route). is_there H s.from) (nth g (routes H))
may_come (move.Took g count at) H = passes (λ (s : Route). is_there H s.from) (nth g (routes H))

-- the octets of the messages that were put on link l, and on all links of a node
abbrev pub octets_on : List Mark → ℕ → ℕ
octets_on K l = length (flat_map octets (queued l K))

abbrev pub octets_put : List Mark → ℕ
octets_put K = sum_by (octets_on K) (numbers_from 1 (births K))

-- the octets of all messages that were put on links so far; those that connections have yet to hand in
abbrev pub queued_octets : List Happening → ℕ
queued_octets H = sum_by (λ a. octets_put (chronicle_of a H)) (incarnations H)

abbrev pub pending_octets : List Happening → ℕ
pending_octets H = sum_by (λ (c : CarriedConn). length (pending c.number H)) (conns H)

-- there is room for both
abbrev pub has_room : List Happening → Bool
has_room H = nat_le (queued_octets H) QUEUED_OCTETS && nat_le (pending_octets H) PENDING_OCTETS

-- a move is within the grammar, after H
abbrev pub is_good : Move → List Happening → Bool
is_good m H = may_come m H && has_room (with_move m H)

abbrev pub are_good_after : List Move → List Happening → Bool
are_good_after [] H = true
are_good_after (m ∷ ms) H = is_good m H && are_good_after ms (with_move m H)

abbrev pub are_good : List Move → Bool
are_good s = are_good_after s []

-- What a node heard of a peer, and what it put on the links of that peer: the messages that a user or a program sends,
-- WHISPER and SHOUT, as the journal's chronicle has them.
use Rattle.std.specs.Prelude.{ℕ, Bool, true, false, List, [], ◌∷◌, map, Option, Some, None, if◌then◌else◌, nat_eq}
use Rattle.std.specs.Prelude.{bytes_eq}
use Rattle.std.specs.Cmp.Lexicographic.{pointwise}
use Rattle.std.specs.List.{filter}
use Rattle.zre_values.specs.declared.peer_id.PeerId.{PeerId}
use Rattle.zre_msg.specs.declared.message.Body.{Body}
use Rattle.zre_msg.specs.declared.message.Body.TheVariants.{Whisper, Shout}
use Rattle.zre_msg.specs.declared.message.Message.{Message}
use Rattle.zre_journal.specs.Chronicle.{Mark, Starts, Born, latest, each}
use Rattle.zre_journal.specs.Connections.{is_same}
use Rattle.zre_journal.specs.Links.{bodies}
use Rattle.zre_journal.specs.Peers.{counted}

-- ---- what is said

abbrev pub is_said : Body → Bool
is_said (Whisper content) = true
is_said (Shout group content) = true
is_said _ = false

-- the messages without their numbers, and those among them that are said
abbrev pub bodies_of : List Message → List Body
bodies_of messages = map (λ (m : Message). m.body) messages

abbrev pub said : List Body → List Body
said bodies = filter is_said bodies

-- a message that is said, as a list: whether it is to a group and to which, and its content
abbrev pub parts_of : Body → List (List ℕ)
parts_of (Whisper content) = [] ∷ content
parts_of (Shout group content) = (1 ∷ group) ∷ content
parts_of _ = []

-- whether two that are said are the same
abbrev pub is_same_said : Body → Body → Bool
is_same_said b c = pointwise bytes_eq (parts_of b) (parts_of c)

-- ---- a peer's lives, of which each has its own link

abbrev pub peer_at : ℕ → Mark → Option PeerId
peer_at l (Born k p to) = if nat_eq l k then Some p else None
peer_at l _ = None

-- the peer that was born on link l
abbrev pub peer_on : ℕ → List Mark → Option PeerId
peer_on l H = latest (peer_at l) H

abbrev pub birth_of : PeerId → Mark → Option ℕ
birth_of p (Born l q to) = if bytes_eq p.0 q.0 then Some l else None
birth_of p _ = None

-- the links of p, one for each birth of it, in order
abbrev pub links_of : PeerId → List Mark → List ℕ
links_of p H = each (birth_of p) H

abbrev pub run_at : Mark → Option ℕ
run_at (Starts c l m) = Some l
run_at _ = None

-- the runs of p in order of start, each by the link of its life
abbrev pub runs_of : PeerId → List Mark → List ℕ
runs_of p H = filter (λ l. is_same p (peer_on l H)) (each run_at H)

-- ---- both sides

-- the runs of p in order of start, each as what was said in it: those of its counted messages
abbrev pub heard : PeerId → List Mark → List (List Body)
heard p H = map (λ l. said (bodies_of (counted l H))) (runs_of p H)

-- for each birth of p, in order, what was said on its link
abbrev pub put : PeerId → List Mark → List (List Body)
put p H = map (λ l. said (bodies l H)) (links_of p H)

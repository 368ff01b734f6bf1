-- The node's own groups, and what it puts on its links.
use Rattle.std.specs.Prelude.{ℕ, ◌+◌, ◌%◌, Bool, false, List, [], ◌∷◌, ◌++◌, Option, Some, None, if◌then◌else◌}
use Rattle.std.specs.Prelude.{nat_eq, length, drop}
use Rattle.zre_values.specs.Lists.{without}
use Rattle.zre_outside.specs.declared.entry.Input.{Input}
use Rattle.zre_outside.specs.declared.entry.Input.TheVariants as input
use Rattle.zre_msg.specs.declared.message.Body.{Body}
use Rattle.zre_msg.specs.declared.message.Message.{Message}
use Rattle.zre_link.specs.Text.{Member, Says, Pongs, bodies_in, numbered_from, text_of}
use Rattle.zre_link.specs.Heard.{pings}
use Rattle.zre_link.specs.Link.{gate_of, front_of, unsent_of}
use Rattle.zre_values.specs.declared.settings.Settings.{Settings as Config}
use Rattle.zre_journal.specs.Chronicle.{Mark, Comes, Puts, PutsPong, Links, Sends, Joins, Leaves, each, ever}

-- the groups that the node has joined and not left since, in order
abbrev pub groups : List Mark → List (List ℕ)
groups [] = []
groups (Joins g ∷ H) = groups H ++ g ∷ []
groups (Leaves g ∷ H) = without g (groups H)
groups (_ ∷ H) = groups H

-- how often it has joined or left one, modulo 256 (RFC 36, the status of HELLO, JOIN and LEAVE)
abbrev pub status : List Mark → ℕ
status [] = 0
status (Joins g ∷ H) = (status H + 1) % 256
status (Leaves g ∷ H) = (status H + 1) % 256
status (_ ∷ H) = status H

-- ---- what is put on a link

abbrev pub put_on : ℕ → Mark → Option Member
put_on l (Puts k b) = if nat_eq l k then Some (Says b) else None
put_on l (PutsPong k t) = if nat_eq l k then Some (Pongs t) else None
put_on l _ = None

-- the line of link l: the messages and PONGs put on it, in order
abbrev pub line : ℕ → List Mark → List Member
line l H = each (put_on l) H

-- the bodies of the messages in it
abbrev pub bodies : ℕ → List Mark → List Body
bodies l H = bodies_in (line l H)

-- these messages, numbered from 1 on in sixteen bits (RFC 36)
abbrev pub queued : ℕ → List Mark → List Message
queued l H = numbered_from 1 (bodies l H)

abbrev pub text : Config → ℕ → List Mark → List ℕ
text g l H = text_of g.id (line l H)

-- ---- what comes back

abbrev pub links : ℕ → Mark → Bool
links l (Links k) = nat_eq l k
links l _ = false

-- the link stands
abbrev pub is_linked : ℕ → List Mark → Bool
is_linked l H = ever (links l) H

abbrev pub reply_of : ℕ → Input → List ℕ
reply_of l (input.Reply k octets) = if nat_eq l k then octets else []
reply_of l _ = []

-- the octets of the replies since the link stands
abbrev pub replies : ℕ → List Mark → List ℕ
replies l [] = []
replies l (Comes e ∷ H) = replies l H ++ (if is_linked l H then reply_of l e.input else [])
replies l (_ ∷ H) = replies l H

-- the contexts of the PINGs on link l that are whole with the entry that came last: H is the chronicle before it, K
-- with it
abbrev pub newly_pinged : ℕ → List Mark → List Mark → List (List ℕ)
newly_pinged l H K = drop (length (pings (replies l H))) (pings (replies l K))

-- ---- what goes out

-- how far the octets of link l may go out
abbrev pub gate : Config → ℕ → List Mark → ℕ
gate g l H = gate_of g.id (line l H) (is_linked l H) (replies l H)

-- how many have gone out
abbrev pub taken : ℕ → List Mark → ℕ
taken l [] = 0
taken l (Sends k n ∷ H) = if nat_eq l k then taken l H + n else taken l H
taken l (_ ∷ H) = taken l H

-- how many have not
abbrev pub unsent : Config → ℕ → List Mark → ℕ
unsent g l H = unsent_of g.id (line l H) (taken l H)

-- the octets that may go out now
abbrev pub front : Config → ℕ → List Mark → List ℕ
front g l H = front_of g.id (line l H) (is_linked l H) (replies l H) (taken l H)

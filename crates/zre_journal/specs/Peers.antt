-- Peers: known from their birth to their end, entered while a connection runs them.
use Rattle.std.specs.Prelude.{ℕ, ◌+◌, Bool, false, not, List, [], ◌∷◌, ◌++◌, Option, Some, None, if◌then◌else◌, nat_eq}
use Rattle.std.specs.Prelude.{is_some}
use Rattle.std.specs.List.{filter, find}
use Rattle.std.specs.Str.{bytes_eq}
use Rattle.zre_values.specs.declared.peer_id.PeerId.{PeerId}
use Rattle.zre_values.specs.declared.endpoint.Endpoint.{Endpoint}
use Rattle.zre_msg.specs.declared.message.Message.{Message}
use Rattle.zre_journal.specs.Chronicle.{Mark, Starts, Counts, Born, HearsBeacon, Ends, latest, each}
use Rattle.zre_journal.specs.Heard.{clock}
use Rattle.zre_peer.specs.declared.view.View.{View}
use Rattle.zre_peer.specs.Views.{view_of}

-- one life of a peer, from a birth on
pub record Life : Type 0 where
  pub link : ℕ
  pub id : PeerId
  pub endpoint : Endpoint

-- the lives without the one on link l
abbrev pub other_lives : ℕ → List Life → List Life
other_lives l vs = filter (λ v. not (nat_eq l v.link)) vs

-- the known peers in order of birth: those born before and not ended since
abbrev pub lives : List Mark → List Life
lives [] = []
lives (Born l p e ∷ H) = lives H ++ record { link = l; id = p; endpoint = e } ∷ []
lives (Ends l cause ∷ H) = other_lives l (lives H)
lives (_ ∷ H) = lives H

-- how many births there were
abbrev pub births : List Mark → ℕ
births [] = 0
births (Born l p e ∷ H) = births H + 1
births (_ ∷ H) = births H

-- the known peer with this id, and the one with this link
abbrev pub life_of : PeerId → List Mark → Option Life
life_of p H = find (λ v. bytes_eq p.0 v.id.0) (lives H)

abbrev pub life : ℕ → List Mark → Option Life
life l H = find (λ v. nat_eq l v.link) (lives H)

abbrev pub runner_at : ℕ → Mark → Option ℕ
runner_at l (Starts c k m) = if nat_eq l k then Some c else None
runner_at l _ = None

-- the connection that has run the peer of this link
abbrev pub runner : ℕ → List Mark → Option ℕ
runner l H = latest (runner_at l) H

abbrev pub is_entered : List Mark → Life → Bool
is_entered H v = is_some (runner v.link H)

abbrev pub message_at : ℕ → Mark → Option Message
message_at l (Starts c k m) = if nat_eq l k then Some m else None
message_at l (Counts c k m) = if nat_eq l k then Some m else None
message_at l _ = None

-- the messages of its run: the one that started it, and those counted (RFC 36, numbers of messages)
abbrev pub counted : ℕ → List Mark → List Message
counted l H = each (message_at l) H

-- what it has told of itself (RFC 36, HELLO, JOIN and LEAVE)
abbrev pub view : ℕ → List Mark → View
view l H = view_of (counted l H)

-- whether the mark shows that the peer is there: its birth, its beacon, its start, a counted message
abbrev pub refreshes : ℕ → Mark → Bool
refreshes l (Born k p e) = nat_eq l k
refreshes l (HearsBeacon k) = nat_eq l k
refreshes l (Starts c k m) = nat_eq l k
refreshes l (Counts c k m) = nat_eq l k
refreshes l _ = false

-- the clock of the last of these
abbrev pub active : ℕ → List Mark → ℕ
active l [] = 0
active l (h ∷ H) = if refreshes l h then clock H else active l H

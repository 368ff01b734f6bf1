-- What a node is asked after a journal: who is entered and with what view, what the links of known peers have to
-- send, and what it holds.
use Rattle.std.specs.Prelude.{◌≡◌, ◌≢◌, ℕ, ◌<◌, List, [], Option, Some, None, option_map, option_and_then, map}
use Rattle.std.specs.Prelude.{length, if◌then◌else◌, IsSome}
use Rattle.std.specs.List.{filter, AllByRecursion}
use Rattle.zre_values.specs.declared.peer_id.PeerId.{PeerId}
use Rattle.zre_outside.specs.declared.act.Act.{Act}
use Rattle.zre_outside.specs.declared.act.Act.TheVariants as act
use Rattle.zre_outside.specs.declared.entry.Entry.{Entry}
use Rattle.zre_link.specs.Front.{IsFront}
use Rattle.zre_peer.specs.declared.view.View.{View}
use Rattle.zre_values.specs.declared.settings.Settings.{Settings as Config}
use Rattle.zre_journal.specs.Chronicle.{Mark}
use Rattle.zre_journal.specs.Connections.{open_ones}
use Rattle.zre_journal.specs.Events.{chronicle}
use Rattle.zre_journal.specs.Held.{held, bound}
use Rattle.zre_journal.specs.Links.{front, gate, taken, unsent}
use Rattle.zre_journal.specs.Peers.{Life, is_entered, life, life_of, lives, view}

-- the view of a known peer, where it is entered
abbrev pub view_if_entered : List Mark → Life → Option View
view_if_entered H v = if is_entered H v then Some (view v.link H) else None

-- the view of the peer with this id, where it is entered
abbrev pub view_after : Config → List Entry → PeerId → Option View
view_after g J p = option_and_then (view_if_entered (chronicle g J)) (life_of p (chronicle g J))

-- the link of the peer with this id, where it is known
abbrev pub link_later : Config → List Entry → PeerId → Option ℕ
link_later g J p = option_map (λ (v : Life). v.link) (life_of p (chronicle g J))

-- the entered peers, in order of birth
abbrev pub entered_after : Config → List Entry → List PeerId
entered_after g J = map (λ (v : Life). v.id) (filter (is_entered (chronicle g J)) (lives (chronicle g J)))

-- how many octets wait on a link, where it is that of a known peer
abbrev pub unsent_after : Config → List Entry → ℕ → Option ℕ
unsent_after g J l = option_map (λ (v : Life). unsent g v.link (chronicle g J)) (life l (chronicle g J))

-- the octets that may go out on a link, where it is that of a known peer
abbrev pub front_after : Config → List Entry → ℕ → Option (List ℕ)
front_after g J l = option_map (λ (v : Life). front g v.link (chronicle g J)) (life l (chronicle g J))

-- how many octets the node holds
abbrev pub held_after : Config → List Entry → ℕ
held_after g J = held g (chronicle g J)

-- how many they are at most, with so many known peers and open connections
abbrev pub bound_after : Config → List Entry → ℕ
bound_after g J = bound (length (lives (chronicle g J))) (length (open_ones (chronicle g J)))

-- some of the first of these octets, where there are octets to speak of
abbrev pub HasFront : Option (List ℕ) → Option (List ℕ) → Type 0
HasFront None o = o ≡ None
HasFront (Some whole) o = (part : List ℕ) × (o ≡ Some part) × IsFront whole part

-- octets may go out on a link of a known peer
pub record IsDue (g : Config) (H : List Mark) (l : ℕ) : Type 0 where
  pub known : IsSome (life l H)
  pub some : taken l H < gate g l H

-- there are some of them
abbrev pub HasSome : Option (List ℕ) → Type 0
HasSome o = (part : List ℕ) × (o ≡ Some part) × (part ≢ [])

-- a link that is to be looked at has octets that may go out
abbrev pub IsDueAct : Config → List Mark → Act → Type 0
IsDueAct g H (act.Offer l) = IsDue g H l
IsDueAct g H _ = Unit {0}

-- the same of each of these acts
abbrev pub AreDue : Config → List Mark → List Act → Type 0
AreDue g H acts = AllByRecursion (IsDueAct g H) acts

-- Searches among rows.
use Rattle.std.specs.Prelude.{ℕ, ◌-◌, Bool, false, not, ◌&&◌, List, [], ◌∷◌, Option, Some, None, if◌then◌else◌}
use Rattle.std.specs.Prelude.{is_some, is_none, nat_eq, nat_le, nat_lt}
use Rattle.std.specs.List.{list_any}
use Rattle.std.specs.Str.{bytes_eq}
use Rattle.zre_values.specs.declared.peer_id.PeerId.{PeerId}
use Rattle.zre_outside.specs.declared.act.Act.{Act}
use Rattle.zre_outside.specs.declared.act.Act.TheVariants as act
use Rattle.zre_link.specs.Link.{has_front}
use Rattle.zre_journal.specs.Connections.{is_same}
use Rattle.zre_tables.specs.declared.connection.Connection.{Connection}
use Rattle.zre_tables.specs.declared.peer.Peer.{Peer}

-- the number of the first row with this id
abbrev pub link_among : PeerId → List (ℕ × Peer) → Option ℕ
link_among p [] = None
link_among p (e ∷ es) = if bytes_eq p.0 e.1.id.0 then Some e.0 else link_among p es

-- the number of the first other row with this identity
abbrev pub other_among : PeerId → ℕ → List (ℕ × Connection) → Option ℕ
other_among p c [] = None
other_among p c (e ∷ es) = if not (nat_eq c e.0) && is_same p e.1.identity then Some e.0 else other_among p c es

-- the peer of this row hasn't shown for so long that it is there
abbrev pub row_silent : ℕ → ℕ → Peer → Bool
row_silent limit now k = nat_le limit (now - k.active)

-- it is entered, and was silent for long, but not for so long that it has expired
abbrev pub row_evasive : ℕ → ℕ → ℕ → Peer → Bool
row_evasive evasive expired now k = is_some k.run && not (row_silent expired now k) && row_silent evasive now k

-- the connection of this row runs no peer, and has rested for so long
abbrev pub row_stale : ℕ → ℕ → Connection → Bool
row_stale limit now k = is_none k.run && nat_le limit (now - k.since)

-- the link of this row has something to send
abbrev pub row_offered : Peer → Bool
row_offered k = has_front k.link

-- the offers of the rows on whose links something was put
abbrev pub offered_among : List ℕ → List (ℕ × Peer) → List Act
offered_among pushed [] = []
offered_among pushed (e ∷ es) =
    if list_any (nat_eq e.0) pushed && has_front e.1.link then act.Offer e.0 ∷ offered_among pushed es
    else offered_among pushed es

-- links from the first on that isn't below another
abbrev pub since_link : ℕ → List ℕ → List ℕ
since_link n [] = []
since_link n (l ∷ ls) = if nat_lt l n then since_link n ls else l ∷ ls

-- links begin with another
abbrev pub begins_with : ℕ → List ℕ → Bool
begins_with n [] = false
begins_with n (l ∷ ls) = nat_eq n l

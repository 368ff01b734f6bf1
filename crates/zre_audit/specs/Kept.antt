-- How links are kept.
use Rattle.std.specs.Prelude.{◌≡◌, ℕ, zero, suc, ◌+◌, ◌<◌, false, List, [], ◌∷◌, ◌++◌, length, map, flat_map, Option}
use Rattle.std.specs.Prelude.{Some, None, option_to_list, bytes_eq, nat_lt, slice_get, slice_index_or}
use Rattle.std.specs.List.{AllByRecursion, filter, fold}
use Rattle.std.specs.Option.{option_map_or, unwrap_or}
use Rattle.zre_values.specs.declared.peer_id.PeerId.{PeerId}
use Rattle.zre_outside.specs.declared.entry.Entry.{Entry}
use Rattle.zre_values.specs.declared.settings.Settings.{Settings as Config}
use Rattle.zre_journal.specs.Chronicle.{Mark}
use Rattle.zre_journal.specs.Links.{bodies}
use Rattle.zre_journal.specs.Peers.{Life, lives, life_of, births}
use Rattle.zre_node.specs.Asked.{sent_after}
use Rattle.zre_audit.specs.Coding.{code}
use Rattle.zre_audit.specs.Exchanged.{peer_on}
use Rattle.zre_audit.specs.declared.put.PutLine.{PutLine}
use Rattle.zre_audit.specs.declared.put.Put.{Put}
use Rattle.zre_audit.specs.declared.put.Count.{Count}

-- the octets of the messages at these places
abbrev pub octets_at : List (List ℕ) → List ℕ → List ℕ
octets_at messages places = flat_map (λ i. slice_index_or messages i []) places

abbrev pub with_place : ℕ → PutLine → PutLine
with_place place x = record { id = x.id; said = x.said ++ place ∷ [] }

abbrev pub with_place_at : ℕ → List PutLine → ℕ → List PutLine
with_place_at place [] i = []
with_place_at place (x ∷ xs) zero = with_place place x ∷ xs
with_place_at place (x ∷ xs) (suc i) = x ∷ with_place_at place xs i

-- the message at a place was put on link l, where links are counted from 1
abbrev pub noted : ℕ → List PutLine → ℕ → List PutLine
noted place xs zero = xs
noted place xs (suc l) = with_place_at place xs l

-- and on all of these
abbrev pub all_noted : ℕ → List PutLine → List ℕ → List PutLine
all_noted place lines links = fold (noted place) lines links

-- the links on which more was put by then
abbrev pub risen : (ℕ → Option ℕ) → List Count → List ℕ
risen sent counts = map (λ (s : Count). s.link)
    (filter (λ (s : Count). option_map_or (nat_lt s.count) (sent s.link) false) counts)

-- a link of a peer that is born
abbrev pub lines_with : List PutLine → Option PeerId → List PutLine
lines_with lines None = lines
lines_with lines (Some p) = lines ++ record { id = p; said = [] } ∷ []

-- what was said on the links of p
abbrev pub lines_of : List (List ℕ) → List PutLine → PeerId → List (List ℕ)
lines_of messages lines p =
    map (λ (x : PutLine). octets_at messages x.said) (filter (λ (x : PutLine). bytes_eq x.id.0 p.0) lines)

-- the known peers on whose links a message may be put: the one that it is to be said to, where it is one, or all
abbrev pub reached : Option PeerId → List Mark → List Life
reached None H = lives H
reached (Some p) H = option_to_list (life_of p H)

-- how many messages were put on a link, as a node answers it
abbrev pub count_on : Config → List Entry → ℕ → Count
count_on g J l = record { link = l; count = unwrap_or (sent_after g J l) 0 }

-- how many messages were put on the links of these peers
abbrev pub counts_of : List Mark → List Life → List Count
counts_of H vs = map (λ (v : Life). record { link = v.link; count = length (bodies v.link H) }) vs

-- a line is that of link l
pub record IsLine (messages : List (List ℕ)) (H : List Mark) (l : ℕ) (x : PutLine) : Type 0 where
  pub of : peer_on l H ≡ Some x.id
  pub said_is : octets_at messages x.said ≡ code (bodies l H)
  pub within : AllByRecursion (λ i. i < length messages) x.said

-- the lines are those of all links that were made, in their order
pub record ArePut (H : List Mark) (messages : List (List ℕ)) (lines : List PutLine) : Type 0 where
  pub count : length lines ≡ births H
  pub lines_are : (i : ℕ) (x : PutLine) → slice_get lines i ≡ Some x → IsLine messages H (i + 1) x

abbrev pub HasPut : List Mark → Put → Type 0
HasPut H put = ArePut H put.messages put.lines.items

-- What peers have told, by their rows.
use Rattle.std.specs.Prelude.{ℕ, Bool, false, List, [], ◌∷◌, Option, None, Some, is_some, option_and_then}
use Rattle.std.specs.Prelude.{if◌then◌else◌}
use Rattle.std.specs.Str.{bytes_eq}
use Rattle.zre_values.specs.declared.peer_id.PeerId.{PeerId}
use Rattle.zre_journal.specs.Commands.{has_group}
use Rattle.zre_peer.specs.Standing.{view_in}
use Rattle.zre_peer.specs.declared.view.View.{View}
use Rattle.zre_tables.specs.declared.peer.Peer.{Peer}
use Rattle.zre_tables.specs.declared.peer.CarriedRun.{CarriedRun}

-- the view of a row
abbrev pub view_of_row : Peer → Option View
view_of_row k = option_and_then (λ (x : CarriedRun). view_in x.run) k.run

-- the view of the first row with this id
abbrev pub view_among : PeerId → List (ℕ × Peer) → Option View
view_among p [] = None
view_among p (e ∷ es) = if bytes_eq p.0 e.1.id.0 then view_of_row e.1 else view_among p es

-- the ids of the rows with a run
abbrev pub ids_entered : List (ℕ × Peer) → List PeerId
ids_entered [] = []
ids_entered (e ∷ es) = if is_some e.1.run then e.1.id ∷ ids_entered es else ids_entered es

-- a view that is shown has the group
abbrev pub lists_group : List ℕ → Option View → Bool
lists_group group None = false
lists_group group (Some v) = has_group group v.groups

-- the peer of this row has told that it is in the group
abbrev pub row_in : List ℕ → Peer → Bool
row_in group k = lists_group group (view_of_row k)

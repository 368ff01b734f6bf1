-- Connections: open, waiting, running or ignored.
use Rattle.std.specs.Prelude.{ℕ, Bool, true, false, not, ◌&&◌, ◌||◌, List, [], ◌∷◌, ◌++◌, Option, Some, None}
use Rattle.std.specs.Prelude.{if◌then◌else◌, nat_eq, nat_lt, is_some, is_none}
use Rattle.std.specs.Option.{option_and_then, option_map_or}
use Rattle.std.specs.List.{list_any, filter, find}
use Rattle.zre_values.specs.declared.peer_id.PeerId.{PeerId}
use Rattle.std.specs.Str.{bytes_eq}
use Rattle.zre_journal.specs.Chronicle.{Mark, Opens, TurnsAway, Identifies, Starts, Ignores, Closes, IsShut}
use Rattle.zre_journal.specs.Chronicle.{ClosesAtStop}
use Rattle.zre_journal.specs.Chronicle.{Ends, latest, ever}
use Rattle.zre_journal.specs.Heard.{clock}

-- the numbers but n
abbrev pub others : ℕ → List ℕ → List ℕ
others n xs = filter (λ x. not (nat_eq n x)) xs

-- the open connections, by rising number: those opened before and not closed since
abbrev pub open_ones : List Mark → List ℕ
open_ones [] = []
open_ones (Opens c ∷ H) = open_ones H ++ c ∷ []
open_ones (Closes c why ∷ H) = others c (open_ones H)
open_ones (IsShut c ∷ H) = others c (open_ones H)
open_ones (ClosesAtStop c ∷ H) = others c (open_ones H)
open_ones (_ ∷ H) = open_ones H

abbrev pub is_open : ℕ → List Mark → Bool
is_open c H = list_any (nat_eq c) (open_ones H)

-- whether c is above all numbers that were opened or turned away
abbrev pub is_new : ℕ → List Mark → Bool
is_new c [] = true
is_new c (Opens d ∷ H) = nat_lt d c && is_new c H
is_new c (TurnsAway d ∷ H) = nat_lt d c && is_new c H
is_new c (_ ∷ H) = is_new c H

abbrev pub identity_at : ℕ → Mark → Option PeerId
identity_at c (Identifies d p) = if nat_eq c d then Some p else None
identity_at c _ = None

-- the identity that came on c
abbrev pub identity : ℕ → List Mark → Option PeerId
identity c H = latest (identity_at c) H

abbrev pub start_at : ℕ → Mark → Option ℕ
start_at c (Starts d l m) = if nat_eq c d then Some l else None
start_at c _ = None

-- the link of the peer whose run c has started
abbrev pub started : ℕ → List Mark → Option ℕ
started c H = latest (start_at c) H

abbrev pub is_end_of : ℕ → Mark → Bool
is_end_of l (Ends k cause) = nat_eq l k
is_end_of l _ = false

abbrev pub has_ended : ℕ → List Mark → Bool
has_ended l H = ever (is_end_of l) H

-- c runs the peer of this link: it started it before, and the peer hasn't ended since
abbrev pub runs : ℕ → List Mark → Option ℕ
runs c H = option_and_then (λ l. if has_ended l H then None else Some l) (started c H)

abbrev pub refuses : ℕ → Mark → Bool
refuses c (Ignores d why) = nat_eq c d
refuses c _ = false

-- c was refused, or has started a run
abbrev pub was_used : ℕ → List Mark → Bool
was_used c H = ever (refuses c) H || is_some (started c H)

-- what comes on it has no effect any more: it was refused, or its peer has ended since it started
abbrev pub is_ignored : ℕ → List Mark → Bool
is_ignored c H = is_none (runs c H) && was_used c H

abbrev pub is_live : ℕ → List Mark → Bool
is_live c H = is_open c H && not (is_ignored c H)

-- c waits for its first message: it is live, and runs no peer
abbrev pub is_waiting : ℕ → List Mark → Bool
is_waiting c H = is_live c H && is_none (runs c H)

-- whether the mark opens c, or makes it ignored; H is what came before
abbrev pub turns : ℕ → List Mark → Mark → Bool
turns c H (Opens d) = nat_eq c d
turns c H (Ignores d why) = nat_eq c d
turns c H (Ends l cause) = option_map_or (nat_eq l) (runs c H) false
turns c H _ = false

-- the clock of its opening or, where ignored, of its becoming so
abbrev pub since : ℕ → List Mark → ℕ
since c [] = 0
since c (h ∷ H) = if turns c H h then clock H else since c H

abbrev pub is_same : PeerId → Option PeerId → Bool
is_same p None = false
is_same p (Some q) = bytes_eq p.0 q.0

-- another open connection with this identity
abbrev pub other_with : PeerId → ℕ → List Mark → Option ℕ
other_with p c H = find (λ d. not (nat_eq c d) && is_same p (identity d H)) (open_ones H)

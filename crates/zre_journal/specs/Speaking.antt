-- What a node has said of itself on its links, message by message.
use Rattle.std.specs.Prelude.{◌≡◌, ℕ, ◌≤◌, true, List, [], ◌∷◌, length, take, nat_le, if◌then◌else◌}
use Rattle.zre_peer.specs.Ledger.{IsNumbered}
use Rattle.zre_peer.specs.Views.{view_of, is_small}
use Rattle.zre_values.specs.declared.settings.Settings.{Settings as Config}
use Rattle.zre_journal.specs.Chronicle.{Mark}
use Rattle.zre_journal.specs.Links.{bodies, queued}
use Rattle.zre_journal.specs.Truth.{own_view}

-- the chronicle H as it was just after the n-th message was put on link l
abbrev pub moment : ℕ → ℕ → List Mark → List Mark
moment l n [] = []
moment l n (h ∷ H) = if nat_le n (length (bodies l H)) then moment l n H else h ∷ H

-- On each link, also those of peers that are gone, HELLO is the first message and no other is, and each has its number;
-- and who reads them up to the n-th has the view of the node that was true as it put that one there, which is within
-- the limits of a view.
pub record SpokeTruly (g : Config) (H : List Mark) : Type 0 where
  pub are_numbered : (l : ℕ) → IsNumbered (queued l H)
  pub was_true : (l n : ℕ) → 1 ≤ n → n ≤ length (queued l H) → view_of (take n (queued l H)) ≡ own_view g (moment l n H)
  pub was_small : (l n : ℕ) → 1 ≤ n → n ≤ length (queued l H) → is_small (own_view g (moment l n H)) ≡ true

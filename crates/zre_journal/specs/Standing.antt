-- Who is known and what is open, as the marks say it: begun, and not ended since.
use Rattle.std.specs.Prelude.{◌≡◌, ℕ, Bool, true, false, List, ◌∷◌, ◌++◌, Some, nat_eq}
use Rattle.zre_values.specs.declared.peer_id.PeerId.{PeerId}
use Rattle.zre_values.specs.declared.endpoint.Endpoint.{Endpoint}
use Rattle.zre_journal.specs.Chronicle.{Mark, Opens, Closes, IsShut, ClosesAtStop, Born, ever}
use Rattle.zre_journal.specs.Connections.{is_open, has_ended}
use Rattle.zre_journal.specs.Peers.{Life, life}

-- the peer p was born on link l with this endpoint, and no end of it stands after that
pub record WasBorn (l : ℕ) (p : PeerId) (to : Endpoint) (H : List Mark) : Type 0 where
  pub later : List Mark
  pub before : List Mark
  pub stands : H ≡ later ++ Born l p to ∷ before
  pub not_ended : has_ended l later ≡ false

-- A peer is known exactly where its birth stands and no end of it after that.
pub record KnownIsBorn (H : List Mark) : Type 0 where
  pub was_born : (l : ℕ) (v : Life) → life l H ≡ Some v → WasBorn l v.id v.endpoint H
  pub is_known : (l : ℕ) (p : PeerId) (to : Endpoint) → WasBorn l p to H
      → life l H ≡ Some (record { link = l; id = p; endpoint = to })

-- whether the mark closes c
abbrev pub closes : ℕ → Mark → Bool
closes c (Closes d why) = nat_eq c d
closes c (IsShut d) = nat_eq c d
closes c (ClosesAtStop d) = nat_eq c d
closes c _ = false

abbrev pub has_closed : ℕ → List Mark → Bool
has_closed c H = ever (closes c) H

-- c was opened, and no closing of it stands after that
pub record WasOpened (c : ℕ) (H : List Mark) : Type 0 where
  pub later : List Mark
  pub before : List Mark
  pub stands : H ≡ later ++ Opens c ∷ before
  pub not_closed : has_closed c later ≡ false

-- A connection is open exactly where its opening stands and no closing of it after that.
pub record OpenIsOpened (H : List Mark) : Type 0 where
  pub was_opened : (c : ℕ) → is_open c H ≡ true → WasOpened c H
  pub stays_open : (c : ℕ) → WasOpened c H → is_open c H ≡ true

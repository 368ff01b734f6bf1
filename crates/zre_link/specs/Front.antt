-- What is told of octets that wait: the first of them.
use Rattle.std.specs.Prelude.{◌≡◌, ◌≢◌, ℕ, ◌<◌, List, [], ◌++◌, length}

-- some of the first of these octets, where there are any
pub record IsFront (whole part : List ℕ) : Type 0 where
  pub rest : List ℕ
  pub begins : whole ≡ part ++ rest
  pub some : whole ≢ [] → part ≢ []

-- there are some
abbrev pub HasOctets : List ℕ → Type 0
HasOctets octets = 0 < length octets

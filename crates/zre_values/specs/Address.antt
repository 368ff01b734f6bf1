-- Addresses in their text.
use Rattle.std.specs.Prelude.{◌≡◌, ℕ, ◌<◌, ◌^◌, List, [], ◌∷◌, length, decimal, All}
use Rattle.std.specs.List.{join_by}

-- the numbers of an address in decimal, with dots between
abbrev pub address_text : List ℕ → List ℕ
address_text addr = join_by decimal (46 ∷ []) addr

-- four octets
pub record IsAddress (addr : List ℕ) : Type 0 where
  pub four : length addr ≡ 4
  pub octets : All (λ n. n < 2 ^ 8) addr

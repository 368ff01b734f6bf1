-- Identities in their plain text.
use Rattle.std.specs.Prelude.{◌≡◌, ℕ, ◌<◌, ◌^◌, ◌==◌, nat_le, ◌&&◌, ◌||◌, Bool, List, length, All}
use Rattle.std.specs.List.{list_all}
use Rattle.zre_values.specs.declared.peer_id.PeerId.{PeerId}

-- the digits `0` to `9` and `A` to `F`
abbrev pub is_upper_digit : ℕ → Bool
is_upper_digit b = (nat_le 48 b && nat_le b 57) || (nat_le 65 b && nat_le b 70)

-- thirty-two such digits
unfoldable pub is_plain_id : List ℕ → Bool
is_plain_id text = (length text == 32) && list_all is_upper_digit text

-- sixteen octets
pub record IsPeerId (id : PeerId) : Type 0 where
  pub sixteen : length id.0 ≡ 16
  pub octets : All (λ b. b < 2 ^ 8) id.0

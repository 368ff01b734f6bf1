-- Numbers drawn from a seed, one after the other.
use Rattle.std.specs.Prelude.{ℕ, zero, suc, ◌+◌, ◌*◌, ◌/◌, ◌%◌, ◌^◌, List, [], ◌++◌}
use Rattle.std.specs.Int.{w32, to_be_bytes}

-- the number to which a draw from x leads
unfoldable pub drawn : ℕ → ℕ
drawn x = (x * 6364136223846793005 + 1442695040888963407) % 2 ^ 64

-- what a draw gives that led to x: its upper half
unfoldable pub upper_half : ℕ → ℕ
upper_half x = x / 2 ^ 32

-- the number to which n draws from x lead
unfoldable pub after_draws : ℕ → ℕ → ℕ
after_draws zero x = x
after_draws (suc n) x = after_draws n (drawn x)

-- what n draws from x give, each in four octets
unfoldable pub octets_drawn : ℕ → ℕ → List ℕ
octets_drawn zero x = []
octets_drawn (suc n) x = to_be_bytes w32 (upper_half (drawn x)) ++ octets_drawn n (drawn x)

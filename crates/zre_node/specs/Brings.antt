-- How many octets an entry brings.
use Rattle.std.specs.Prelude.{ℕ, length}
use Rattle.zre_outside.specs.declared.entry.Input.{Input}
use Rattle.zre_outside.specs.declared.entry.Input.TheVariants as input

-- the octets of a piece or a reply; other entries bring none
abbrev pub octets_of : Input → ℕ
octets_of (input.Piece c o) = length o
octets_of (input.Reply l o) = length o
octets_of _ = 0

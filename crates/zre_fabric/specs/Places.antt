-- Where the share of an address, and that of an endpoint, lies among the 1,024.
use Rattle.std.specs.Prelude.{ℕ, ◌+◌, ◌%◌, List}
use Rattle.std.specs.Int.{w32, from_be_bytes}
use Rattle.zre_values.specs.declared.endpoint.Endpoint.{Endpoint}

-- the place of an address: the last ten bits
abbrev pub place_of : List ℕ → ℕ
place_of addr = from_be_bytes w32 addr % 1024

-- the place of an endpoint: nodes of one host differ in the port alone
abbrev pub place_at : Endpoint → ℕ
place_at to = (from_be_bytes w32 to.addr + to.port) % 1024

-- The settings of a node.
use Rattle.std.specs.Prelude.{◌≡◌, ℕ, ◌<◌, ◌^◌, true, List, length}
use Rattle.zre_values.specs.Address.{IsAddress}
use Rattle.zre_values.specs.Endpoint.{endpoint_text}
use Rattle.zre_values.specs.Settings.{is_valid}
use Rattle.zre_values.specs.declared.settings.Settings.{Settings as Config}

-- where its mailbox is, as its HELLO says it
abbrev pub own_endpoint : Config → List ℕ
own_endpoint g = endpoint_text (record { addr = g.host; port = g.port })

-- a node can be with these settings: they are valid, its id has 16 octets, and it has an address and a port
pub record CanBe (g : Config) : Type 0 where
  pub valid : is_valid g ≡ true
  pub sixteen : length g.id.0 ≡ 16
  pub host_is : IsAddress g.host
  pub port_fits : g.port < 2 ^ 16

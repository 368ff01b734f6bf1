-- Endpoints in their text.
use Rattle.std.specs.Prelude.{ℕ, ◌<◌, ◌^◌, ◌+◌, ◌-◌, ◌*◌, ◌==◌, ◌&&◌, nat_lt, Bool, List, [], ◌∷◌, ◌++◌, length, drop}
use Rattle.std.specs.Prelude.{map, codes, decimal, Option, Some, None, if◌then◌else◌}
use Rattle.std.specs.List.{fold, list_all}
use Rattle.std.specs.Str.{bytes_eq}
use Rattle.zre_values.specs.Address.{address_text, IsAddress}
use Rattle.zre_values.specs.declared.endpoint.Endpoint.{Endpoint}

-- `tcp://`, the address, a colon and the port
abbrev pub endpoint_text : Endpoint → List ℕ
endpoint_text endpoint = codes "tcp://" ++ (address_text endpoint.addr ++ (58 ∷ decimal endpoint.port))

-- four octets, and a port that isn't 0
pub record IsEndpoint (endpoint : Endpoint) : Type 0 where
  pub address : IsAddress endpoint.addr
  pub port_is_some : 0 < endpoint.port
  pub port_fits : endpoint.port < 2 ^ 16

-- ---- the endpoint whose text octets are

-- one more octet before the first field
abbrev pub in_first : ℕ → List (List ℕ) → List (List ℕ)
in_first b [] = (b ∷ []) ∷ []
in_first b (field ∷ fields) = (b ∷ field) ∷ fields

-- what stands between the separators
abbrev pub fields : ℕ → List ℕ → List (List ℕ)
fields separator [] = [] ∷ []
fields separator (b ∷ o) = if b == separator then [] ∷ fields separator o else in_first b (fields separator o)

-- the number that digits spell
abbrev pub number_of : List ℕ → ℕ
number_of digits = fold (λ n d. 10 * n + (d - 48)) 0 digits

-- the numbers of an address and of a port
abbrev pub endpoint_of : List (List ℕ) → Endpoint
endpoint_of (addr ∷ port ∷ more) = record { addr = map number_of (fields 46 addr); port = number_of port }
endpoint_of _ = record { addr = []; port = 0 }

-- four octets, and a port that isn't 0
abbrev pub is_endpoint : Endpoint → Bool
is_endpoint e = length e.addr == 4 && list_all (λ n. nat_lt n 256) e.addr && nat_lt 0 e.port && nat_lt e.port 65536

-- the endpoint, where this is its text
abbrev pub spelled_so : List ℕ → Endpoint → Option Endpoint
spelled_so text e = if is_endpoint e && bytes_eq (endpoint_text e) text then Some e else None

-- the endpoint of a text, if it is the text of one
abbrev pub endpoint_in : List ℕ → Option Endpoint
endpoint_in text = spelled_so text (endpoint_of (fields 58 (drop 6 text)))

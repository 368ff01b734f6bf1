-- The words that set up a node.
use Rattle.std.specs.Prelude.{ℕ, ◌+◌, ◌==◌, ◌&&◌, List, [], ◌∷◌, Option, Some, None, nat_le, nat_lt, take, drop}
use Rattle.std.specs.Prelude.{position, unwrap_or, option_and_then, option_map, codes, if◌then◌else◌}
use Rattle.zre_values.specs.Text.{id_text}
use Rattle.zre_values.specs.declared.peer_id.PeerId.{PeerId}
use Rattle.zre_capture.specs.Values.{number_of, address_of}
use Rattle.zre_values.specs.Settings.{is_valid}
use Rattle.zre_values.specs.declared.settings.Settings.{Settings as Config}
use Rattle.zre_app.specs.Keys.{value_of, values_from, identity}
use Rattle.zre_app.specs.declared.keys.Often.{Often}
use Rattle.zre_app.specs.declared.keys.Often.TheVariants.{Once, AtMostOnce, AnyTimes}
use Rattle.zre_app.specs.declared.node_words.Fixed.{Fixed}

-- the keys: the identity, where the mailbox is, the name, headers, and the milliseconds of silence
abbrev pub node_keys : List (List ℕ × Often)
node_keys =
    (codes "id=", Once) ∷ (codes "host=", Once) ∷ (codes "port=", Once) ∷ (codes "name=", AtMostOnce)
    ∷ (codes "header=", AnyTimes) ∷ (codes "evasive=", AtMostOnce) ∷ (codes "expired=", AtMostOnce) ∷ []

-- a number of a key that may be left out
abbrev pub number_or : ℕ → Option (List ℕ) → Option ℕ
number_or default None = Some default
number_or default (Some text) = number_of text

-- a number between these two
abbrev pub between : ℕ → ℕ → ℕ → Option ℕ
between low high n = if nat_le low n && nat_le n high then Some n else None

-- a number of 16 bits
abbrev pub port_of : List ℕ → Option ℕ
port_of text = option_and_then (λ n. if nat_lt n 65536 then Some n else None) (number_of text)

abbrev pub id_in : List (List ℕ) → Option PeerId
id_in words = option_and_then identity (value_of (codes "id=") words)

abbrev pub host_in : List (List ℕ) → Option (List ℕ)
host_in words = option_and_then address_of (value_of (codes "host=") words)

abbrev pub port_in : List (List ℕ) → Option ℕ
port_in words = option_and_then port_of (value_of (codes "port=") words)

abbrev pub evasive_in : List (List ℕ) → Option ℕ
evasive_in words = number_or 5000 (value_of (codes "evasive=") words)

abbrev pub expired_in : List (List ℕ) → Option ℕ
expired_in words = number_or 30000 (value_of (codes "expired=") words)

-- the settings of fixed size
abbrev pub fixed_in : List (List ℕ) → Option Fixed
fixed_in words =
    option_and_then (λ id. option_and_then (λ host. option_and_then (λ port. option_and_then (λ evasive. option_map
    (λ expired. record { id = id; host = host; port = port; evasive = evasive; expired = expired })
    (expired_in words)) (evasive_in words)) (port_in words)) (host_in words)) (id_in words)

-- the name, or the first six characters of the printed identity
abbrev pub name_in : PeerId → List (List ℕ) → List ℕ
name_in id words = unwrap_or (value_of (codes "name=") words) (take 6 (id_text id))

-- a name and a value, before and after the first `=`
abbrev pub header_of : List ℕ → Option (List ℕ × List ℕ)
header_of text = option_map (λ i. (take i text, drop (i + 1) text)) (position (λ b. b == 61) text)

-- these headers and those of the words, in order; none where one has no `=`
abbrev pub headers_from : List (List ℕ × List ℕ) → List (List ℕ) → Option (List (List ℕ × List ℕ))
headers_from done words = values_from (codes "header=") header_of done words

abbrev pub config_by : Fixed → List ℕ → List (List ℕ × List ℕ) → Config
config_by f name headers = record {
  id = f.id;
  name = name;
  headers = headers;
  host = f.host;
  port = f.port;
  evasive = f.evasive;
  expired = f.expired;
}

-- the settings, where a node can be with them
abbrev pub if_valid : Config → Option Config
if_valid g = if is_valid g then Some g else None

abbrev pub config_in : List (List ℕ) → Option Config
config_in words =
    option_and_then (λ f. option_and_then (λ headers. if_valid (config_by f (name_in f.id words) headers))
    (headers_from [] words)) (fixed_in words)

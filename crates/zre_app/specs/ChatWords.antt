-- The words of `chat`: those of a node, and how it goes on the network.
use Rattle.std.specs.Prelude.{◌≡◌, ◌≤◌, ℕ, true, not, ◌&&◌, ◌==◌, nat_le, List, [], ◌∷◌, ◌++◌, length, Option, Some}
use Rattle.std.specs.Prelude.{None, IfSome, option_and_then, option_map, codes, if◌then◌else◌}
use Rattle.std.specs.Str.{is_utf8}
use Rattle.zre_capture.specs.Values.{address_of}
use Rattle.zre_outside.specs.declared.start.Start.{Start}
use Rattle.zre_values.specs.Settings.{is_valid}
use Rattle.zre_values.specs.declared.settings.Settings.{Settings as Config}
use Rattle.zre_chat.specs.declared.chat.Chat.{Chat}
use Rattle.zre_app.specs.Keys.{are_words_of, value_of, values_from}
use Rattle.zre_app.specs.Names.{after_name}
use Rattle.zre_app.specs.NodeWords.{node_keys, number_or, between, config_in}
use Rattle.zre_app.specs.declared.keys.Often.{Often}
use Rattle.zre_app.specs.declared.keys.Often.TheVariants.{AtMostOnce, AnyTimes}

-- the keys: those of a node, and where beacons are sent to, where they are heard, their port, the milliseconds between
-- them, and the file of a capture
abbrev pub chat_keys : List (List ℕ × Often)
chat_keys =
    node_keys ++ (codes "to=", AnyTimes) ∷ (codes "listen=", AtMostOnce) ∷ (codes "beacon=", AtMostOnce)
    ∷ (codes "interval=", AtMostOnce) ∷ (codes "capture=", AtMostOnce) ∷ []

-- these addresses and those of the words, in order; none where one is no address
abbrev pub addresses_from : List (List ℕ) → List (List ℕ) → Option (List (List ℕ))
addresses_from done words = values_from (codes "to=") address_of done words

-- at most 64 addresses
abbrev pub if_few : List (List ℕ) → Option (List (List ℕ))
if_few addresses = if nat_le (length addresses) 64 then Some addresses else None

abbrev pub to_in : List (List ℕ) → Option (List (List ℕ))
to_in words = option_and_then if_few (addresses_from [] words)

-- an address of a key that may be left out
abbrev pub address_or : List ℕ → Option (List ℕ) → Option (List ℕ)
address_or default None = Some default
address_or default (Some text) = address_of text

abbrev pub listen_in : List (List ℕ) → Option (List ℕ)
listen_in words = address_or (0 ∷ 0 ∷ 0 ∷ 0 ∷ []) (value_of (codes "listen=") words)

abbrev pub beacon_in : List (List ℕ) → Option ℕ
beacon_in words = option_and_then (between 1 65535) (number_or 5670 (value_of (codes "beacon=") words))

abbrev pub interval_in : List (List ℕ) → Option ℕ
interval_in words = option_and_then (between 1 86400000) (number_or 1000 (value_of (codes "interval=") words))

-- how a node with these settings goes on the network
abbrev pub start_in : Config → List (List ℕ) → Option Start
start_in g words =
    option_and_then (λ to. option_and_then (λ listen. option_and_then (λ beacon. option_map
    (λ interval. record {
      host = g.host;
      port = g.port;
      listen = listen;
      beacon_port = beacon;
      to = to;
      interval = interval;
    })
    (interval_in words)) (beacon_in words)) (listen_in words)) (to_in words)

-- the name of a file: text that isn't empty
abbrev pub file_name_of : List ℕ → Option (List ℕ)
file_name_of text = if not (length text == 0) && is_utf8 text then Some text else None

-- the file of a capture, where one is named
abbrev pub capture_of : Option (List ℕ) → Option (Option (List ℕ))
capture_of None = Some None
capture_of (Some text) = option_map Some (file_name_of text)

abbrev pub capture_in : List (List ℕ) → Option (Option (List ℕ))
capture_in words = capture_of (value_of (codes "capture=") words)

abbrev pub chat_in : List (List ℕ) → Option Chat
chat_in words =
    option_and_then (λ g. option_and_then (λ s. option_map
    (λ capture. record { config = g; start = s; capture = capture })
    (capture_in words)) (start_in g words)) (config_in words)

-- a chat by the words after its name
abbrev pub chat_with : List (List ℕ) → Option Chat
chat_with words = if are_words_of chat_keys words then chat_in words else None

-- the chat that the words are; none where they aren't its name and words of its list, or one isn't text
abbrev pub chat_of : List (List ℕ) → Option Chat
chat_of words = option_and_then chat_with (after_name (codes "chat") words)

-- a node can be with the settings and goes on the network where they say, and the file of the capture has a name
pub record CanChat (c : Chat) : Type 0 where
  pub valid : is_valid c.config ≡ true
  pub host : c.start.host ≡ c.config.host
  pub port : c.start.port ≡ c.config.port
  pub few : length c.start.to ≤ 64
  pub beacon : 1 ≤ c.start.beacon_port
  pub interval : 1 ≤ c.start.interval
  pub day : c.start.interval ≤ 86400000
  pub named : IfSome c.capture (λ name. (1 ≤ length name) × (is_utf8 name ≡ true))

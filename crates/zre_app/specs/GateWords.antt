-- The words of `gate`: those of `chat`, how many clients there are, and where they come to.
use Rattle.std.specs.Prelude.{◌≤◌, ℕ, ◌+◌, ◌==◌, Bool, List, [], ◌∷◌, ◌++◌, Option, None, take, drop}
use Rattle.std.specs.Prelude.{position, option_and_then, option_map, codes, if◌then◌else◌}
use Rattle.zre_values.specs.declared.endpoint.Endpoint.{Endpoint}
use Rattle.zre_capture.specs.Values.{address_of, number_of}
use Rattle.zre_chat.specs.declared.chat.Chat.{Chat}
use Rattle.zre_gate.specs.declared.gate.Gate.{Gate}
use Rattle.zre_app.specs.ChatWords.{chat_keys, chat_in, CanChat}
use Rattle.zre_app.specs.Keys.{are_words_of, value_of}
use Rattle.zre_app.specs.Names.{is_named, after_name}
use Rattle.zre_app.specs.NodeWords.{between}
use Rattle.zre_app.specs.declared.keys.Often.{Often}
use Rattle.zre_app.specs.declared.keys.Often.TheVariants.{Once}

-- the keys: those of a chat, the number of clients, and an address and a port
abbrev pub gate_keys : List (List ℕ × Often)
gate_keys = chat_keys ++ (codes "clients=", Once) ∷ (codes "local=", Once) ∷ []

-- a number from 1 to 14
abbrev pub clients_in : List (List ℕ) → Option ℕ
clients_in words = option_and_then (between 1 14) (option_and_then number_of (value_of (codes "clients=") words))

abbrev pub port_of_place : List ℕ → Option ℕ
port_of_place text = option_and_then (between 1 65535) (number_of text)

-- an address before the first `:`, and a port from 1 to 65535 after it
abbrev pub place_of : List ℕ → Option Endpoint
place_of text =
    option_and_then (λ i. option_and_then (λ addr. option_map (λ port. record { addr = addr; port = port })
    (port_of_place (drop (i + 1) text))) (address_of (take i text))) (position (λ b. b == 58) text)

abbrev pub local_in : List (List ℕ) → Option Endpoint
local_in words = option_and_then place_of (value_of (codes "local=") words)

abbrev pub gate_in : List (List ℕ) → Option Gate
gate_in words =
    option_and_then (λ chat. option_and_then (λ local. option_map
    (λ clients. record {
      config = chat.config;
      start = chat.start;
      capture = chat.capture;
      local = local;
      clients = clients;
    })
    (clients_in words)) (local_in words)) (chat_in words)

-- a gate by the words after its name
abbrev pub gate_with : List (List ℕ) → Option Gate
gate_with words = if are_words_of gate_keys words then gate_in words else None

-- the name of the call is `gate`
abbrev pub is_gate : List (List ℕ) → Bool
is_gate words = is_named (codes "gate") words

-- the gate that the words are; none where they aren't its name and words of its list, or one isn't text
abbrev pub gate_of : List (List ℕ) → Option Gate
gate_of words = option_and_then gate_with (after_name (codes "gate") words)

-- the chat of the same node
abbrev pub chat_beside : Gate → Chat
chat_beside g = record { config = g.config; start = g.start; capture = g.capture }

-- such a chat can be, and there are so many clients
pub record CanGate (g : Gate) : Type 0 where
  pub chat : CanChat (chat_beside g)
  pub some : 1 ≤ g.clients
  pub few : g.clients ≤ 14

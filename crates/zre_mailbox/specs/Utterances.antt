-- What a node says on a connection: its greeting, its READY and messages, each as often and in whichever order it may
-- be; and what arrives of it.
use Rattle.std.specs.Prelude.{List, [], ◌∷◌, ◌++◌, Option, Some, None, map, if◌then◌else◌, bytes_eq, ℕ}
use Rattle.std.specs.List.{filter_map}
use Rattle.zre_values.specs.declared.peer_id.PeerId.{PeerId}
use Rattle.zre_zmtp.specs.declared.writing.SocketType.TheVariants as socket
use Rattle.zre_zmtp.specs.Laws.{IsWithinLimits}
use Rattle.zre_zmtp.specs.Written.{own_greeting, ready_frame}
use Rattle.zre_msg.specs.declared.message.Message.{Message}
use Rattle.zre_msg.specs.Spelling.{spell, octets, Means}
use Rattle.zre_mailbox.specs.declared.arrival.Arrival.{Arrival}
use Rattle.zre_mailbox.specs.declared.arrival.Arrival.TheVariants as arrival

pub data Utterance : Type 0 where
  Greeting : Utterance
  Ready : Utterance
  Says : (m : Message) → Utterance

-- the octets of an utterance of the node with this identity
abbrev pub octets_by : PeerId → Utterance → List ℕ
octets_by id Greeting = own_greeting
octets_by id Ready = ready_frame socket.Dealer (Some id)
octets_by id (Says m) = octets m

-- the octets of all utterances of the node, in their order
abbrev pub stream : PeerId → List Utterance → List ℕ
stream id [] = []
stream id (u ∷ us) = octets_by id u ++ stream id us

abbrev pub said_by : Utterance → Option Message
said_by (Says m) = Some m
said_by _ = None

-- the messages among what is said
abbrev pub messages : List Utterance → List Message
messages us = filter_map said_by us

-- a message that its frames mean, and that passes no limit
pub record IsReadable (m : Message) : Type 0 where
  pub means : Means (spell m) m
  pub within : IsWithinLimits (spell m)

abbrev pub IsHearable : Utterance → Type 0
IsHearable (Says m) = IsReadable m
IsHearable _ = Unit {0}

-- what is said before a further greeting, which is a fault
abbrev pub up_to_greeting : List Utterance → List Utterance
up_to_greeting [] = []
up_to_greeting (Greeting ∷ us) = []
up_to_greeting (u ∷ us) = u ∷ up_to_greeting us

-- What arrives after the greeting, where own is the identity of the reader: READY is next, and is that of another. Each
-- message after it arrives, and a further READY is skipped. All else is a fault, after which nothing arrives.
abbrev pub heard_after : PeerId → PeerId → List Utterance → List Arrival
heard_after own id (Ready ∷ us) =
    if bytes_eq id.0 own.0 then []
    else arrival.Shaken id ∷ map (λ m. arrival.Message m) (messages (up_to_greeting us))
heard_after own id _ = []

-- What arrives from the beginning of the stream on: the greeting is first.
abbrev pub heard : PeerId → PeerId → List Utterance → List Arrival
heard own id (Greeting ∷ us) = arrival.Greeted ∷ heard_after own id us
heard own id _ = []

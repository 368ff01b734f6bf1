-- Streams that this node writes, as they are read.
use Rattle.std.specs.Prelude.{◌≡◌, ◌≢◌, ℕ, ◌≤◌, List, [], ◌∷◌, ◌++◌, length, Option, Some, None, option_map, sum_by}
use Rattle.zre_values.specs.declared.limits.TheConstants.{MESSAGE_OCTETS, MESSAGE_FRAMES}
use Rattle.zre_values.specs.declared.peer_id.PeerId.{PeerId}
use Rattle.zre_values.specs.Framing.{frames}
use Rattle.zre_zmtp.specs.declared.item.Item.{Item}
use Rattle.zre_zmtp.specs.declared.writing.SocketType.{SocketType}
use Rattle.zre_zmtp.specs.declared.writing.SocketType.TheVariants as socket
use Rattle.zre_zmtp.specs.declared.expected.Expected.TheVariants as expect
use Rattle.zre_zmtp.specs.declared.item.What.TheVariants.{Greeting, Ready, Message}
use Rattle.zre_zmtp.specs.Stream.{Want, Any, Router, Dealer, Kind, Whole, expected, split, items, fault, IsAtRest}
use Rattle.zre_zmtp.specs.Written.{own_greeting, socket_name, ready_body, ready_frame}

-- READY came, or none is expected; nothing is wrong in o, and nothing unfinished: what comes next is a message or a
-- command.
pub record AwaitsMessage (want : Want) (kind : Kind) (o : List ℕ) : Type 0 where
  pub at_rest : IsAtRest want kind o
  pub faultless : fault want kind o ≡ None
  pub in_traffic : expected kind (split want kind o).0 ≡ expect.Traffic

-- a message of at least one frame that passes no limit
pub record IsWithinLimits (message : List (List ℕ)) : Type 0 where
  pub some : 1 ≤ length message
  pub frames : length message ≤ MESSAGE_FRAMES
  pub octets : sum_by length message ≤ MESSAGE_OCTETS

-- The frames of the message after o are read as the message, and the next one is awaited.
pub record ReadsMessage (want : Want) (kind : Kind) (o : List ℕ) (message : List (List ℕ)) : Type 0 where
  pub read : items want kind (o ++ frames message) ≡ items want kind o
      ++ record { start = length o; end = length (o ++ frames message); what = Message message } ∷ []
  pub awaits : AwaitsMessage want kind (o ++ frames message)

-- the identity of another than this peer
abbrev pub IsOther : PeerId → Option PeerId → Type 0
IsOther own None = ⊥
IsOther own (Some id) = id.0 ≢ own.0

-- READY with this type and this identity is the one that is wanted
abbrev pub IsWanted : Want → SocketType → Option PeerId → Type 0
IsWanted Any kind identity = Unit {0}
IsWanted Router kind identity = kind ≡ socket.Router
IsWanted (Dealer own) kind identity = (kind ≡ socket.Dealer) × IsOther own identity

-- the greeting and READY that a node sends
abbrev pub handshake : SocketType → Option PeerId → List ℕ
handshake kind identity = own_greeting ++ ready_frame kind identity

-- the greeting as an item
abbrev pub greeting_item : Item
greeting_item = record { start = 0; end = 64; what = Greeting 3 1 }

-- READY as an item after the greeting
abbrev pub ready_item : SocketType → Option PeerId → Item
ready_item kind identity = record {
  start = 64;
  end = length (handshake kind identity);
  what = Ready (length (ready_body kind identity)) (Some (socket_name kind)) (option_map (λ id. 1 ∷ id.0) identity);
}

-- They are read as what they say, and the first message is awaited.
pub record ReadsHandshake (want : Want) (kind : SocketType) (identity : Option PeerId) : Type 0 where
  pub read : items want Whole (handshake kind identity) ≡ greeting_item ∷ ready_item kind identity ∷ []
  pub awaits : AwaitsMessage want Whole (handshake kind identity)

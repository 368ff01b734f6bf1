-- What a node says on a link: its line, a list of members.
use Rattle.std.specs.Prelude.{ℕ, ◌+◌, ◌%◌, ◌^◌, List, [], ◌∷◌, ◌++◌, Some, length}
use Rattle.zre_values.specs.declared.peer_id.PeerId.{PeerId}
use Rattle.zre_zmtp.specs.declared.writing.SocketType.TheVariants as socket
use Rattle.zre_zmtp.specs.Laws.{handshake}
use Rattle.zre_zmtp.specs.Written.{pong_frame}
use Rattle.zre_msg.specs.declared.message.Body.{Body}
use Rattle.zre_msg.specs.declared.message.Message.{Message}
use Rattle.zre_msg.specs.Spelling.{octets}

-- a member: the message with this body, or the PONG with this context (RFC 37, heartbeats)
pub data Member : Type 0 where
  Says : Body → Member
  Pongs : List ℕ → Member

-- the bodies of the messages among members, in their order
abbrev pub bodies_in : List Member → List Body
bodies_in [] = []
bodies_in (Says b ∷ ms) = b ∷ bodies_in ms
bodies_in (Pongs t ∷ ms) = bodies_in ms

-- messages with these bodies, numbered from n on; message i carries i modulo 65536
abbrev pub numbered_from : ℕ → List Body → List Message
numbered_from n [] = []
numbered_from n (b ∷ bs) = record { sequence = n % 2 ^ 16; body = b } ∷ numbered_from (n + 1) bs

-- the octets of members, where the messages among them are numbered from n on: a PONG takes no number
abbrev pub octets_from : ℕ → List Member → List ℕ
octets_from n [] = []
octets_from n (Says b ∷ ms) = octets (record { sequence = n % 2 ^ 16; body = b }) ++ octets_from (n + 1) ms
octets_from n (Pongs t ∷ ms) = pong_frame t ++ octets_from n ms

-- the octets of a link of this node with this line: the greeting, READY, and its members
abbrev pub text_of : PeerId → List Member → List ℕ
text_of own line = handshake socket.Dealer (Some own) ++ octets_from 1 line

-- the message in which a further body goes out
abbrev pub next_message : List Member → Body → Message
next_message line b = record { sequence = (length (bodies_in line) + 1) % 2 ^ 16; body = b }

-- how many octets a further body takes
abbrev pub size_of : List Member → Body → ℕ
size_of line b = length (octets (next_message line b))

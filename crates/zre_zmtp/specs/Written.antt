-- What this node writes of a stream besides messages: its greeting and READY (RFC 23, greeting and the NULL mechanism),
-- and PONG (RFC 37, heartbeats).
use Rattle.std.specs.Prelude.{ℕ, List, [], ◌∷◌, ◌++◌, length, replicate, Option, Some, None, codes}
use Rattle.std.specs.Int.{w32, to_be_bytes}
use Rattle.zre_values.specs.declared.peer_id.PeerId.{PeerId}
use Rattle.zre_values.specs.Framing.{frame}
use Rattle.zre_zmtp.specs.declared.writing.SocketType.{SocketType}
use Rattle.zre_zmtp.specs.declared.writing.SocketType.TheVariants as socket
use Rattle.zre_zmtp.specs.Stream.{mechanism}

-- the greeting of version 3.1 with the NULL mechanism, and zeros where any octets may stand
abbrev pub own_greeting : List ℕ
own_greeting = ((255 ∷ replicate 8 0) ++ (127 ∷ 3 ∷ 1 ∷ mechanism)) ++ replicate 32 0

-- the name of a socket type
abbrev pub socket_name : SocketType → List ℕ
socket_name socket.Dealer = codes "DEALER"
socket_name socket.Router = codes "ROUTER"

-- a property: an octet of length and the name, four octets of length and the value
abbrev pub property_octets : List ℕ → List ℕ → List ℕ
property_octets name value = (length name ∷ name) ++ (to_be_bytes w32 (length value) ++ value)

-- the identity of a peer as a property, 01 and its UUID, where one is given
abbrev pub identity_octets : Option PeerId → List ℕ
identity_octets None = []
identity_octets (Some id) = property_octets (codes "Identity") (1 ∷ id.0)

-- the body of READY with a socket type and an identity
abbrev pub ready_body : SocketType → Option PeerId → List ℕ
ready_body kind identity =
    ((5 ∷ codes "READY") ++ property_octets (codes "Socket-Type") (socket_name kind)) ++ identity_octets identity

-- READY as a command frame
abbrev pub ready_frame : SocketType → Option PeerId → List ℕ
ready_frame kind identity = frame 4 (ready_body kind identity)

-- PONG with a context as a command frame
abbrev pub pong_frame : List ℕ → List ℕ
pong_frame context = frame 4 ((4 ∷ codes "PONG") ++ context)

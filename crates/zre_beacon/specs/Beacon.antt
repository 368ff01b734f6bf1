-- The beacon of RFC 36, version 1.
use Rattle.std.specs.Prelude.{◌≡◌, ℕ, ◌<◌, ◌^◌, ◌==◌, ◌&&◌, List, [], ◌∷◌, ◌++◌, length, take, drop, Option, Some, None}
use Rattle.std.specs.Prelude.{if◌then◌else◌}
use Rattle.std.specs.Int.{w16, from_be_bytes, to_be_bytes}
use Rattle.std.specs.Str.{bytes_eq}
use Rattle.zre_values.specs.declared.peer_id.PeerId.{PeerId}

-- `ZRE` and the version
abbrev pub beacon_head : List ℕ
beacon_head = 0x5a ∷ 0x52 ∷ 0x45 ∷ 0x01 ∷ []

-- the octets that announce this node at this port: `ZRE`, the version, the sixteen octets of the identity, the port
abbrev pub beacon_octets : PeerId → ℕ → List ℕ
beacon_octets id port = beacon_head ++ (id.0 ++ to_be_bytes w16 port)

-- the 22 octets of a beacon of this node and port
pub record IsBeacon (octets : List ℕ) (id : PeerId) (port : ℕ) : Type 0 where
  pub spelled : octets ≡ beacon_octets id port
  pub identity : length id.0 ≡ 16
  pub number : port < 2 ^ 16

-- the node and the port that a datagram announces, if it is a beacon
abbrev pub beacon_in : List ℕ → Option (PeerId × ℕ)
beacon_in o =
    if length o == 22 && bytes_eq (take 4 o) beacon_head
    then Some (record { 0 = take 16 (drop 4 o) }, from_be_bytes w16 (drop 20 o)) else None

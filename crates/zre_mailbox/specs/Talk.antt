-- What an incoming connection says, read off all of its octets: its greeting, READY, its PINGs and the messages of ZRE
-- in the order of their ends, and its fault.
use Rattle.std.specs.Prelude.{◌≡◌, ◌≢◌, ◌⊎◌, ℕ, Bool, true, false, ◌==◌, ◌&&◌, if◌then◌else◌, List, [], ◌∷◌, ◌++◌}
use Rattle.std.specs.Prelude.{length, drop, map, slice_index, Option, Some, None, option_map, option_and_then}
use Rattle.std.specs.Prelude.{option_to_list}
use Rattle.std.specs.Result.{result_ok}
use Rattle.std.specs.List.{filter_map, list_any, AllByRecursion}
use Rattle.zre_values.specs.declared.peer_id.PeerId.{PeerId}
use Rattle.zre_zmtp.specs.Stream.{Whole, items, fault}
use Rattle.zre_zmtp.specs.declared.want.Want.TheVariants.{Dealer}
use Rattle.zre_zmtp.specs.declared.item.Item.{Item}
use Rattle.zre_zmtp.specs.declared.item.What.{What}
use Rattle.zre_zmtp.specs.declared.item.What.TheVariants as says
use Rattle.zre_zmtp.specs.declared.fault.ZmtpFault.{ZmtpFault}
use Rattle.zre_zmtp.specs.Ping.{context_of}
use Rattle.zre_zmtp.specs.Ready.{rest}
use Rattle.zre_msg.specs.Reading.{read_frames}
use Rattle.zre_mailbox.specs.declared.arrival.Arrival.{Arrival}
use Rattle.zre_mailbox.specs.declared.arrival.Arrival.TheVariants.{Greeted, Shaken, Ping, Message}

-- the peer with that identity, which is 01 and a UUID (RFC 36)
abbrev pub peer_of : List ℕ → Option PeerId
peer_of identity =
    if length identity == 17 && slice_index identity 0 == 1 then Some (record { 0 = drop 1 identity }) else None

-- what arrives with an item: of commands only PING arrives, and messages outside the grammar don't
abbrev pub arrival_of : What → Option Arrival
arrival_of (says.Greeting major minor) = Some Greeted
arrival_of (says.Ready size socket identity) = option_map (λ p. Shaken p) (option_and_then peer_of identity)
arrival_of (says.Command size name body) = option_map (λ t. Ping t) (context_of name (rest body))
arrival_of (says.Message frames) = option_map (λ m. Message m) (result_ok (read_frames frames))

-- what arrives with items, in their order
abbrev pub arrivals_in : List Item → List Arrival
arrivals_in items = filter_map (λ item. arrival_of item.what) items

-- all that arrives, in order: the stream is that of a DEALER whose identity isn't one's own
abbrev pub arrivals : PeerId → List ℕ → List Arrival
arrivals own o = arrivals_in (items (Dealer own) Whole o)

-- the first fault of the stream: one of RFC 23, or READY of another
abbrev pub fault_in : PeerId → List ℕ → Option ZmtpFault
fault_in own o = fault (Dealer own) Whole o

-- what a connection says
pub data Said : Type 0 where
  Arrived : Arrival → Said
  Fault : ZmtpFault → Said

-- a fault, where there is one
abbrev pub fault_said : Option ZmtpFault → List Said
fault_said f = option_to_list (option_map (λ x. Fault x) f)

-- all that the octets o say, in order: the arrivals, and last the fault
abbrev pub talk : PeerId → List ℕ → List Said
talk own o = map (λ a. Arrived a) (arrivals own o) ++ fault_said (fault_in own o)

-- what more octets complete of all that is said
abbrev pub completed : PeerId → List ℕ → List ℕ → List Said
completed own o more = drop (length (talk own o)) (talk own (o ++ more))

-- what arrives with more octets
abbrev pub new_arrivals : PeerId → List ℕ → List ℕ → List Arrival
new_arrivals own o more = drop (length (arrivals own o)) (arrivals own (o ++ more))

-- What was said stays, and more may come after it, up to a fault.
pub record Goes (own : PeerId) (o more : List ℕ) : Type 0 where
  pub said : talk own (o ++ more) ≡ talk own o ++ completed own o more
  pub arrived : arrivals own (o ++ more) ≡ arrivals own o ++ new_arrivals own o more
  pub faultless : fault_in own o ≡ None → completed own o more ≡ map (λ a. Arrived a) (new_arrivals own o more)
      ++ fault_said (fault_in own (o ++ more))
  pub over : (f : ZmtpFault) → fault_in own o ≡ Some f → (talk own (o ++ more) ≡ talk own o)
      × (completed own o more ≡ [])

-- a PING or a message
abbrev pub is_traffic : Arrival → Bool
is_traffic Greeted = false
is_traffic (Shaken peer) = false
is_traffic (Ping context) = true
is_traffic (Message m) = true

abbrev pub AreTraffic : List Arrival → Type 0
AreTraffic came = AllByRecursion (λ a. is_traffic a ≡ true) came

-- The greeting came, then READY of one peer, which isn't the node itself, and then PINGs and messages.
pub record Introduced (own : PeerId) (came : List Arrival) : Type 0 where
  pub peer : PeerId
  pub traffic : List Arrival
  pub other : peer.0 ≢ own.0
  pub sixteen : length peer.0 ≡ 16
  pub are_traffic : AreTraffic traffic
  pub is : came ≡ Greeted ∷ Shaken peer ∷ traffic

-- Nothing came, or the greeting alone, or all of that.
abbrev pub IsInOrder : PeerId → List Arrival → Type 0
IsInOrder own came = (came ≡ []) ⊎ ((came ≡ Greeted ∷ []) ⊎ Introduced own came)

-- READY
abbrev pub is_ready : What → Bool
is_ready (says.Greeting major minor) = false
is_ready (says.Ready size socket identity) = true
is_ready (says.Command size name body) = false
is_ready (says.Message frames) = false

-- READY is whole, and passes.
abbrev pub has_ready : PeerId → List ℕ → Bool
has_ready own o = list_any (λ item. is_ready item.what) (items (Dealer own) Whole o)

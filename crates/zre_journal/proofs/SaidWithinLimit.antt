-- What is said on a connection: no message passes the limit, and no peer is the node itself.
use Rattle.std.proofs.Common.{◌≡◌, ℕ, ◌≤◌, List, [], ◌∷◌, length, map, Option, Some, None, Ok, Err, Result, refl, subst, arith, option_map, ◌≢◌, Bool, true, false, true≢false, sym, inl, inr}
use Rattle.std.specs.Prelude.{option_and_then}
use Rattle.std.specs.Result.{result_ok}
use Rattle.std.specs.List.{AllByRecursion, cons_option}
use Rattle.std.proofs.lemmas.Slice.Eq.{bytes_eq-Decides}
use Rattle.std.specs.Str.{bytes_eq}
use Rattle.zre_values.specs.declared.limits.TheConstants.{MESSAGE_OCTETS}
use Rattle.zre_values.specs.declared.peer_id.PeerId.{PeerId}
use Rattle.zre_zmtp.specs.declared.item.Item.{Item}
use Rattle.zre_zmtp.specs.declared.item.What.{What}
use Rattle.zre_zmtp.specs.declared.fault.ZmtpFault.{ZmtpFault}
use Rattle.zre_zmtp.specs.declared.want.Want.TheVariants.{Dealer}
use Rattle.zre_zmtp.specs.Ping.{context_of}
use Rattle.zre_zmtp.specs.Ready.{rest}
use Rattle.zre_zmtp.specs.Stream.{Whole, items}
use Rattle.zre_msg.specs.declared.message.Bad.{Bad}
use Rattle.zre_msg.specs.declared.message.Message.{Message}
use Rattle.zre_msg.specs.Reading.{read_frames}
use Rattle.zre_mailbox.specs.declared.arrival.Arrival.{Arrival}
use Rattle.zre_mailbox.specs.Talk.{Said, Arrived, Fault, peer_of, arrival_of, arrivals_in, arrivals, fault_in, fault_said, talk, AreTraffic, IsInOrder}
use Rattle.zre_journal.specs.Chronicle.{Mark}
use Rattle.zre_journal.specs.Heard.{bytes, newly_completed}
use Rattle.zre_mailbox.proofs.ArrivalsInOrder.{in_order}
use Rattle.zre_journal.specs.Connections.{identity}
use Rattle.zre_zmtp.specs.declared.item.What.TheVariants as says
use Rattle.zre_mailbox.specs.declared.arrival.Arrival.TheVariants as arrival
use Rattle.zre_journal.proofs.HelloOctets.{hello_octets, frames-short}
use Rattle.zre_journal.proofs.NumberedLists.{All-join, All-drop}
use Rattle.zre_journal.proofs.UnfinishedStreams.{IsWithin, AreWithin, items-within}

-- ---- messages

-- no HELLO, or one whose name, endpoint and headers are within the limit of a message
abbrev pub IsShortArrival : Arrival → Type 0
IsShortArrival arrival.Greeted = Unit {0}
IsShortArrival (arrival.Shaken p) = Unit {0}
IsShortArrival (arrival.Ping t) = Unit {0}
IsShortArrival (arrival.Message m) = hello_octets m.body ≤ MESSAGE_OCTETS

is_ready_said : (o : Option PeerId) (a : Arrival) → option_map (λ p. arrival.Shaken p) o ≡ Some a → IsShortArrival a
is_ready_said None a e = absurd cc
is_ready_said (Some p) a e = let same : arrival.Shaken p ≡ a = cc in subst IsShortArrival same tt

is_ping : (o : Option (List ℕ)) (a : Arrival) → option_map (λ t. arrival.Ping t) o ≡ Some a → IsShortArrival a
is_ping None a e = absurd cc
is_ping (Some t) a e = let same : arrival.Ping t ≡ a = cc in subst IsShortArrival same tt

arrival_short : (w : What) → IsWithin w → (a : Arrival) → arrival_of w ≡ Some a → IsShortArrival a
arrival_short (says.Greeting major minor) h a e = let same : arrival.Greeted ≡ a = cc in subst IsShortArrival same tt
arrival_short (says.Ready size socket identity) h a e = is_ready_said (option_and_then peer_of identity) a e
arrival_short (says.Command size name body) h a e = is_ping (context_of name (rest body)) a e
arrival_short (says.Message frames) h a e = by (read_frames frames) refl e
  where
    by : (r : Result Message Bad) → read_frames frames ≡ r → option_map (λ m. arrival.Message m) (result_ok r) ≡ Some a → IsShortArrival a
    by (Ok m) q z = let same : arrival.Message m ≡ a = cc in subst IsShortArrival same (omega (arith, h, frames-short frames m q))
    by (Err b) q z = absurd cc

arrivals_short : (is : List Item) → AreWithin is → AllByRecursion IsShortArrival (arrivals_in is)
arrivals_short [] h = tt
arrivals_short (i ∷ is) h = by (arrivals_short is h.1) (arrival_of i.what) (arrival_short i.what h.0)
  where
    by : AllByRecursion IsShortArrival (arrivals_in is) → (o : Option Arrival) → ((a : Arrival) → o ≡ Some a → IsShortArrival a) → AllByRecursion IsShortArrival (cons_option o (arrivals_in is))
    by r None f = r
    by r (Some a) f = (f a refl, r)

-- ---- who is introduced

abbrev pub IsOtherArrival : PeerId → Arrival → Type 0
IsOtherArrival own arrival.Greeted = Unit {0}
IsOtherArrival own (arrival.Shaken p) = bytes_eq p.0 own.0 ≡ false
IsOtherArrival own (arrival.Ping t) = Unit {0}
IsOtherArrival own (arrival.Message m) = Unit {0}

unlike : (xs ys : List ℕ) → xs ≢ ys → bytes_eq xs ys ≡ false
unlike xs ys ne = by (bytes_eq xs ys) refl
  where
    by : (b : Bool) → bytes_eq xs ys ≡ b → b ≡ false
    by false e = refl
    by true e = absurd (ne ((bytes_eq-Decides xs ys).0 e))

traffic_other : (own : PeerId) (as_ : List Arrival) → AreTraffic as_ → AllByRecursion (IsOtherArrival own) as_
traffic_other own [] t = tt
traffic_other own (arrival.Greeted ∷ as_) t = absurd (true≢false (sym t.0))
traffic_other own (arrival.Shaken p ∷ as_) t = absurd (true≢false (sym t.0))
traffic_other own (arrival.Ping c ∷ as_) t = (tt, traffic_other own as_ t.1)
traffic_other own (arrival.Message m ∷ as_) t = (tt, traffic_other own as_ t.1)

arrivals_other : (own : PeerId) (as_ : List Arrival) → IsInOrder own as_ → AllByRecursion (IsOtherArrival own) as_
arrivals_other own as_ o =
    elim o [
      | inl e ↦ rw e tt
      | inr r ↦ elim r [
        | inl e ↦ rw e (tt, tt)
        | inr i ↦ rw i.is (tt, (unlike i.peer.0 own.0 i.other, traffic_other own i.traffic i.are_traffic))
      ]
    ]

-- ---- both

abbrev pub MaySay : PeerId → Said → Type 0
MaySay own (Arrived a) = IsShortArrival a × IsOtherArrival own a
MaySay own (Fault f) = Unit {0}

said_fine : (own : PeerId) (as_ : List Arrival) → AllByRecursion IsShortArrival as_ → AllByRecursion (IsOtherArrival own) as_ → AllByRecursion (MaySay own) (map (λ a. Arrived a) as_)
said_fine own [] h k = tt
said_fine own (a ∷ as_) h k = ((h.0, k.0), said_fine own as_ h.1 k.1)

fault_fine : (own : PeerId) (f : Option ZmtpFault) → AllByRecursion (MaySay own) (fault_said f)
fault_fine own None = tt
fault_fine own (Some f) = (tt, tt)

talk_fine : (own : PeerId) (o : List ℕ) → AllByRecursion (MaySay own) (talk own o)
talk_fine own o =
    All-join (MaySay own) (map (λ a. Arrived a) (arrivals own o)) (fault_said (fault_in own o))
    (said_fine own (arrivals own o) (arrivals_short (items (Dealer own) Whole o) (items-within (Dealer own) Whole o)) (arrivals_other own (arrivals own o) (in_order own o)))
    (fault_fine own (fault_in own o))

pub newly_fine : (own : PeerId) (c : ℕ) (H K : List Mark) → AllByRecursion (MaySay own) (newly_completed own c H K)
newly_fine own c H K = All-drop (MaySay own) (length (talk own (bytes c H))) (talk own (bytes c K)) (talk_fine own (bytes c K))

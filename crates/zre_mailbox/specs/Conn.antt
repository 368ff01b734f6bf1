-- What an incoming connection keeps, as a function of the octets that it was fed.
use Rattle.std.specs.Prelude.{◌≡◌, ℕ, Bool, true, false, List, [], ◌∷◌, ◌++◌, Option, Some, None, map, Result, OnOk}
use Rattle.std.specs.Prelude.{IfErr, option_to_list}
use Rattle.std.specs.Option.{option_or}
use Rattle.zre_values.specs.declared.peer_id.PeerId.{PeerId}
use Rattle.zre_zmtp.specs.Stream.{Kind, Whole, before, split}
use Rattle.zre_zmtp.specs.declared.want.Want.{Want}
use Rattle.zre_zmtp.specs.Reading.{Reading, Adds, Refuses, kept}
use Rattle.zre_zmtp.specs.declared.want.Want.TheVariants.{Dealer}
use Rattle.zre_zmtp.specs.declared.fault.ZmtpFault.{ZmtpFault}
use Rattle.zre_zmtp.specs.declared.fault.FeedFault.{FeedFault}
use Rattle.zre_zmtp.specs.declared.item.Item.{Item}
use Rattle.zre_zmtp.specs.declared.item.What.TheVariants as says
use Rattle.zre_zmtp.specs.declared.bodies.Came.{Came}
use Rattle.zre_zmtp.specs.declared.bodies.Came.TheVariants as came
use Rattle.zre_zmtp.specs.Lending.{bodies_in}
use Rattle.zre_mailbox.specs.declared.arrival.Arrival.{Arrival}
use Rattle.zre_mailbox.specs.declared.arrival.Arrival.TheVariants.{Greeted, Shaken, Ping, Message}
use Rattle.zre_mailbox.specs.declared.phase.Phase.{Phase}
use Rattle.zre_mailbox.specs.declared.phase.Phase.TheVariants.{Live, Spent, Ignored}
use Rattle.zre_mailbox.specs.Talk.{Arrived, arrival_of, arrivals, arrivals_in}
use Rattle.zre_mailbox.specs.Talk.{fault_in, fault_said, new_arrivals, completed}

-- ---- whom READY introduced

-- the peer that an arrival introduces
abbrev pub introduced : Arrival → Option PeerId
introduced Greeted = None
introduced (Shaken peer) = Some peer
introduced (Ping context) = None
introduced (Message m) = None

-- the first peer that arrivals introduce
abbrev pub identity_in : List Arrival → Option PeerId
identity_in [] = None
identity_in (a ∷ rest) = option_or (introduced a) (identity_in rest)

-- ---- what contracts see of a connection

-- what it does with octets, and whom READY introduced
pub record ConnHearing : Type 0 where
  pub phase : Phase
  pub identity : Option PeerId

-- what a reader holds after octets without a fault
abbrev pub reading : Want → Kind → List ℕ → Reading
reading want kind o =
    record { before = before kind (split want kind o).0; left = (split want kind o).1; spent = false; wanted = want }

-- a fault ends the reading
abbrev pub phase_by : Option ZmtpFault → Reading → Phase
phase_by None r = Live r
phase_by (Some f) r = Spent

-- the connection after the octets o, which came in whichever pieces
abbrev pub conn_after : PeerId → List ℕ → ConnHearing
conn_after own o =
    record { phase = phase_by (fault_in own o) (reading (Dealer own) Whole o); identity = identity_in (arrivals own o) }

-- the same connection, ignored from now on
abbrev pub ignoring : ConnHearing → ConnHearing
ignoring h = record { phase = Ignored; identity = h.identity }

-- it is ignored, by its phase
abbrev pub is_ignored_in : Phase → Bool
is_ignored_in (Live r) = false
is_ignored_in Spent = false
is_ignored_in Ignored = true

-- it is ignored
abbrev pub is_ignored : ConnHearing → Bool
is_ignored h = is_ignored_in h.phase

-- a piece was refused, by its phase
abbrev pub is_spent_in : Phase → Bool
is_spent_in (Live r) = r.spent
is_spent_in Spent = true
is_spent_in Ignored = false

-- a piece was refused
abbrev pub is_spent : ConnHearing → Bool
is_spent h = is_spent_in h.phase

-- how many octets are held, by its phase
abbrev pub held_in : Phase → ℕ
held_in (Live r) = kept r
held_in Spent = 0
held_in Ignored = 0

-- how many octets are held
abbrev pub held_of : ConnHearing → ℕ
held_of h = held_in h.phase

-- ---- what a piece does

-- After the octets o a piece was read: the items that become whole with it were appended, and whom they introduce is
-- known, unless somebody was before.
pub record Brings (own : PeerId) (o piece : List ℕ) (known known' : Option PeerId) (out out' : List Item) : Type 0 where
  pub added : Adds (Dealer own) Whole o piece out out'
  pub identity : known' ≡ option_or known (identity_in (arrivals_in out'))

-- After the octets o a piece was read: what it completes of all that is said is what was appended, and the fault,
-- where there is one.
pub record Hears (own : PeerId) (o piece : List ℕ) (now : ConnHearing) (out out' : List Arrival) : Type 0 where
  pub now_is : now ≡ conn_after own (o ++ piece)
  pub appended : out' ≡ out ++ new_arrivals own o piece
  pub arrived : arrivals own (o ++ piece) ≡ arrivals own o ++ new_arrivals own o piece
  pub completes : completed own o piece ≡ map (λ a. Arrived a) (new_arrivals own o piece)
      ++ fault_said (fault_in own (o ++ piece))

-- The piece was read, whatever the connection was before, and has no fault.
abbrev pub HearsOn : Result (Unit {0}) FeedFault → ConnHearing → ConnHearing → List ℕ → List Arrival → List Arrival
    → Type 0
HearsOn result was now piece out out' =
    (own : PeerId) (o : List ℕ) → was ≡ conn_after own o →
    OnOk result ((fault_in own (o ++ piece) ≡ None) × Hears own o piece now out out')

-- The piece was refused: the refusal names the fault that is there, and what comes before it arrived.
abbrev pub RefusesToHear : Result (Unit {0}) FeedFault → ConnHearing → ConnHearing → List ℕ → List Arrival
    → List Arrival → Type 0
RefusesToHear result was now piece out out' =
    (own : PeerId) (o : List ℕ) → was ≡ conn_after own o →
    IfErr result (λ e. Refuses e (fault_in own (o ++ piece)) (Hears own o piece now out out'))

-- ---- a piece that is taken where it lies

-- what arrives with a piece that is taken
abbrev pub lent_arrivals : Came → List Arrival
lent_arrivals (came.Message l) = option_to_list (arrival_of (says.Message (bodies_in l)))
lent_arrivals came.Part = []
lent_arrivals came.Other = []

-- After the octets o the piece was read, and has no fault; or nothing changed.
abbrev pub HearsLent : Came → PeerId → List ℕ → List ℕ → ConnHearing → ConnHearing → Type 0
HearsLent (came.Message l) own o piece was now =
    (fault_in own (o ++ piece) ≡ None) × Hears own o piece now [] (lent_arrivals (came.Message l))
HearsLent came.Part own o piece was now = (fault_in own (o ++ piece) ≡ None) × Hears own o piece now [] []
HearsLent came.Other own o piece was now = now ≡ was

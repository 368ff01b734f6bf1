-- What a piece completes of what its connection says, and what comes about at an item of it.
use Rattle.std.specs.Prelude.{◌≡◌, ℕ, List, [], ◌∷◌, ◌++◌, map, Option, Some, None}
use Rattle.zre_msg.specs.declared.message.Message.{Message}
use Rattle.zre_mailbox.specs.declared.arrival.Arrival.{Arrival}
use Rattle.zre_mailbox.specs.Talk.{Said, Arrived, arrivals_in, fault_said}
use Rattle.zre_values.specs.declared.settings.Settings.{Settings as Config}
use Rattle.zre_outside.specs.declared.entry.Entry.{Entry}
use Rattle.zre_journal.specs.Chronicle.{Mark, Comes}
use Rattle.zre_journal.specs.Heard.{newly_completed}
use Rattle.zre_journal.specs.Arrivals.{at_arrival, at_later, at_places}
use Rattle.zre_tables.specs.Lending.{said_lent}
use Rattle.zre_node.specs.declared.tables.Tables.{Tables}
use Rattle.zre_node.specs.Stands.{Holds}
use Rattle.zre_zmtp.specs.declared.bodies.Came.{Came}
use Rattle.zre_zmtp.specs.declared.bodies.Came.TheVariants as came
use Rattle.zre_zmtp.specs.declared.fault.ZmtpFault.{ZmtpFault}
use Rattle.zre_zmtp.specs.declared.item.Item.{Item}

-- the items that became whole, and the fault after them
abbrev pub said_in : List Item → Option ZmtpFault → List Said
said_in items fault = map (λ a. Arrived a) (arrivals_in items) ++ fault_said fault

-- at what arrives with an item on a live connection, if anything does
abbrev pub at_item : Config → ℕ → Option Arrival → List Mark → List Mark
at_item g c None K = []
at_item g c (Some a) K = at_arrival g c a K

-- at the message that frames mean, if they mean one, on a connection that runs the peer of link l
abbrev pub at_read : Config → ℕ → ℕ → Option Message → List Mark → List Mark
at_read g c l None K = []
at_read g c l (Some m) K = at_later g c l m K

-- After the marks H the entry e, a piece of connection c, was taken where it lies, and completed all that it says with
-- it; or nothing changed.
abbrev pub ComesLent : Came → Config → List Mark → Entry → ℕ → Tables → Tables → Type 0
ComesLent (came.Message l) g H e c was now = Holds g (Comes e ∷ H) now × (
    at_places g c (said_lent (came.Message l)) (Comes e ∷ H)
    ≡ at_places g c (newly_completed g.id c H (Comes e ∷ H)) (Comes e ∷ H))
ComesLent came.Part g H e c was now = Holds g (Comes e ∷ H) now × (
    at_places g c (said_lent came.Part) (Comes e ∷ H)
    ≡ at_places g c (newly_completed g.id c H (Comes e ∷ H)) (Comes e ∷ H))
ComesLent came.Other g H e c was now = now ≡ was

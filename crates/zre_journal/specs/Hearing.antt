-- The messages that a connection's octets say, and which of them its run has.
use Rattle.std.specs.Prelude.{◌≡◌, ℕ, List, ◌++◌, Option, Some, None}
use Rattle.std.specs.List.{filter_map}
use Rattle.zre_mailbox.specs.declared.arrival.Arrival.TheVariants as arrival
use Rattle.zre_mailbox.specs.Talk.{Said, Arrived, talk, fault_in}
use Rattle.zre_msg.specs.declared.message.Message.{Message}
use Rattle.zre_values.specs.declared.settings.Settings.{Settings as Config}
use Rattle.zre_journal.specs.Chronicle.{Mark}
use Rattle.zre_journal.specs.Connections.{runs}
use Rattle.zre_journal.specs.Heard.{bytes}
use Rattle.zre_journal.specs.Laws.{counted_on}

abbrev pub message_in : Said → Option Message
message_in (Arrived (arrival.Message m)) = Some m
message_in _ = None

-- the messages among what is said, in their order
abbrev pub heard : List Said → List Message
heard said = filter_map message_in said

-- the messages that the octets of c say
abbrev pub heard_on : Config → ℕ → List Mark → List Message
heard_on g c H = heard (talk g.id (bytes c H))

-- What was counted on a connection is a front of the messages that its octets say. Where it runs a peer, that is all
-- of them, and the octets have no fault.
pub record RunsOnOctets (g : Config) (H : List Mark) : Type 0 where
  pub is_front : (c : ℕ) → (rest : List Message) × (heard_on g c H ≡ counted_on c H ++ rest)
  pub is_all : (c l : ℕ) → runs c H ≡ Some l → (heard_on g c H ≡ counted_on c H) × (fault_in g.id (bytes c H) ≡ None)

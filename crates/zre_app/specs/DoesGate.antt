-- What the call of a gate does, by the gate that its words are.
use Rattle.std.specs.Prelude.{ℕ, List, Option, Some, None}
use Rattle.zre_outside.specs.Causes.{Rose}
use Rattle.zre_outside.specs.Desks.{Register}
use Rattle.zre_console.specs.Lived.{Seen}
use Rattle.zre_commands.specs.declared.pump.status.Status.{Status}
use Rattle.zre_gate.specs.Clients.{SeenClient}
use Rattle.zre_gate.specs.Gate.{HasGated}
use Rattle.zre_gate.specs.declared.gate.Gate.{Gate}
use Rattle.zre_app.specs.Usage.{UsageOutcome}

-- the gate is held, or the words are none and nothing but that is written
abbrev pub DoesGate : {C : Type 0} (look : C → SeenClient) → Option Gate → (limit : ℕ) (status : Status)
    (told told' : Option (Register C)) (s t : Seen) (desk : Type 0) (returned : List C) → Type 0
DoesGate look None limit status told told' s t desk returned =
    UsageOutcome status s.written t.written (Rose s.write_faults t.write_faults)
DoesGate look (Some g) limit status told told' s t desk returned =
    HasGated look g limit told told' s t desk returned status

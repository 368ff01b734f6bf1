-- Where nothing but clients fails, a gate does all that it is asked for, unless memory runs out.
use Rattle.std.proofs.Common.{◌≡◌, ℕ, false, List, [], map, Option, Some, None, inl, inr, refl, sym, subst, arith}
use Rattle.std.proofs.KnownBytes.{Appends-nil}
use Rattle.std.proofs.lemmas.List.Elements.{All-contains}
use Rattle.zre_outside.specs.Desks.{Register}
use Rattle.zre_commands.specs.declared.pump.status.Status.{Status}
use Rattle.zre_commands.specs.declared.pump.status.Status.TheVariants.{OutOfMemory}
use Rattle.zre_console.specs.Lived.{Seen}
use Rattle.zre_console.proofs.LeastStatus.{memory_isnt}
use Rattle.zre_console.proofs.EndBeforeStart.{none_started}
use Rattle.zre_gate.specs.Clients.{SeenClient}
use Rattle.zre_gate.specs.Gate.{IsGate}
use Rattle.zre_gate.specs.declared.gate.Gate.{Gate}
use Rattle.zre_gate.proofs.DeskClients.{none_given}
use Rattle.zre_gate.proofs.UnstartedGate.{unopened}
use Rattle.zre_app.specs.Complete.{IsBelow, CompletesGate}
use Rattle.zre_app.specs.DoesGate.{DoesGate}
use Rattle.zre_app.specs.Usage.{usage_line}
use Rattle.zre_app.proofs.CommandComplete.{spared, well_or_short}

pub gate_completes : (g : Option Gate) (limit : ℕ) (status : Status) (s t : Seen) (desk : Type 0) → CompletesGate g limit status s t desk
gate_completes None limit status s t desk = tt
gate_completes (Some g) limit status s t desk = λ before after gate served none whole few early.
    well_or_short status _
    (spared status _ _ _ s t served.caused none (λ z. z)
    (λ long. elim (long) [
      | inl many ↦ let c = many.0 in let below = All-contains (IsBelow limit) served.clients c few many.1 in let is = many.2 in omega (arith, below, is)
      | inr late ↦ omega (arith, late.0, early)
    ]) whole)
    (λ done. gate.wrote.whole (inl done))

-- a call that found no memory at its start
pub nothing_gated : {C : Type 0} (look : C → SeenClient) (g : Option Gate) (limit : ℕ) (told : Option (Register C)) (s : Seen) (desk : Type 0) (returned : List C) → returned ≡ [] → DoesGate look g limit OutOfMemory told told s s desk returned
nothing_gated look None limit told s desk returned none = ([], usage_line, refl, Appends-nil s.written)
nothing_gated look (Some g) limit told s desk returned none = record {
  given = [];
  begun = false;
  is_told = none_given g.local told;
  opened = λ is. absurd (memory_isnt is);
  gate = subst (λ xs. IsGate g.config g.start g.capture limit g.clients s s desk [] (map look xs) OutOfMemory) (sym none)
      (unopened g.config g.start g.capture limit g.clients s s desk [] false OutOfMemory (λ isnt. absurd (isnt refl)) refl (none_started s.told)
      memory_isnt tt (λ file is isnt still. absurd (isnt refl)));
}

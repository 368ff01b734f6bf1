-- What is left where preparing failed.
use Rattle.std.proofs.Common.{◌≡◌, ◌≢◌, ℕ, Bool, false, List, Option, Some, refl, ◌∙◌}
use Rattle.zre_outside.specs.declared.sink.NextFault.{NextFault}
use Rattle.zre_outside.specs.declared.sink.NextFault.TheVariants as fault
use Rattle.zre_outside.specs.declared.start.Start.{Start}
use Rattle.zre_outside.specs.Worlds.{Log}
use Rattle.zre_values.specs.declared.settings.Settings.{Settings as Config}
use Rattle.zre_commands.specs.declared.pump.status.Status.{Status}
use Rattle.zre_commands.specs.declared.pump.status.Status.TheVariants.{WriteFault, WorldFault, DeskFault, OutOfMemory}
use Rattle.zre_console.specs.Keeping.{head_of, Begins}
use Rattle.zre_console.specs.Stages.{IsEarly, IsOutside, Unprepared}
use Rattle.zre_console.specs.Statuses.{of_fault}
use Rattle.zre_console.proofs.EndBeforeStart.{none_started}

-- a refusal of the outside, whose failing comes to a status
pub refused_early : (failed : Status) (f : NextFault) (desks worlds records : Type 0) → (f ≡ fault.Failed → IsEarly failed desks worlds records) → IsEarly (of_fault f failed) desks worlds records
refused_early failed fault.Failed desks worlds records rose = rose refl
refused_early failed fault.OutOfMemory desks worlds records rose = tt

early_more : (s : Status) (d w r d' w' r' : Type 0) → (d → d') → (w → w') → (r → r') → IsEarly s d w r → IsEarly s d' w' r'
early_more WriteFault d w r d' w' r' f g h is = h is
early_more WorldFault d w r d' w' r' f g h is = g is
early_more DeskFault d w r d' w' r' f g h is = f is
early_more OutOfMemory d w r d' w' r' f g h is = tt
early_more s d w r d' w' r' f g h is = absurd is

record_failed : (s : Status) (records : Type 0) → IsEarly s ⊥ ⊥ records → s ≢ OutOfMemory → records
record_failed WriteFault records is isnt = is
record_failed OutOfMemory records is isnt = absurd (isnt refl)
record_failed s records is isnt = absurd is

module _ (g : Config) (start : Start) (name : Option (List ℕ)) (status : Status) (told told' : Option Log) (kept kept' named named' : Option (List ℕ)) (desks worlds records : Type 0) where
  -- the capture wasn't begun
  pub not_begun : told' ≡ told → IsEarly status ⊥ ⊥ records → Unprepared g start name status told told' kept kept' named named' desks worlds records
  not_begun same is = record {
    begun = false;
    is_told = same ∙ none_started told;
    cause = early_more status ⊥ ⊥ records desks worlds records (λ h. absurd h) (λ h. absurd h) (λ h. h) is;
    holds = λ file at isnt still. absurd (still (record_failed status records is isnt));
  }

  -- it was, and the node didn't go on the network
  pub not_entered : ((file : List ℕ) → name ≡ Some file → (begun : Bool) × Begins (head_of g) file begun kept kept' named named') → IsOutside start status told told' worlds
      → Unprepared g start name status told told' kept kept' named named' desks worlds records
  not_entered begins at = record {
    begun = at.0;
    is_told = at.1;
    cause = early_more status ⊥ worlds ⊥ desks worlds records (λ h. absurd h) (λ h. h) (λ h. absurd h) at.2;
    holds = λ file is isnt still. (let b = begins file is in (b.1.is_kept, b.1.is_named));
  }

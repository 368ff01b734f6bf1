-- What is told of the calls that were refused, where the work ends.
use Rattle.std.proofs.Common.{◌≡◌, ℕ, Bool, false, Option, sym, ap, ◌∙◌}
use Rattle.std.specs.Prelude.{option_map, Err, Result, ⊤}
use Rattle.zre_outside.specs.declared.sink.NextFault.{NextFault}
use Rattle.zre_outside.specs.declared.sink.NextFault.TheVariants as fault
use Rattle.zre_outside.specs.declared.turn.Turn.{Turn}
use Rattle.zre_outside.specs.Causes.{raised, is_failed}
use Rattle.zre_outside.specs.Refusals.{refused_after}
use Rattle.zre_actor.specs.declared.ending.Ending.{Ending}
use Rattle.zre_actor.specs.Work.{world_ending, is_world_fault, is_record_fault}

-- what was left is told for the ending that was left with
pub left_with : (is : Ending → Bool) (end end' : Ending) (now mid before : Option ℕ) → now ≡ mid → mid ≡ refused_after (is end') before → end ≡ end' → now ≡ refused_after (is end) before
left_with is end end' now mid before p q same = p ∙ q ∙ sym (ap (λ e. refused_after (is e) before) same)

-- nothing was refused
pub spared : (is : Bool) (now before : Option ℕ) → is ≡ false → now ≡ before → now ≡ refused_after is before
spared is now before none same = same ∙ sym (ap (λ b. refused_after b before) none)

-- the world refused a turn
pub world_refused : (f : NextFault) (now mid before : Option ℕ) → now ≡ refused_after (is_failed {T = Turn} (Err f)) mid → mid ≡ before → now ≡ refused_after (is_world_fault (world_ending f)) before
world_refused fault.Failed now mid before p q = p ∙ ap (option_map raised) q
world_refused fault.OutOfMemory now mid before p q = p ∙ q

pub record_spared : (f : NextFault) (now before : Option ℕ) → now ≡ before → now ≡ refused_after (is_record_fault (world_ending f)) before
record_spared fault.Failed now before p = p
record_spared fault.OutOfMemory now before p = p

-- The first of several statuses.
use Rattle.std.proofs.Common.{◌≡◌, ◌≢◌, Bool, true, false, true≢false, cond, List, [], ◌∷◌, refl, sym, ap, ◌∙◌}
use Rattle.std.specs.Prelude.{nat_le, ◌⊎◌}
use mathlib.Core.Logic.{inl, inr}
use Rattle.zre_outside.specs.declared.sink.NextFault.{NextFault}
use Rattle.zre_outside.specs.declared.sink.NextFault.TheVariants as fault
use Rattle.zre_commands.specs.declared.pump.status.Status.{Status}
use Rattle.zre_commands.specs.declared.pump.status.Status.TheVariants.{Done, WriteFault, WorldFault, NoThread, OutOfMemory}
use Rattle.zre_console.specs.Statuses.{rank, least, of_fault}

pub one_least : (s : Status) → s ≡ least (s ∷ [])
one_least Done = refl
one_least s = refl

abbrev pub first_of : Status → Status → Status
first_of s r = cond (nat_le (rank s) (rank r)) s r

-- OutOfMemory is the first
no_memory : (s : Status) → first_of s OutOfMemory ≡ OutOfMemory
no_memory Done = refl
no_memory s = refl

memory_first : (r : Status) → first_of OutOfMemory r ≡ OutOfMemory
memory_first Done = refl
memory_first s = refl

-- the first of one and of the first of others
pub least_nested : (s : Status) (ss : List Status) → least (s ∷ least ss ∷ []) ≡ least (s ∷ ss)
least_nested s ss = ap (first_of s) (sym (one_least (least ss)))

pub memory_here : (s : Status) (ss : List Status) → s ≡ OutOfMemory → least (s ∷ ss) ≡ OutOfMemory
memory_here s ss is = ap (λ x. first_of x (least ss)) is ∙ memory_first (least ss)

pub memory_after : (s : Status) (ss : List Status) → least ss ≡ OutOfMemory → least (s ∷ ss) ≡ OutOfMemory
memory_after s ss is = ap (first_of s) is ∙ no_memory s

-- every status comes before Done
before_done : (s : Status) → nat_le (rank s) (rank Done) ≡ true
before_done Done = refl
before_done s = refl

last_done : (r : Status) → first_of Done r ≡ r
last_done Done = refl
last_done s = refl

-- the least of some is the first or the least of the others
pub one_of : (s : Status) (ss : List Status) (x : Status) → least (s ∷ ss) ≡ x → (s ≡ x) ⊎ (least ss ≡ x)
one_of s ss x is = by (nat_le (rank s) (rank (least ss))) refl
  where
    by : (b : Bool) → nat_le (rank s) (rank (least ss)) ≡ b → (s ≡ x) ⊎ (least ss ≡ x)
    by true e = inl (sym (ap (λ b. cond b s (least ss)) e) ∙ is)
    by false e = inr (sym (ap (λ b. cond b s (least ss)) e) ∙ is)

-- where the first is Done, so is each
pub done_here : (s : Status) (ss : List Status) → least (s ∷ ss) ≡ Done → s ≡ Done
done_here s ss is = by (nat_le (rank s) (rank (least ss))) refl
  where
    by : (b : Bool) → nat_le (rank s) (rank (least ss)) ≡ b → s ≡ Done
    by true e = sym (ap (λ b. cond b s (least ss)) e) ∙ is
    by false e =
        let other : least ss ≡ Done = sym (ap (λ b. cond b s (least ss)) e) ∙ is in
        absurd (true≢false (sym (before_done s) ∙ ap (λ r. nat_le (rank s) (rank r)) (sym other) ∙ e))

pub done_after : (s : Status) (ss : List Status) → least (s ∷ ss) ≡ Done → least ss ≡ Done
done_after s ss is = sym (last_done (least ss)) ∙ ap (λ x. first_of x (least ss)) (sym (done_here s ss is)) ∙ is

-- ---- what isn't Done

pub thread_isnt : NoThread ≢ Done
thread_isnt is = cc

pub memory_isnt : OutOfMemory ≢ Done
memory_isnt is = cc

pub fault_isnt : (f : NextFault) (s : Status) → s ≢ Done → of_fault f s ≢ Done
fault_isnt fault.Failed s isnt = isnt
fault_isnt fault.OutOfMemory s isnt = memory_isnt

pub write_isnt : WriteFault ≢ Done
write_isnt is = cc

pub world_isnt : WorldFault ≢ Done
world_isnt is = cc

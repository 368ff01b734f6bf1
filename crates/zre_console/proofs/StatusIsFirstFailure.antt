-- The status is the first of what occurred.
use Rattle.std.proofs.Common.{◌≡◌, ◌≢◌, ◌≤◌, ◌<◌, ℕ, Bool, true, false, cond, List, [], ◌∷◌, Option, None, Some, refl, sym, ap, ◌∙◌, subst, arith, true≢false, leb-true, leb-false}
use Rattle.std.specs.Prelude.{nat_le, ◌⊎◌, Err}
use Rattle.zre_outside.specs.Causes.{is_failed}
use mathlib.Core.Logic.{inl, inr}
use Rattle.zre_outside.specs.declared.sink.NextFault.{NextFault}
use Rattle.zre_outside.specs.declared.sink.NextFault.TheVariants as fault
use Rattle.zre_outside.specs.Refusals.{Refusals, RefusesNone, refused_after}
use Rattle.zre_commands.specs.declared.pump.status.Status.{Status}
use Rattle.zre_commands.specs.declared.pump.status.Status.TheVariants.{Done, ReadFault, WriteFault, WorldFault, NoThread, TooLong, OutOfMemory}
use Rattle.zre_commands.specs.declared.pump.status.Status.TheVariants.{Usage, BadInput, DeskFault}
use Rattle.zre_actor.specs.declared.ending.Ending.{Ending}
use Rattle.zre_actor.specs.declared.ending.Ending.TheVariants as ending
use Rattle.zre_actor.specs.Work.{is_world_fault, is_record_fault}
use Rattle.zre_console.specs.declared.reader.ending.InputEnd.{InputEnd}
use Rattle.zre_console.specs.declared.reader.ending.InputEnd.TheVariants as end
use Rattle.zre_console.specs.reader.Reading.{EndsByRefusal}
use Rattle.zre_console.specs.Statuses.{rank, least, of_fault, of_read, of_print, of_work, of_thread, Yields, IsFirst, IsReadSo}

-- ---- the least of several

-- what holds of the first where it is the least, and of the least of the others else, holds of the least of all
least_by : (C : Status → Type 0) (s : Status) (ss : List Status) → (nat_le (rank s) (rank (least ss)) ≡ true → C s) → (nat_le (rank s) (rank (least ss)) ≡ false → C (least ss)) → C (least (s ∷ ss))
least_by C s ss one rest = by (nat_le (rank s) (rank (least ss))) refl
  where
    by : (b : Bool) → nat_le (rank s) (rank (least ss)) ≡ b → C (least (s ∷ ss))
    by true e = subst C (sym (ap (λ (b : Bool). cond b s (least ss)) e)) (one e)
    by false e = subst C (sym (ap (λ (b : Bool). cond b s (least ss)) e)) (rest e)

pub least_holds : (C : Status → Type 0) (s : Status) (ss : List Status) → C s → C (least ss) → C (least (s ∷ ss))
least_holds C s ss one rest = least_by C s ss (λ e. one) (λ e. rest)

pub rest_holds : (C : Status → Type 0) (broke : Option NextFault) (how : Ending) (refused : Bool) → C (of_print broke) → C (of_work how) → C (of_thread refused) → C Done → C (least (of_print broke ∷ of_work how ∷ of_thread refused ∷ []))
rest_holds C broke how refused print work thread done =
    least_holds C (of_print broke) (of_work how ∷ of_thread refused ∷ []) print
    (least_holds C (of_work how) (of_thread refused ∷ []) work (least_holds C (of_thread refused) [] thread done))

pub below_self : (n : ℕ) → n ≤ n
below_self n = omega arith

then_below : (a b c : ℕ) → a ≤ b → b ≤ c → a ≤ c
then_below a b c p q = omega (arith, p, q)

pub least_first : (s : Status) (ss : List Status) → rank (least (s ∷ ss)) ≤ rank s
least_first s ss = least_by (λ x. rank x ≤ rank s) s ss (λ e. below_self (rank s)) (λ e. before (rank s) (rank (least ss)) (leb-false (rank s) (rank (least ss)) e))
  where
    before : (a b : ℕ) → b < a → b ≤ a
    before a b less = omega (arith, less)

pub least_rest : (s : Status) (ss : List Status) → rank (least (s ∷ ss)) ≤ rank (least ss)
least_rest s ss = least_by (λ x. rank x ≤ rank (least ss)) s ss (λ e. leb-true (rank s) (rank (least ss)) e) (λ e. below_self (rank (least ss)))

-- ---- what each part says

pub print_yields : (status : Status) (broke : Option NextFault) (none : Type 0) → (broke ≡ None → none) → rank status ≤ rank (of_print broke) → Yields status WriteFault none
print_yields status None none calm le = inl (calm refl)
print_yields status (Some fault.Failed) none calm le = inr le
print_yields status (Some fault.OutOfMemory) none calm le = inr (then_below (rank status) 0 5 le (omega arith))

pub world_yields : (status : Status) (how : Ending) (now before : Option ℕ) → now ≡ refused_after (is_world_fault how) before → rank status ≤ rank (of_work how) → Yields status WorldFault (now ≡ before)
world_yields status ending.WorldFault now before is le = inr le
world_yields status _ now before is le = inl is

pub record_yields : (status : Status) (how : Ending) (now before : Option ℕ) → now ≡ refused_after (is_record_fault how) before → rank status ≤ rank (of_work how) → Yields status WriteFault (now ≡ before)
record_yields status ending.RecordFault now before is le = inr le
record_yields status _ now before is le = inl is

pub thread_yields : (status : Status) (refused : Bool) (none : Type 0) → (refused ≡ false → none) → rank status ≤ rank (of_thread refused) → Yields status NoThread none
thread_yields status true none calm le = inr le
thread_yields status false none calm le = inl (calm refl)

-- the same since an earlier moment at which nothing was refused
pub yields_since : (status failed : Status) (none none' : Type 0) → (none → none') → Yields status failed none → Yields status failed none'
yields_since status failed none none' more (inl is) = inl (more is)
yields_since status failed none none' more (inr le) = inr le

-- a refusal whose failing is this status
pub fault_yields : (T : Type 0) (failed : Status) (f : NextFault) (now before : Option ℕ) → now ≡ refused_after (is_failed {T = T} (Err f)) before → Yields (of_fault f failed) failed (now ≡ before)
fault_yields T failed fault.Failed now before is = inr (below_self (rank failed))
fault_yields T failed fault.OutOfMemory now before is = inl is

-- all of it
pub first_of_all : (read : Status) (broke : Option NextFault) (how : Ending) (refused : Bool) (status : Status)
    (writes : Type 0) (records records' worlds worlds' : Option ℕ) (starts : Type 0)
    → status ≡ least (read ∷ of_print broke ∷ of_work how ∷ of_thread refused ∷ [])
    → (broke ≡ None → writes) → records' ≡ refused_after (is_record_fault how) records → worlds' ≡ refused_after (is_world_fault how) worlds → (refused ≡ false → starts)
    → IsFirst status writes (records' ≡ records) (worlds' ≡ worlds) starts
first_of_all read broke how refused status writes records records' worlds worlds' starts is wrote kept gave started =
    let print = of_print broke in let work = of_work how in let thread = of_thread refused in
    let one : rank status ≤ rank (least (print ∷ work ∷ thread ∷ [])) = subst (λ (x : Status). rank x ≤ rank (least (print ∷ work ∷ thread ∷ []))) (sym is) (least_rest read (print ∷ work ∷ thread ∷ [])) in
    let two = then_below _ _ _ one (least_rest print (work ∷ thread ∷ [])) in
    let three = then_below _ _ _ two (least_rest work (thread ∷ [])) in
    let at_print = then_below _ _ _ one (least_first print (work ∷ thread ∷ [])) in
    let at_work = then_below _ _ _ two (least_first work (thread ∷ [])) in
    let at_thread = then_below _ _ _ three (least_first thread []) in
    record {
      written = print_yields status broke writes wrote at_print;
      recorded = record_yields status how records' records kept at_work;
      given = world_yields status how worlds' worlds gave at_work;
      started = thread_yields status refused starts started at_thread;
    }

-- ---- the reads

-- a status that the printing, the node's work or a start may come to: not that of a read or of a desk, nor one that only other
-- commands have
abbrev pub is_of_parts : Status → Bool
is_of_parts Usage = false
is_of_parts BadInput = false
is_of_parts ReadFault = false
is_of_parts DeskFault = false
is_of_parts s = true

pub isnt_of_parts : (s x : Status) → is_of_parts s ≡ true → is_of_parts x ≡ false → s ≢ x
isnt_of_parts s x one other is = true≢false (sym one ∙ ap is_of_parts is ∙ other)

late_rank : (n : ℕ) → 4 < n → n ≤ 4 → ⊥
late_rank n more le = omega (arith, more, le)

early_memory : (s : Status) → rank s ≤ rank ReadFault → is_of_parts s ≡ true → s ≡ OutOfMemory
early_memory OutOfMemory le late = refl
early_memory Usage le late = absurd (true≢false (sym late))
early_memory BadInput le late = absurd (true≢false (sym late))
early_memory ReadFault le late = absurd (true≢false (sym late))
early_memory DeskFault le late = absurd (true≢false (sym late))
early_memory Done le late = absurd (late_rank 11 (omega arith) le)
early_memory WriteFault le late = absurd (late_rank 5 (omega arith) le)
early_memory WorldFault le late = absurd (late_rank 6 (omega arith) le)
early_memory NoThread le late = absurd (late_rank 7 (omega arith) le)
early_memory TooLong le late = absurd (late_rank 8 (omega arith) le)

least_of_parts : (s : Status) (ss : List Status) → is_of_parts s ≡ true → is_of_parts (least ss) ≡ true → is_of_parts (least (s ∷ ss)) ≡ true
least_of_parts = least_holds (λ s. is_of_parts s ≡ true)

print_of_parts : (broke : Option NextFault) → is_of_parts (of_print broke) ≡ true
print_of_parts None = refl
print_of_parts (Some fault.Failed) = refl
print_of_parts (Some fault.OutOfMemory) = refl

work_of_parts : (how : Ending) → is_of_parts (of_work how) ≡ true
work_of_parts ending.Stopped = refl
work_of_parts ending.WorldFault = refl
work_of_parts ending.RecordFault = refl
work_of_parts ending.TooLong = refl
work_of_parts ending.OutOfMemory = refl

thread_of_parts : (refused : Bool) → is_of_parts (of_thread refused) ≡ true
thread_of_parts true = refl
thread_of_parts false = refl

pub rest_of_parts : (broke : Option NextFault) (how : Ending) (refused : Bool) → is_of_parts (least (of_print broke ∷ of_work how ∷ of_thread refused ∷ [])) ≡ true
rest_of_parts broke how refused = rest_holds (λ s. is_of_parts s ≡ true) broke how refused (print_of_parts broke) (work_of_parts how) (thread_of_parts refused) refl

late_isnt : (s : Status) → is_of_parts s ≡ true → s ≢ ReadFault
late_isnt s late = isnt_of_parts s ReadFault late refl

first_read : (rest : List Status) → is_of_parts (least rest) ≡ true → (least (ReadFault ∷ rest) ≡ ReadFault) ⊎ (least (ReadFault ∷ rest) ≡ OutOfMemory)
first_read rest late =
    least_by (λ x. (x ≡ ReadFault) ⊎ (x ≡ OutOfMemory)) ReadFault rest (λ e. inl refl)
    (λ e. inr (early_memory (least rest) (before (rank (least rest)) (leb-false (rank ReadFault) (rank (least rest)) e)) late))
  where
    before : (n : ℕ) → n < 4 → n ≤ 4
    before n less = omega (arith, less)

unread_so : (status read : Status) (rest : List Status) (a b : Option Refusals) → status ≡ least (read ∷ rest) → is_of_parts read ≡ true → is_of_parts (least rest) ≡ true → RefusesNone a b → IsReadSo status a b
unread_so status read rest a b is one late none = inl (none, late_isnt status (ap is_of_parts is ∙ least_of_parts read rest one late))

pub reads_so : (e : InputEnd) (broke : Option NextFault) (how : Ending) (refused : Bool) (status : Status) (a b : Option Refusals)
    → status ≡ least (of_read e ∷ of_print broke ∷ of_work how ∷ of_thread refused ∷ []) → EndsByRefusal e a b → IsReadSo status a b
reads_so end.ReadFault broke how refused status a b is last =
    subst (λ (s : Status). IsReadSo s a b) (sym is) (inr (last, first_read (of_print broke ∷ of_work how ∷ of_thread refused ∷ []) (rest_of_parts broke how refused)))
reads_so end.Quit broke how refused status a b is none = unread_so status Done (of_print broke ∷ of_work how ∷ of_thread refused ∷ []) a b is refl (rest_of_parts broke how refused) none
reads_so end.AtEnd broke how refused status a b is none = unread_so status Done (of_print broke ∷ of_work how ∷ of_thread refused ∷ []) a b is refl (rest_of_parts broke how refused) none
reads_so end.Over broke how refused status a b is none = unread_so status Done (of_print broke ∷ of_work how ∷ of_thread refused ∷ []) a b is refl (rest_of_parts broke how refused) none
reads_so end.TooLong broke how refused status a b is none = unread_so status TooLong (of_print broke ∷ of_work how ∷ of_thread refused ∷ []) a b is refl (rest_of_parts broke how refused) none
reads_so end.OutOfMemory broke how refused status a b is none = unread_so status OutOfMemory (of_print broke ∷ of_work how ∷ of_thread refused ∷ []) a b is refl (rest_of_parts broke how refused) none

pub thread_unread : NoThread ≢ ReadFault
thread_unread = late_isnt NoThread refl

pub write_unread : (f : NextFault) → of_fault f WriteFault ≢ ReadFault
write_unread fault.Failed = late_isnt WriteFault refl
write_unread fault.OutOfMemory = late_isnt OutOfMemory refl

pub world_unread : (f : NextFault) → of_fault f WorldFault ≢ ReadFault
world_unread fault.Failed = late_isnt WorldFault refl
world_unread fault.OutOfMemory = late_isnt OutOfMemory refl

-- What a status says of the parts whose ends it is made of: the reading, the printing, the node's work and the starts.
use Rattle.std.proofs.Common.{◌≡◌, ◌≢◌, Bool, true, false, List, [], ◌∷◌, Option, Some, None, refl, sym, ap, ◌∙◌}
use Rattle.std.specs.Prelude.{◌⊎◌}
use mathlib.Core.Logic.{inl, inr}
use Rattle.zre_outside.specs.declared.sink.NextFault.{NextFault}
use Rattle.zre_outside.specs.declared.sink.NextFault.TheVariants as fault
use Rattle.zre_actor.specs.declared.ending.Ending.{Ending}
use Rattle.zre_actor.specs.declared.ending.Ending.TheVariants as ending
use Rattle.zre_commands.specs.declared.pump.status.Status.{Status}
use Rattle.zre_commands.specs.declared.pump.status.Status.TheVariants.{Done, ReadFault, OutOfMemory}
use Rattle.zre_console.specs.declared.reader.ending.InputEnd.{InputEnd}
use Rattle.zre_console.specs.declared.reader.ending.InputEnd.TheVariants as end
use Rattle.zre_console.specs.Statuses.{least, of_read, of_print, of_work, of_thread}
use Rattle.zre_console.proofs.StatusIsFirstFailure.{isnt_of_parts, rest_of_parts}
use Rattle.zre_console.proofs.LeastStatus.{memory_here, memory_after, done_here, done_after, one_of}

-- the reading fails by a read
pub read_ended : (e : InputEnd) → of_read e ≡ ReadFault → e ≡ end.ReadFault
read_ended end.Quit is = absurd (cc)
read_ended end.AtEnd is = absurd (cc)
read_ended end.Over is = absurd (cc)
read_ended end.ReadFault is = refl
read_ended end.TooLong is = absurd (cc)
read_ended end.OutOfMemory is = absurd (cc)

module _ (read : Status) (broke : Option NextFault) (how : Ending) (refused : Bool) where
  abbrev fourth : List Status
  fourth = of_thread refused ∷ []

  abbrev third : List Status
  third = of_work how ∷ fourth

  abbrev second : List Status
  second = of_print broke ∷ third

  abbrev pub statuses : List Status
  statuses = read ∷ second

  memory : least statuses ≢ OutOfMemory → how ≢ ending.OutOfMemory
  memory isnt is = isnt (memory_after read second (memory_after (of_print broke) third (memory_here (of_work how) fourth (ap of_work is))))

  page : least statuses ≢ OutOfMemory → broke ≢ Some fault.OutOfMemory
  page isnt is = isnt (memory_after read second (memory_here (of_print broke) third (ap of_print is)))

  pub read_done : least statuses ≡ Done → read ≡ Done
  read_done is = done_here read second is

  print_done : least statuses ≡ Done → of_print broke ≡ Done
  print_done is = done_here (of_print broke) third (done_after read second is)

  pub work_done : least statuses ≡ Done → of_work how ≡ Done
  work_done is = done_here (of_work how) fourth (done_after (of_print broke) third (done_after read second is))

  thread_done : least statuses ≡ Done → of_thread refused ≡ Done
  thread_done is = done_here (of_thread refused) [] (done_after (of_work how) fourth (done_after (of_print broke) third (done_after read second is)))

  pub printed_whole : least statuses ≡ Done → broke ≡ None
  printed_whole is = by broke refl
    where
      by : (f : Option NextFault) → broke ≡ f → broke ≡ None
      by None e = e
      by (Some fault.Failed) e = absurd (let x = sym (ap of_print e) ∙ print_done is in cc)
      by (Some fault.OutOfMemory) e = absurd (let x = sym (ap of_print e) ∙ print_done is in cc)

  pub has_started : least statuses ≡ Done → refused ≡ false
  has_started is = by refused refl
    where
      by : (b : Bool) → refused ≡ b → refused ≡ false
      by true e = absurd (let x = sym (ap of_thread e) ∙ thread_done is in cc)
      by false e = e

  pub read_failed : least statuses ≡ ReadFault → read ≡ ReadFault
  read_failed is = by (one_of read second ReadFault is)
    where
      by : (read ≡ ReadFault) ⊎ (least second ≡ ReadFault) → read ≡ ReadFault
      by (inl e) = e
      by (inr e) = absurd (isnt_of_parts (least second) ReadFault (rest_of_parts broke how refused) refl e)

  pub both : least statuses ≢ OutOfMemory → (how ≢ ending.OutOfMemory) × (broke ≢ Some fault.OutOfMemory)
  both isnt = (memory isnt, page isnt)

  pub well : least statuses ≡ Done → (of_work how ≡ Done) × (broke ≡ None)
  well is = (work_done is, printed_whole is)

-- A turn or a command that ends otherwise than as the source failed.
use Rattle.std.proofs.Common.{◌≢◌, Bool, true, false, sym, ap, true≢false}
use Rattle.zre_commands.specs.declared.pump.status.Status.{Status}
use Rattle.zre_commands.specs.declared.pump.status.Status.TheVariants as statuses
use Rattle.zre_commands.specs.declared.pump.pumping.Onward.{Onward}
use Rattle.zre_commands.specs.declared.pump.pumping.Onward.TheVariants as nexts
use Rattle.zre_commands.specs.pump.Turning.{no_read}

-- the status of a turn that fails
abbrev pub failing : Onward → Status
failing (nexts.Fail status) = status
failing nexts.Go = statuses.Done
failing nexts.Finish = statuses.Done

abbrev is_fault : Status → Bool
is_fault statuses.ReadFault = true
is_fault status = false

pub goes_on_unfailed : nexts.Go ≢ no_read
goes_on_unfailed e = true≢false (sym (ap (λ x. is_fault (failing x)) e))

pub finishes_unfailed : nexts.Finish ≢ no_read
finishes_unfailed e = true≢false (sym (ap (λ x. is_fault (failing x)) e))

pub no_memory : statuses.OutOfMemory ≢ statuses.ReadFault
no_memory e = true≢false (sym (ap is_fault e))

pub too_long : statuses.TooLong ≢ statuses.ReadFault
too_long e = true≢false (sym (ap is_fault e))

use Rattle.std.proofs.Common.{refl}
use Rattle.zre_mailbox.specs.declared.arrival.Arrival.TheVariants as arrival
use Rattle.zre_mailbox.specs.Talk.{Arrived}
use Rattle.zre_journal.proofs.PlacesInLedgers.{is_placed}
use Rattle.zre_journal.proofs.laws.each_message_is_judged_by_its_place.Goals as goal

pub returns : goal.returns
returns c = λ g b J d l m K drawn a run. is_placed g J d (Arrived (arrival.Message m)) K a m refl l run b drawn

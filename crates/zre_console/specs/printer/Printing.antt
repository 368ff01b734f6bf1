-- What printing comes to.
use Rattle.std.specs.Prelude.{◌≡◌, ℕ, Bool, true, false, List, ◌++◌, Option, None, IsSome}
use Rattle.std.specs.Io.KnownBytes.{Appends}
use Rattle.zre_outside.specs.declared.sink.NextFault.{NextFault}
use Rattle.zre_outside.specs.Told.{AppendsFront}
use Rattle.zre_peer.specs.declared.event.Event.{Event}
use Rattle.zre_peer.specs.Lines.{lines}
use Rattle.zre_actor.specs.declared.ending.Ending.{Ending}
use Rattle.zre_actor.specs.declared.passes.CallerPass.{CallerPass}
use Rattle.zre_actor.specs.declared.passes.TakerPass.{TakerPass}
use Rattle.zre_actor.specs.Passes.{taken_by}
use Rattle.zre_console.specs.declared.printer.asker.Asker.{Asker}
use Rattle.zre_console.specs.declared.printer.asker.Wish.TheVariants.{No}
use Rattle.zre_console.specs.declared.printer.page.Page.{Page}
use Rattle.zre_console.specs.printer.Asking.{HasAsked}
use Rattle.zre_console.specs.printer.Pages.{Shows}

-- since the first moment some events were taken and their lines printed on the page
pub record Prints (first : Asker) (start : TakerPass) (written : Option (List ℕ)) (asker : Asker) (taker : TakerPass)
    (page : Page) (written' : Option (List ℕ)) : Type 0 where
  pub events : List Event
  pub taken : taken_by taker ≡ taken_by start ++ events
  pub shows : Shows page written written' events
  pub asked : (pass : CallerPass) → HasAsked pass first → HasAsked pass asker
  pub calm : page.fault ≡ None → first.wish ≡ No → asker.wish ≡ No

-- after Last there is one
abbrev pub IsLast : Bool → Option Ending → Type 0
IsLast true last = IsSome last
IsLast false last = last ≡ None

-- some events were taken: their lines are written, or a front of them where there was a fault. The caller put no more
-- than a Quit, and nothing where it had no wish and there was no fault
pub record HasPrinted (asker : Asker) (old new : TakerPass) (pass : CallerPass) (fault : Option NextFault)
    (written written' : Option (List ℕ)) : Type 0 where
  pub events : List Event
  pub taken : taken_by new ≡ taken_by old ++ events
  pub front : AppendsFront written written' (lines events)
  pub whole : fault ≡ None → Appends written written' (lines events)
  pub last : Asker
  pub is_last : last.pass ≡ pass
  pub asked : (first : CallerPass) → HasAsked first asker → HasAsked first last
  pub calm : fault ≡ None → asker.wish ≡ No → last.wish ≡ No

-- What stands on a page, and what of it is written.
use Rattle.std.specs.Prelude.{◌≡◌, ◌≤◌, ◌⊎◌, ℕ, List, [], ◌++◌, Option, None, Some, IsSome}
use Rattle.std.specs.Io.KnownBytes.{Appends}
use Rattle.zre_outside.specs.Causes.{Rose}
use Rattle.zre_outside.specs.declared.sink.NextFault.TheVariants.{Failed}
use Rattle.zre_peer.specs.declared.event.Event.{Event}
use Rattle.zre_peer.specs.Lines.{lines}
use Rattle.zre_console.specs.declared.printer.page.Page.{Page}

-- nothing was printed
abbrev pub fresh : Page
fresh = record { text = []; fault = None }

-- the lines of these events were printed: a front of them is written, and the page holds the rest, unless there was a
-- fault
pub record Shows (page : Page) (written written' : Option (List ℕ)) (es : List Event) : Type 0 where
  pub done : List ℕ
  pub rest : List ℕ
  pub are_lines : lines es ≡ done ++ rest
  pub is_written : Appends written written' done
  pub waits : page.fault ≡ None → rest ≡ page.text

-- a call printed no further event: what was printed before it still is
abbrev pub StillShows : (old new : Page) (written written' : Option (List ℕ)) → Type 0
StillShows old new written written' =
    (first : Option (List ℕ)) (es : List Event) → Shows old first written es → Shows new first written' es

-- a call that writes where there was no fault: after one the page stays as it is; the sink's count of faults rises
-- where the sink failed, and where there is no fault it refused nothing
pub record Tries (old new : Page) (faults faults' : ℕ) (refused refused' : Option ℕ) : Type 0 where
  pub stays : IsSome old.fault → new ≡ old
  pub later : faults ≤ faults'
  pub failed : new.fault ≡ Some Failed → (old.fault ≡ Some Failed) ⊎ Rose faults faults'
  pub counts : new.fault ≡ None → refused' ≡ refused

-- the same of a sink, before and after, by what it tells of its faults and of the writes that it refused
abbrev pub TriesOn : {O : Type 0} → (O → ℕ) → (O → Option ℕ) → (old new : Page) (before after : O) → Type 0
TriesOn faults refused old new before after =
    Tries old new (faults before) (faults after) (refused before) (refused after)

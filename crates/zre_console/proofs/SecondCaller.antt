-- What the second caller put: a quit, or nothing.
use Rattle.std.proofs.Common.{◌≡◌, ℕ, Bool, true, false, List, [], ◌∷◌, ◌++◌, Option, refl, sym, ap, ◌∙◌}
use Rattle.std.specs.Prelude.{◌⊎◌}
use mathlib.Core.Logic.{inl, inr}
use Rattle.zre_outside.specs.declared.entry.Command.TheVariants.{Quit}
use Rattle.zre_outside.specs.declared.sink.NextFault.{NextFault}
use Rattle.zre_actor.specs.declared.passes.CallerPass.{CallerPass}
use Rattle.zre_actor.specs.declared.passes.TakerPass.{TakerPass}
use Rattle.zre_actor.specs.Passes.{IsNew, number, ended, put_by}
use Rattle.zre_console.specs.declared.printer.asker.Wish.{Wish}
use Rattle.zre_console.specs.declared.printer.asker.Wish.TheVariants.{No, Due, Put}
use Rattle.zre_console.specs.printer.Asking.{asked, asker_of, HasAsked}
use Rattle.zre_console.specs.printer.Printing.{HasPrinted}
use Rattle.zre_console.proofs.reader.PutCommands.{puts-none}
use Rattle.zre_console.proofs.PoppedCommands.{all_under}

pub asked_few : (x : Wish) → (asked x ≡ []) ⊎ (asked x ≡ Quit ∷ [])
asked_few No = inl refl
asked_few Due = inl refl
asked_few Put = inr refl

none_wished : (asker : CallerPass) (refused : Bool) → HasAsked asker (asker_of asker refused)
none_wished asker true = puts-none asker
none_wished asker false = puts-none asker

module _ (asker : CallerPass) (refused : Bool) (taker taker' : TakerPass) (asker' : CallerPass) (broke : Option NextFault) (written written' : Option (List ℕ))
    (d : HasPrinted (asker_of asker refused) taker taker' asker' broke written written') where
  -- it absorbs nothing
  pub asker_ended : ended asker' ≡ ended asker
  asker_ended = ap ended (sym d.is_last) ∙ (d.asked asker (none_wished asker refused)).same_ended

  pub asker_put : IsNew asker → put_by asker' ≡ all_under (number asker) (ended asker) (asked d.last.wish)
  asker_put new = ap put_by (sym d.is_last) ∙ (d.asked asker (none_wished asker refused)).put ∙ ap (λ l. l ++ all_under (number asker) (ended asker) (asked d.last.wish)) new.1

-- What the second caller puts.
use Rattle.std.specs.Prelude.{Bool, cond, List, [], ◌∷◌}
use Rattle.zre_outside.specs.declared.entry.Command.{Command}
use Rattle.zre_outside.specs.declared.entry.Command.TheVariants.{Quit}
use Rattle.zre_actor.specs.declared.passes.CallerPass.{CallerPass}
use Rattle.zre_console.specs.reader.Putting.{Puts}
use Rattle.zre_console.specs.declared.printer.asker.Asker.{Asker}
use Rattle.zre_console.specs.declared.printer.asker.Wish.{Wish}
use Rattle.zre_console.specs.declared.printer.asker.Wish.TheVariants.{No, Due, Put}

-- what was put of a wish
abbrev pub asked : Wish → List Command
asked No = []
asked Due = []
asked Put = Quit ∷ []

-- since this pass it put no more than its wish
abbrev pub HasAsked : CallerPass → Asker → Type 0
HasAsked first a = Puts first a.pass (asked a.wish)

-- the second caller before it put anything: where the reader was refused, it is to ask the node to stop
abbrev pub asker_of : CallerPass → Bool → Asker
asker_of pass refused = record { pass = pass; wish = cond refused Due No }

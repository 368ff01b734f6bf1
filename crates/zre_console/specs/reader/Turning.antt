-- What one turn of the reader does, and what the end of the input does.
use Rattle.std.specs.Prelude.{◌≡◌, ◌⊎◌, ℕ, ◌<◌, true, false, List, [], ◌∷◌, ◌++◌, length, Option}
use mathlib.Core.List.{IsPrefix}
use Rattle.std.specs.List.{list_any}
use Rattle.std.specs.Io.KnownBytes.{IsAtEnd}
use Rattle.zre_outside.specs.declared.entry.Command.{Command}
use Rattle.zre_outside.specs.declared.entry.Command.TheVariants as command
use Rattle.zre_outside.specs.Refusals.{Refusals, RefusesNone}
use Rattle.zre_actor.specs.declared.passes.CallerPass.{CallerPass}
use Rattle.zre_console.specs.lines.Orders.{is_quit, typed, asked, Begins}
use Rattle.zre_console.specs.lines.Typing.{Typing, Typed}
use Rattle.zre_console.specs.declared.reader.ending.InputEnd.{InputEnd}
use Rattle.zre_console.specs.declared.reader.ending.InputEnd.TheVariants as ends
use Rattle.zre_console.specs.declared.reader.reading.Next.{Next}
use Rattle.zre_console.specs.declared.reader.reading.Next.TheVariants as nexts
use Rattle.zre_console.specs.reader.Putting.{Puts, Closes, IsShort}
use Rattle.zre_console.specs.reader.Reading.{EndsByRefusal}

-- after the commands of o, more were put, which are now the commands of a longer text
abbrev pub PutsTyped : CallerPass → CallerPass → (o longer : List ℕ) → Type 0
PutsTyped old new o longer = (commands : List Command) × Puts old new commands × (typed o ++ commands ≡ typed longer)

-- they are now all that it asks for
abbrev pub PutsAsked : CallerPass → CallerPass → (o longer : List ℕ) → Type 0
PutsAsked old new o longer =
    (commands : List Command) × Puts old new commands × (typed o ++ commands ≡ asked false longer)

-- they now begin its orders, and what was typed
abbrev pub PutsPart : CallerPass → CallerPass → (o longer : List ℕ) → Type 0
PutsPart old new o longer =
    (commands : List Command) × Puts old new commands × Begins (typed o ++ commands) longer
    × IsPrefix (typed o ++ commands) (typed longer)

-- and there are more commands than these
abbrev pub PutsShort : CallerPass → CallerPass → (o longer : List ℕ) → Type 0
PutsShort old new o longer =
    (commands : List Command) × Puts old new commands × Begins (typed o ++ commands) longer
    × IsShort (typed o ++ commands) (typed longer)

-- a piece was taken after o
abbrev pub Took : Next → (t : Typing) (o piece : List ℕ) (old new : CallerPass) → Type 0
Took nexts.Go t o piece old new =
    Typed (o ++ piece) t × (list_any is_quit (typed (o ++ piece)) ≡ false) × PutsTyped old new o (o ++ piece)
Took nexts.Finish t o piece old new = ⊥
Took (nexts.End ends.Quit) t o piece old new =
    (list_any is_quit (typed (o ++ piece)) ≡ true) × PutsAsked old new o (o ++ piece)
Took (nexts.End ends.Over) t o piece old new = PutsShort old new o (o ++ piece)
Took (nexts.End ends.OutOfMemory) t o piece old new = PutsPart old new o (o ++ piece)
Took (nexts.End ends.AtEnd) t o piece old new = ⊥
Took (nexts.End ends.ReadFault) t o piece old new = ⊥
Took (nexts.End ends.TooLong) t o piece old new = ⊥

-- one turn after o: a piece was read, the input was at its end, or the source failed
abbrev pub Turned : Next
    → (t : Typing) (o piece : List ℕ) (left : Option (List ℕ)) (old new : CallerPass) (read : Type 0) → Type 0
Turned nexts.Go t o piece left old new read = (0 < length piece) × Took nexts.Go t o piece old new
Turned nexts.Finish t o piece left old new read = Typed o t × (piece ≡ []) × IsAtEnd left × (new ≡ old)
Turned (nexts.End ends.ReadFault) t o piece left old new read = (piece ≡ []) × read × (new ≡ old)
Turned (nexts.End end) t o piece left old new read = Took (nexts.End end) t o piece old new

-- the read of a turn was refused where the turn ends the reading so, and nowhere else
abbrev pub TurnRefuses : Next → (refused refused' : Option Refusals) → Type 0
TurnRefuses nexts.Go refused refused' = RefusesNone refused refused'
TurnRefuses nexts.Finish refused refused' = RefusesNone refused refused'
TurnRefuses (nexts.End end) refused refused' = EndsByRefusal end refused refused'

-- what comes next isn't that of a refused read
abbrev pub GoesUnrefused : Next → Type 0
GoesUnrefused next = (refused refused' : Option Refusals) → RefusesNone refused refused'
    → TurnRefuses next refused refused'

abbrev pub EndsUnrefused : InputEnd → Type 0
EndsUnrefused end = (refused refused' : Option Refusals) → RefusesNone refused refused'
    → EndsByRefusal end refused refused'

-- the end of the input o, whose typed commands were put
abbrev pub Finishes : InputEnd → (o : List ℕ) (old new : CallerPass) → Type 0
Finishes ends.AtEnd o old new = PutsAsked old new o o
Finishes ends.Over o old new = PutsPart old new o o
Finishes ends.OutOfMemory o old new = PutsPart old new o o
Finishes ends.Quit o old new = ⊥
Finishes ends.ReadFault o old new = ⊥
Finishes ends.TooLong o old new = ⊥

-- the quit that a line or the end of the input is: it was put, or the chat was over before
abbrev pub Quits : (end final : InputEnd) → CallerPass → CallerPass → Type 0
Quits end final old new =
    ((final ≡ end) × Puts old new (command.Quit ∷ [])) ⊎ ((final ≡ ends.Over) × Puts old new [])

-- after a source's lines a quit was put, unless the chat was over
abbrev pub Closing : (end final : InputEnd) → CallerPass → CallerPass → Type 0
Closing ends.Quit final old new = Quits ends.Quit final old new
Closing ends.AtEnd final old new = Quits ends.AtEnd final old new
Closing ends.Over final old new = (final ≡ ends.Over) × (new ≡ old)
Closing ends.ReadFault final old new = (final ≡ ends.ReadFault) × Closes old new
Closing ends.TooLong final old new = (final ≡ ends.TooLong) × Closes old new
Closing ends.OutOfMemory final old new = (final ≡ ends.OutOfMemory) × Closes old new

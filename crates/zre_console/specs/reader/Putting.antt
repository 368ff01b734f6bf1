-- What is put with a pass.
use Rattle.std.specs.Prelude.{◌≡◌, true, false, List, [], ◌∷◌, ◌++◌, ◌⊎◌, map}
use Rattle.std.specs.List.{list_any}
use Rattle.zre_outside.specs.declared.entry.Command.{Command}
use Rattle.zre_outside.specs.declared.entry.Command.TheVariants.{Quit}
use Rattle.zre_actor.specs.declared.passes.CallerPass.{CallerPass}
use Rattle.zre_actor.specs.Commands.{placed}
use Rattle.zre_actor.specs.Passes.{number, ended, put_by}
use Rattle.zre_console.specs.lines.Orders.{is_quit}
use Rattle.zre_console.specs.declared.reader.putting.PutOutcome.{PutOutcome}
use Rattle.zre_console.specs.declared.reader.putting.PutOutcome.TheVariants as sents

-- these commands were put with a pass, under its number and with those that it absorbed
pub record Puts (old new : CallerPass) (commands : List Command) : Type 0 where
  pub same_number : number new ≡ number old
  pub same_ended : ended new ≡ ended old
  pub put : put_by new ≡ put_by old ++ map (placed (number old) (ended old)) commands

-- nothing or a quit
abbrev pub IsClose : List Command → Type 0
IsClose commands = (commands ≡ []) ⊎ (commands ≡ Quit ∷ [])

-- nothing or a quit was put
abbrev pub Closes : CallerPass → CallerPass → Type 0
Closes old new = (tail : List Command) × IsClose tail × Puts old new tail

-- these commands begin others, and are fewer
abbrev pub IsShort : List Command → List Command → Type 0
IsShort front all = (next : Command) × (rest : List Command) × (all ≡ front ++ (next ∷ rest))

-- what became of a command: a quit isn't put
abbrev pub Sends : PutOutcome → CallerPass → CallerPass → Command → Type 0
Sends sents.On old new command = Puts old new (command ∷ []) × (is_quit command ≡ false)
Sends sents.Quit old new command = Puts old new [] × (is_quit command ≡ true)
Sends sents.Over old new command = Puts old new []

-- some commands were put, but not all of them, and no quit
pub record PutsFront (old new : CallerPass) (commands : List Command) : Type 0 where
  pub front : List Command
  pub next : Command
  pub rest : List Command
  pub parts : commands ≡ front ++ (next ∷ rest)
  pub none : list_any is_quit front ≡ false
  pub puts : Puts old new front

-- commands were put up to the first quit, and without it
abbrev pub PutsQuit : CallerPass → CallerPass → List Command → Type 0
PutsQuit old new commands = (f : PutsFront old new commands) × (is_quit f.next ≡ true)

-- what became of some commands
abbrev pub SendsAll : PutOutcome → CallerPass → CallerPass → List Command → Type 0
SendsAll sents.On old new commands = Puts old new commands × (list_any is_quit commands ≡ false)
SendsAll sents.Quit old new commands = PutsQuit old new commands
SendsAll sents.Over old new commands = PutsFront old new commands

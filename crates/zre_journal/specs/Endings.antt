-- Which inputs stop a node.
use Rattle.std.specs.Prelude.{Bool, true, false}
use Rattle.zre_outside.specs.declared.entry.Input.{Input}
use Rattle.zre_outside.specs.declared.entry.Input.TheVariants as input
use Rattle.zre_outside.specs.declared.entry.Command.TheVariants as command

-- the end of the journal, or the user's wish to leave
abbrev pub is_end : Input → Bool
is_end input.End = true
is_end (input.Do command.Quit) = true
is_end _ = false

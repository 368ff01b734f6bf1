-- The words of the command line.
use Rattle.std.specs.Prelude.{ℕ, Bool, List, Option, Some, None, option_map, codes, if◌then◌else◌}
use Rattle.zre_app.specs.PlainWords.{plain_of, CanDo}
use Rattle.zre_app.specs.ChatWords.{chat_of, CanChat}
use Rattle.zre_app.specs.Names.{is_named}
use Rattle.zre_app.specs.declared.command.Command.{Command}
use Rattle.zre_app.specs.declared.command.Command.TheVariants.{Plain, Chat}

-- the name of the command is `chat`
abbrev pub is_chat : List (List ℕ) → Bool
is_chat words = is_named (codes "chat") words

-- the command that the words are; none where they are in no list of words, or one isn't text
abbrev pub command_of : List (List ℕ) → Option Command
command_of words = if is_chat words then option_map Chat (chat_of words) else option_map Plain (plain_of words)

-- it can be done
abbrev pub IsReady : Option Command → Type 0
IsReady None = Unit {0}
IsReady (Some (Plain p)) = CanDo p
IsReady (Some (Chat c)) = CanChat c

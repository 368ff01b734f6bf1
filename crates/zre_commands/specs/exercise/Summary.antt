-- The lines of a summary.
use Rattle.std.specs.Prelude.{ℕ, List, ◌++◌, codes, decimal}
use Rattle.zre_commands.specs.declared.exercise.counts.Counts.{Counts}

-- a word and a number
abbrev pub count_line : List ℕ → ℕ → List ℕ
count_line word n = word ++ codes " " ++ decimal n ++ codes "\n"

-- a line for each count, one after the other
unfoldable pub summary : Counts → List ℕ
summary c =
    count_line (codes "entries") c.entries ++ count_line (codes "enter") c.enter ++ count_line (codes "join") c.join
    ++ count_line (codes "leave") c.leave ++ count_line (codes "whisper") c.whisper
    ++ count_line (codes "shout") c.shout
    ++ count_line (codes "exit") c.exit ++ count_line (codes "content") c.content

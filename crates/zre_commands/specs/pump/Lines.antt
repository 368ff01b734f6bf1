-- The last line of an input that is refused.
use Rattle.std.specs.Prelude.{ℕ, List, [], ◌++◌, codes, decimal, Option, Some, None}
use Rattle.zre_capture.specs.declared.fault.BadCapture.{BadCapture}

-- with the place of the octet, counted from 0
abbrev pub bad_line : ℕ → List ℕ
bad_line place = codes "BADINPUT " ++ decimal place ++ codes "\n"

-- with the line and the column, counted from 1
abbrev pub bad_line_at : ℕ → ℕ → List ℕ
bad_line_at line column = codes "BADINPUT " ++ decimal line ++ codes " " ++ decimal column ++ codes "\n"

-- the last line of a capture that is bad there
abbrev pub refusal : Option BadCapture → List ℕ
refusal None = []
refusal (Some b) = bad_line_at b.line b.column

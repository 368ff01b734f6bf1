-- The line of a verdict.
use Rattle.std.specs.Prelude.{ℕ, List, ◌++◌, codes, decimal}
use Rattle.zre_audit.specs.declared.verdicts.Verdict.{Verdict}
use Rattle.zre_audit.specs.declared.verdicts.Verdict.TheVariants.{Yes, No}

abbrev pub line : Verdict → List ℕ
line Yes = codes "AUDIT yes\n"
line (No side run runs links) =
    codes "AUDIT no " ++ decimal side ++ codes " " ++ decimal run ++ codes " " ++ decimal runs ++ codes " "
    ++ decimal links ++ codes "\n"

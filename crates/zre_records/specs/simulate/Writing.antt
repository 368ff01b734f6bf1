-- What a call that gathers text and writes it does.
use Rattle.std.specs.Prelude.{ℕ, List, ◌++◌, Option, Result, OnOk, OnErr}
use Rattle.zre_outside.specs.Told.{AppendsFront, WritesThrough}
use Rattle.zre_outside.specs.declared.sink.NextFault.{NextFault}

-- text came after what was gathered, and what isn't gathered now was written; after an error a front of both was
abbrev pub Writes : {A : Type 0} → Result A NextFault → List ℕ → List ℕ → Option (List ℕ) → Option (List ℕ) → List ℕ
    → Type 0
Writes result gathered gathered' written written' text =
    OnOk result (WritesThrough gathered gathered' written written' text)
    × OnErr result (AppendsFront written written' (gathered ++ text))

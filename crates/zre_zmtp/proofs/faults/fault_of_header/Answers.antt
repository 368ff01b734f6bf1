use Rattle.std.proofs.Common.{◌≡◌, ◌≤◌, ◌==◌, List, ℕ, Bool, false, length, sym, ◌∙◌, arith}
use Rattle.std.proofs.lemmas.Bool.{eqb-true, eqb-false}
use Rattle.zre_zmtp.specs.Shown.{before_of}
use Rattle.zre_zmtp.proofs.HeaderFaults.{none_there, header_missing}
use Rattle.zre_zmtp.proofs.faults.fault_of_header.Goals as goal

some_there : (o : List ℕ) (empty : Bool) → empty ≡ (length o == 0) → empty ≡ false → 1 ≤ length o
some_there o empty told is = omega (arith, eqb-false (length o) 0 (sym told ∙ is))

pub returns-then-is_empty : goal.returns-then-is_empty
returns-then-is_empty c =
    none_there (before_of c.args.progress.now) c.args.octets.now (eqb-true _ _ (sym c.is_empty.ensures ∙ c.if-is_empty.true))

pub returns-in-None : goal.returns-in-None
returns-in-None c =
    let some = some_there c.args.octets.now c.is_empty.result c.is_empty.ensures c.if-is_empty.false in
    header_missing (before_of c.args.progress.now) c.args.octets.now c.fault_of_flags.result some (sym c.read_header.ensures ∙ c.in-None.is) c.fault_of_flags.ensures

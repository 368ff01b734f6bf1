-- A call that was answered.
use Rattle.std.proofs.Common.{◌≡◌, ℕ, Option}
use Rattle.std.specs.Prelude.{Result, Ok, Err, OnOk}
use Rattle.zre_outside.specs.declared.sink.NextFault.{NextFault}
use Rattle.zre_outside.specs.Causes.{is_failed}
use Rattle.zre_outside.specs.Refusals.{refused_after}

pub answered : {T : Type 0} (r : Result T NextFault) (now before : Option ℕ) → now ≡ refused_after (is_failed r) before → OnOk r (now ≡ before)
answered (Ok value) now before is = is
answered (Err fault) now before is = tt

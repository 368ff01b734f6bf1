-- What the adapters hold.
use Rattle.std.specs.Prelude.{ℕ, Bool, Option}
use Rattle.std.specs.declared.io.Error.{Error}
use Rattle.zre_outside.specs.Refusals.{Refusals}
use Rattle.zre_outside.specs.declared.adapters.Adapter.{Adapter}

-- the reader or the writer after an adapter, how often it failed, and why the last time
abbrev pub inner_of : {T : Type 0} → Adapter T → T
inner_of a = a.inner

abbrev pub faults_of : {T : Type 0} → Adapter T → ℕ
faults_of a = a.faults.count

abbrev pub reason_of : {T : Type 0} → Adapter T → Option Error
reason_of a = a.faults.reason

-- whether the last read was refused, and with it the reads that were
abbrev pub is_refused : {T : Type 0} → Adapter T → Bool
is_refused a = a.is_refused

abbrev pub refusals_of : {T : Type 0} → Adapter T → Refusals
refusals_of a = record { count = a.faults.count; is_last = a.is_refused }

-- What a world over real sockets tells.
use Rattle.std.specs.Prelude.{◌≡◌, ◌≤◌, ℕ, Bool, Option, None, Result, IsSome, IsErrOf}
use Rattle.zre_outside.specs.declared.sink.NextFault.{NextFault}
use Rattle.zre_outside.specs.declared.sink.NextFault.TheVariants as fault
use Rattle.zre_outside.specs.Causes.{Rose, counted, is_failed}
use Rattle.zre_outside.specs.Worlds.{Log}
use Rattle.zre_fabric.specs.declared.real_world.RealWorld.{RealWorld}
use Rattle.zre_fabric.specs.declared.network_fault.Reason.{Reason}

-- it tells nothing of what it gave
abbrev pub told_of : {R : Type 0} → RealWorld R → Option Log
told_of w = None

-- whether the last turn was a look
abbrev pub has_looked : {R : Type 0} → RealWorld R → Bool
has_looked w = w.looked

-- how often it failed
abbrev pub faults_of : {R : Type 0} → RealWorld R → ℕ
faults_of w = w.faults

-- what failed last, and why
abbrev pub reason_of : {R : Type 0} → RealWorld R → Option Reason
reason_of w = w.reason

-- the count of faults never falls; it rises in a call that answers Failed, and nowhere else, and then there is a reason
abbrev pub CountsFault : {T R : Type 0} → Result T NextFault → RealWorld R → RealWorld R → Type 0
CountsFault answer old new =
    (faults_of old ≤ faults_of new) × (IsErrOf answer fault.Failed → Rose (faults_of old) (faults_of new))
    × (faults_of new ≡ counted (is_failed answer) (faults_of old))
    × (IsErrOf answer fault.Failed → IsSome (reason_of new))

-- the last reading of its clock
abbrev pub reading_of : {R : Type 0} → RealWorld R → ℕ
reading_of w = w.fabric.stopwatch.last

-- the entries since the last look, and the commands since the last entry that isn't one
abbrev pub entries_of : {R : Type 0} → RealWorld R → ℕ
entries_of w = w.fabric.since_look.entries

abbrev pub commands_of : {R : Type 0} → RealWorld R → ℕ
commands_of w = w.fabric.since_look.commands

-- the octets of the entries since the last look
abbrev pub octets_of : {R : Type 0} → RealWorld R → ℕ
octets_of w = w.fabric.since_look.octets

-- neither the last turn, nor a count, nor the reading of its clock changed
abbrev pub IsAsBefore : {R : Type 0} → RealWorld R → RealWorld R → Type 0
IsAsBefore old new =
    (has_looked new ≡ has_looked old) × (faults_of new ≡ faults_of old) × (reading_of new ≡ reading_of old)
    × (entries_of new ≡ entries_of old) × (commands_of new ≡ commands_of old) × (octets_of new ≡ octets_of old)

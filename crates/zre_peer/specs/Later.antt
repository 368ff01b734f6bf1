-- A message after others, by the view before it and the number that is due.
use Rattle.std.specs.Prelude.{◌≡◌, ◌≢◌, ℕ, Bool, false, not, ◌&&◌, ◌==◌, if◌then◌else◌, List, Result, IfErr}
use Rattle.zre_msg.specs.declared.message.Message.{Message}
use Rattle.zre_peer.specs.Views.{after, is_small}
use Rattle.zre_peer.specs.Runs.{is_hello}
use Rattle.zre_peer.specs.declared.view.View.{View}
use Rattle.zre_peer.specs.declared.peer_run.RunFault.{RunFault}
use Rattle.zre_peer.specs.declared.peer_run.RunFault.TheVariants as faults

-- whether it may come
abbrev pub goes_on : View → ℕ → Message → Bool
goes_on v number m = not (is_hello m.body) && (m.sequence == number) && is_small (after v m.body)

-- why it may not
abbrev pub later_fault : ℕ → Message → RunFault
later_fault number m =
    if is_hello m.body then faults.SecondHello
    else if m.sequence == number then faults.Limit
    else faults.Broken number m.sequence

-- It was refused, and memory isn't why: it may not come, the refusal says why, and nothing was told.
abbrev pub RefusesLater : {A : Type 0} → Result (Unit {0}) RunFault → View → ℕ → Message → List A → List A → Type 0
RefusesLater result v number m told told' =
    IfErr result (λ e. e ≢ faults.OutOfMemory →
    (goes_on v number m ≡ false) × (e ≡ later_fault number m) × (told' ≡ told))

-- What a message after HELLO does to the view, and what it tells.
use Rattle.std.specs.Prelude.{◌≡◌, ◌≢◌, ℕ, true, false, List, ◌++◌, Result, OnOk, IfErr}
use Rattle.zre_values.specs.declared.peer_id.PeerId.{PeerId}
use Rattle.zre_msg.specs.declared.message.Body.{Body}
use Rattle.zre_peer.specs.Heads.{heads_of}
use Rattle.zre_peer.specs.Lines.{lines}
use Rattle.zre_peer.specs.Runs.{events_of}
use Rattle.zre_peer.specs.Views.{after, is_small}
use Rattle.zre_peer.specs.declared.event.Event.{Event}
use Rattle.zre_peer.specs.declared.heads.Heads.{Heads}
use Rattle.zre_peer.specs.declared.view.View.{View}
use Rattle.zre_peer.specs.declared.peer_run.RunFault.{RunFault}
use Rattle.zre_peer.specs.declared.peer_run.RunFault.TheVariants as faults

-- the view v became that after the message, within the limits
abbrev pub Changes : View → View → Body → Type 0
Changes v v' b = (is_small (after v b) ≡ true) × (v' ≡ after v b)

-- the same, and its events were appended
abbrev pub ChangesWithEvents : PeerId → View → View → Body → List Event → List Event → Type 0
ChangesWithEvents id v v' b events events' =
    (is_small (after v b) ≡ true) × (v' ≡ after v b) × (events' ≡ events ++ events_of id v b)

-- The lines of its events were appended, where these are the beginnings of the lines of that peer.
abbrev pub TellsLines : Result (Unit {0}) RunFault → Heads → View → Body → List ℕ → List ℕ → Type 0
TellsLines result heads v b out out' =
    (id : PeerId) → heads ≡ heads_of id v.name → OnOk result (out' ≡ out ++ lines (events_of id v b))

-- It was refused, and memory isn't why: the view after it would pass a limit, and nothing was told.
abbrev pub PassesLimit : {A : Type 0} → Result (Unit {0}) RunFault → View → Body → List A → List A → Type 0
PassesLimit result v b told told' =
    IfErr result (λ e. e ≢ faults.OutOfMemory →
    (is_small (after v b) ≡ false) × (e ≡ faults.Limit) × (told' ≡ told))

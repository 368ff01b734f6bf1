-- What a run knows of the messages that it took.
use Rattle.std.specs.Prelude.{◌≡◌, ◌≢◌, ℕ, ◌%◌, Bool, true, false, List, [], ◌∷◌, ◌++◌, length, Option, Result, OnOk}
use Rattle.std.specs.Prelude.{IfErr}
use Rattle.std.specs.Option.{ForSome}
use Rattle.zre_msg.specs.declared.message.Message.{Message}
use Rattle.zre_values.specs.declared.peer_id.PeerId.{PeerId}
use Rattle.zre_peer.specs.declared.peer_run.Run.{Run}
use Rattle.zre_peer.specs.declared.peer_run.RunFault.{RunFault}
use Rattle.zre_peer.specs.declared.peer_run.RunFault.TheVariants as faults
use Rattle.zre_peer.specs.declared.view.View.{View}
use Rattle.zre_peer.specs.Runs.{shown, in_order, events_of, may_follow, fault_of}
use Rattle.zre_peer.specs.declared.event.Event.{Event}
use Rattle.zre_peer.specs.Lines.{lines}
use Rattle.zre_peer.specs.Views.{view_of}
use Rattle.zre_peer.specs.Heads.{heads_of}
use Rattle.zre_peer.specs.declared.heads.Heads.{Heads}

-- the run has taken these messages, which are in order
pub record Stands (r : Run) (messages : List Message) : Type 0 where
  pub ordered : in_order messages ≡ true
  pub going : r.spent ≡ false
  pub view : r.view ≡ shown messages
  pub count : r.count ≡ length messages % 65536

-- the peer that the run is of
abbrev pub id_of : Run → PeerId
id_of r = r.id

-- the view that it shows
abbrev pub view_in : Run → Option View
view_in r = r.view

-- whether it refused a message, so that it takes no more
abbrev pub is_spent : Run → Bool
is_spent r = r.spent

-- from HELLO on these are the beginnings of the peer's lines
abbrev pub IsReady : Run → Heads → Type 0
IsReady r heads = ForSome r.view (λ v. heads ≡ heads_of r.id v.name)

-- A message was taken, after whatever the run had taken: it may follow, the run stands after it, and its events were
-- appended.
abbrev pub Takes : Result (Unit {0}) RunFault → Run → Run → Message → List Event → List Event → Type 0
Takes result was now m events events' =
    (messages : List Message) → Stands was messages →
    OnOk result ((may_follow messages m ≡ true) × Stands now (messages ++ m ∷ [])
    × (events' ≡ events ++ events_of (id_of was) (view_of messages) m.body))

-- It was refused, and memory isn't why: it may not follow, the refusal says why, and nothing was appended.
abbrev pub RefusesToTake : Result (Unit {0}) RunFault → Run → Message → List Event → List Event → Type 0
RefusesToTake result was m events events' =
    (messages : List Message) → Stands was messages →
    IfErr result (λ e. e ≢ faults.OutOfMemory →
    (may_follow messages m ≡ false) × (in_order (messages ++ m ∷ []) ≡ false) × (e ≡ fault_of messages m)
    × (events' ≡ events))

-- ---- a run whose events are wanted as lines

-- A message was taken, after whatever the run had taken: it may follow, the run stands after it, and the lines of its
-- events were appended.
abbrev pub Tells : Result (Unit {0}) RunFault → Run → Run → Message → List ℕ → List ℕ → Type 0
Tells result was now m out out' =
    (messages : List Message) → Stands was messages →
    OnOk result ((may_follow messages m ≡ true) × Stands now (messages ++ m ∷ [])
    × (out' ≡ out ++ lines (events_of (id_of was) (view_of messages) m.body)))

-- It was refused, and memory isn't why: it may not follow, the refusal says why, and nothing was appended.
abbrev pub RefusesToTell : Result (Unit {0}) RunFault → Run → Message → List ℕ → List ℕ → Type 0
RefusesToTell result was m out out' =
    (messages : List Message) → Stands was messages →
    IfErr result (λ e. e ≢ faults.OutOfMemory →
    (may_follow messages m ≡ false) × (e ≡ fault_of messages m) × (out' ≡ out))

-- After such a refusal the run is spent, and shows what it showed before.
abbrev pub IsSpentByRefusal : Result (Unit {0}) RunFault → Run → Run → Type 0
IsSpentByRefusal result was now =
    IfErr result (λ e. e ≢ faults.OutOfMemory → (is_spent now ≡ true) × (view_in now ≡ view_in was))

-- a run was handed a message, and answered so
pub record Handed (answer : Result (Unit {0}) RunFault) (was now : Run) (m : Message) (out out' : List ℕ) : Type 0 where
  pub ok : Tells answer was now m out out'
  pub going : OnOk answer (is_spent now ≡ false)
  pub refused : RefusesToTell answer was m out out'
  pub spent : IsSpentByRefusal answer was now
  pub id : id_of now ≡ id_of was

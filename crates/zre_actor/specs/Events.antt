-- The event pipe.
use Rattle.std.specs.Prelude.{◌≡◌, ℕ, Bool, true, false, List, [], ◌∷◌, ◌++◌, map, Option, Some, None}
use mathlib.Core.Option.{some}
use lib.ListN.{get_elem?}
use Rattle.zre_peer.specs.declared.event.Event.{Event}
use Rattle.zre_actor.specs.declared.ending.Ending.{Ending}
use Rattle.zre_actor.specs.declared.told.Told.{Told}
use Rattle.zre_actor.specs.declared.told.Told.TheVariants as told
use Rattle.zre_actor.specs.declared.views.EventView.{EventView}

abbrev pub hearing : Bool → List Event → Option Ending → Bool → List Event → Option Ending → EventView
hearing raises raised ended_by takes taken last =
    record { raises = raises; raised = raised; ended_by = ended_by; takes = takes; taken = taken; last = last }

abbrev pub event_of : Event → Told
event_of e = told.Event e

-- what is queued, where these events were raised and not taken: after them Last stands once, from when it was pushed
-- until it is taken
abbrev pub Queued : Option Ending → Option Ending → List Event → List Told → Type 0
Queued None None rest items = items ≡ map event_of rest
Queued None (Some last) rest items = ⊥
Queued (Some ending) None rest items = items ≡ map event_of rest ++ told.Last ending ∷ []
Queued (Some ending) (Some last) rest items = (ending ≡ last) × (rest ≡ []) × (items ≡ [])

-- one pass at most is the actor's, and knows what was raised; one at most is the taker's, and knows what was taken
abbrev pub Fits : ℕ → List Event → Option Ending → ℕ → List Event → Option Ending → ℕ → EventView → Type 0
Fits actor raised ended_by taker taken last pass v =
    (v.raises ≡ true → (pass ≡ actor) × (v.raised ≡ raised) × (v.ended_by ≡ ended_by))
    × (v.takes ≡ true → (pass ≡ taker) × (v.taken ≡ taken) × (v.last ≡ last))

abbrev pub EventRule : List Told → List EventView → Type 0
EventRule items views =
    (actor : ℕ) × (raised : List Event) × (ended_by : Option Ending) × (taker : ℕ) × (taken : List Event)
    × (last : Option Ending) × (rest : List Event)
    × (raised ≡ taken ++ rest) × Queued ended_by last rest items
    × ((pass : ℕ) (v : EventView) → get_elem? views pass ≡ some v → Fits actor raised ended_by taker taken last pass v)

abbrev pub first_hearing : EventView
first_hearing = hearing true [] None true [] None

abbrev pub actors : EventView → EventView
actors v = hearing true v.raised v.ended_by false [] None

abbrev pub takers : EventView → EventView
takers v = hearing false [] None true v.taken v.last

abbrev pub met : EventView → EventView → EventView
met v w = hearing true v.raised v.ended_by true w.taken w.last

abbrev pub deaf : EventView
deaf = hearing false [] None false [] None

-- a push adds an event to what was raised, or fixes the ending
abbrev pub sent : EventView → Told → EventView
sent v (told.Event e) = hearing v.raises (v.raised ++ e ∷ []) v.ended_by v.takes v.taken v.last
sent v (told.Last x) = hearing v.raises v.raised (Some x) v.takes v.taken v.last

-- a pop adds an event to what was taken, or fixes the last
abbrev pub heard : EventView → Told → EventView
heard v (told.Event e) = hearing v.raises v.raised v.ended_by v.takes (v.taken ++ e ∷ []) v.last
heard v (told.Last x) = hearing v.raises v.raised v.ended_by v.takes v.taken (Some x)

-- once Last was taken, all that was raised was taken, and the two endings are one
abbrev pub AllHeard : EventView → Type 0
AllHeard v = (v.taken ≡ v.raised) × (v.last ≡ v.ended_by)

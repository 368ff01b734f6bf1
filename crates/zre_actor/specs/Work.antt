-- What the actor's work comes to.
use Rattle.std.specs.Prelude.{◌≡◌, ◌≢◌, ◌⊎◌, ℕ, ◌+◌, ◌≤◌, ◌<◌, ◌==◌, ◌&&◌, Bool, true, false, cond, nat_lt, List, []}
use Rattle.std.specs.Prelude.{◌∷◌, ◌++◌, map, flat_map, length, All, Option, Some, option_map, IsTrue, Result, Ok, Err}
use mathlib.Core.List.{Sublist}
use Rattle.std.specs.Io.KnownBytes.{Appends}
use Rattle.zre_outside.specs.declared.act.Act.{Act}
use Rattle.zre_outside.specs.declared.act.Act.TheVariants as act
use Rattle.zre_outside.specs.declared.deed.Deed.{Deed}
use Rattle.zre_outside.specs.declared.deed.Deed.TheVariants as deed
use Rattle.zre_outside.specs.declared.entry.Entry.{Entry}
use Rattle.zre_outside.specs.declared.entry.Input.{Input}
use Rattle.zre_outside.specs.declared.entry.Input.TheVariants as input
use Rattle.zre_outside.specs.declared.entry.Command.{Command}
use Rattle.zre_outside.specs.declared.entry.Command.TheVariants as ask
use Rattle.zre_outside.specs.declared.sink.NextFault.{NextFault}
use Rattle.zre_outside.specs.declared.sink.NextFault.TheVariants as fault
use Rattle.zre_outside.specs.Causes.{Rose}
use Rattle.zre_outside.specs.Worlds.{Log}
use Rattle.zre_peer.specs.declared.event.Event.{Event}
use Rattle.zre_values.specs.declared.settings.Settings.{Settings as Config}
use Rattle.zre_journal.specs.Asked.{front_after}
use Rattle.zre_journal.specs.Events.{chronicle, events, acts_after}
use Rattle.zre_journal.specs.Happens.{has_stopped}
use Rattle.zre_node.specs.declared.node.Node.{Node}
use Rattle.zre_node.specs.Journal.{StandsFor, is_spent}
use Rattle.zre_capture.specs.Lines.{line, lines, IsEntry}
use Rattle.zre_capture.specs.Journal.{last_reading}
use Rattle.zre_capture.specs.declared.format.Format.TheVariants.{Second}
use Rattle.zre_actor.specs.declared.ending.Ending.{Ending}
use Rattle.zre_actor.specs.declared.ending.Ending.TheVariants as ending
use Rattle.zre_actor.specs.declared.views.Placed.{Placed}
use Rattle.zre_actor.specs.declared.passes.ActorPass.{ActorPass}
use Rattle.zre_actor.specs.Commands.{command_of}
use Rattle.zre_actor.specs.Passes.{popped_by, raised_by}

-- what is seen at one moment of the work
pub record WorkScene : Type 0 where
  -- what the world tells, whether it looked last, and how often it failed
  pub told : Option Log
  pub looked : Bool
  pub world_faults : ℕ
  -- what the recorder keeps, and how often it failed
  pub kept : Option (List ℕ)
  pub record_faults : ℕ
  -- what the actor popped and raised, and how often it found the pipe empty
  pub popped : List Placed
  pub raised : List Event
  pub empties : ℕ

abbrev pub scene : Option Log → Bool → ℕ → Option (List ℕ) → ℕ → ActorPass → WorkScene
scene told looked wf kept rf pass =
    record {
      told = told;
      looked = looked;
      world_faults = wf;
      kept = kept;
      record_faults = rf;
      popped = popped_by pass;
      raised = raised_by pass;
      empties = pass.empties;
    }

-- a world went on by these entries, looks, commands and deeds
abbrev pub went : List Entry → ℕ → List Command → List Deed → Log → Log
went given looks handed deeds l =
    record {
      begun = l.begun;
      given = l.given ++ given;
      looks = l.looks + looks;
      handed = l.handed ++ handed;
      done = l.done ++ deeds;
    }

-- ---- acts

-- what a world does for an act of a node that stands for J: an offer has some of the first octets that the link may
-- send
abbrev pub IsDeed : Config → List Entry → Act → Deed → Type 0
IsDeed g J (act.Offer l) d =
    (bytes : List ℕ) × (rest : List ℕ) × (d ≡ deed.Offered l bytes) × (bytes ≢ [])
    × (front_after g J l ≡ Some (bytes ++ rest))
IsDeed g J a d = d ≡ deed.Done a

-- the same of acts, one by one; each has the journal up to its entry beside it
abbrev pub AreDeeds : Config → List (List Entry × Act) → List Deed → Type 0
AreDeeds g [] [] = Unit {0}
AreDeeds g [] (d ∷ ds) = ⊥
AreDeeds g (x ∷ xs) [] = ⊥
AreDeeds g (x ∷ xs) (d ∷ ds) = IsDeed g x.0 x.1 d × AreDeeds g xs ds

-- these acts, each beside J
abbrev pub beside : List Entry → List Act → List (List Entry × Act)
beside J acts = map (λ a. (J, a)) acts

-- the acts of these entries after J, each beside the journal up to its entry
abbrev pub acts_of : Config → List Entry → List Entry → List (List Entry × Act)
acts_of g J [] = []
acts_of g J (e ∷ es) = beside (J ++ e ∷ []) (acts_after g (e ∷ []) (chronicle g J)) ++ acts_of g (J ++ e ∷ []) es

-- ---- turns

-- the command of an entry to do one
abbrev pub command_in : Input → List Command
command_in (input.Do c) = c ∷ []
command_in i = []

-- the commands that entries do, in order
abbrev pub done_by : List Entry → List Command
done_by entries = flat_map (λ e. command_in e.input) entries

-- the last turn that the limit allows was a look, after which nothing is popped
abbrev pub late : ℕ → ℕ → Bool → ℕ
late turns limit looked = cond (nat_lt 0 limit && (turns == limit) && looked) 1 0

-- so many turns were answered: these entries were given and these deeds done, and the pending commands were popped
-- and not handed on
pub record Goes (turns limit : ℕ) (s t : WorkScene) (given : List Entry) (deeds : List Deed) (pending : List Command)
    : Type 0 where
  pub looks : ℕ
  pub handed : List Command
  pub is_told : t.told ≡ option_map (went given looks handed deeds) s.told
  pub counted : length given + looks ≡ turns
  -- the commands handed on are those popped, in order
  pub popped : List Placed
  pub is_popped : t.popped ≡ s.popped ++ popped
  pub are_handed : map command_of popped ≡ handed ++ pending
  -- each that was handed on is done by an entry, in order
  pub are_done : Sublist handed (done_by given)
  -- after each look the pipe was popped once
  pub are_looks : looks + s.empties ≡ length popped + t.empties + late turns limit t.looked

-- ---- endings

-- the ending where the world refuses a turn
abbrev pub world_ending : NextFault → Ending
world_ending fault.Failed = ending.WorldFault
world_ending fault.OutOfMemory = ending.OutOfMemory

-- the endings of which the world's and the recorder's refusals are the cause
abbrev pub is_world_fault : Ending → Bool
is_world_fault ending.WorldFault = true
is_world_fault _ = false

abbrev pub is_record_fault : Ending → Bool
is_record_fault ending.RecordFault = true
is_record_fault _ = false

-- the recorder refused a line
abbrev pub is_unkept : {T : Type 0} → Result T Ending → Bool
is_unkept (Ok value) = false
is_unkept (Err ended) = is_record_fault ended

-- what each ending says: whether the node stopped, how many turns were answered, whose count rose, which entry wasn't
-- stepped, which command wasn't handed on
abbrev pub Ends : Ending → Bool → ℕ → ℕ → Bool → WorkScene → WorkScene → List Entry → List Command → Type 0
Ends ending.Stopped stopped turns limit keep s t unstepped pending =
    (stopped ≡ true) × (unstepped ≡ []) × (pending ≡ [])
Ends ending.WorldFault stopped turns limit keep s t unstepped pending =
    (stopped ≡ false) × (unstepped ≡ []) × (length pending ≤ 1) × (turns < limit) × Rose s.world_faults t.world_faults
Ends ending.RecordFault stopped turns limit keep s t unstepped pending =
    (stopped ≡ false) × (length unstepped ≡ 1) × (pending ≡ []) × (keep ≡ true) × Rose s.record_faults t.record_faults
Ends ending.TooLong stopped turns limit keep s t unstepped pending =
    (stopped ≡ false) × (unstepped ≡ []) × (pending ≡ []) × (turns ≡ limit)
Ends ending.OutOfMemory stopped turns limit keep s t unstepped pending = length unstepped + length pending ≤ 1

-- a recorder holds the lines of format 2 of entries more, the first of them after the reading 0 and each other after
-- that of the entry before it, and then a front of the line of the one that wasn't stepped
pub record KeptLines (before now : Option (List ℕ)) (entries unstepped : List Entry) : Type 0 where
  pub part : List ℕ
  pub rest : List ℕ
  pub is_kept : Appends before now (lines Second 0 entries ++ part)
  pub is_part : lines Second (last_reading 0 entries) unstepped ≡ part ++ rest

-- a Quit stands at the end of commands, and nowhere else
abbrev pub QuitsLast : List Command → Type 0
QuitsLast [] = Unit {0}
QuitsLast (c ∷ cs) = (c ≡ ask.Quit → cs ≡ []) × QuitsLast cs

-- the node hadn't stopped before any of these entries after J
abbrev pub AllGo : Config → List Entry → List Entry → Type 0
AllGo g J [] = Unit {0}
AllGo g J (e ∷ es) = (has_stopped (chronicle g J) ≡ false) × AllGo g (J ++ e ∷ []) es

-- the work of a node that stood for K
pub record IsWork (g : Config) (K : List Entry) (keep : Bool) (limit : ℕ) (s t : WorkScene) (n : Node) (ended : Ending)
    : Type 0 where
  pub turns : ℕ
  -- what the world gave: the entries that the node took, and at most one that it didn't
  pub entries : List Entry
  pub unstepped : List Entry
  pub pending : List Command
  pub deeds : List Deed
  pub goes : Goes turns limit s t (entries ++ unstepped) deeds pending
  -- no more turns were answered than the limit allows, and nothing was given after the entry that stopped the node
  pub most : turns ≤ limit
  pub all_go : AllGo g K (entries ++ unstepped)
  -- each is a value of its types
  pub are_values : All IsEntry (entries ++ unstepped)
  -- nothing was popped after a Quit
  pub quits_last : QuitsLast (map command_of goes.popped)
  -- the node stands for what it took, unless it found no memory for its last step
  pub node : StandsFor g (K ++ entries) n
      ⊎ (IsTrue (is_spent n) × (ended ≡ ending.OutOfMemory) × (length unstepped ≡ 1))
  -- the acts of these steps were done in order, all of them unless memory ran out
  pub did : List (List Entry × Act)
  pub undone : List (List Entry × Act)
  pub are_acts : acts_of g K entries ≡ did ++ undone
  pub are_deeds : AreDeeds g did deeds
  pub all_done : ended ≢ ending.OutOfMemory → undone ≡ []
  -- their events were raised, all of them unless memory ran out
  pub raised : List Event
  pub untold : List Event
  pub are_events : events g (K ++ entries) ≡ events g K ++ (raised ++ untold)
  pub are_raised : t.raised ≡ s.raised ++ raised
  pub all_raised : ended ≢ ending.OutOfMemory → untold ≡ []
  -- their lines were kept
  pub are_kept : keep ≡ true → KeptLines s.kept t.kept entries unstepped
  pub ends : Ends ended (has_stopped (chronicle g (K ++ entries))) turns limit keep s t unstepped pending

-- ---- one entry

-- a recorder refused a line
abbrev pub IsRefusal : ℕ → ℕ → Ending → Type 0
IsRefusal rf rf' ended = (ended ≡ ending.OutOfMemory) ⊎ ((ended ≡ ending.RecordFault) × Rose rf rf')

-- a world did the first of these acts of a node that stands for J, or all of them
pub record DoesAll (g : Config) (J : List Entry) (acts : List Act) (all : Bool) (told told' : Option Log) : Type 0 where
  pub did : List Act
  pub undone : List Act
  pub deeds : List Deed
  pub are_acts : acts ≡ did ++ undone
  pub are_deeds : AreDeeds g (beside J did) deeds
  pub is_told : told' ≡ option_map (went [] 0 [] deeds) told
  pub all_done : all ≡ true → undone ≡ []

-- an entry was put after this reading, stepped and done after J, and these events are to be raised
pub record Went (g : Config) (J : List Entry) (e : Entry) (keep : Bool) (before : ℕ) (told told' : Option Log)
    (kept kept' : Option (List ℕ)) (n : Node) (es : List Event) : Type 0 where
  pub stands : StandsFor g (J ++ e ∷ []) n
  pub deeds : List Deed
  pub are_deeds : AreDeeds g (beside (J ++ e ∷ []) (acts_after g (e ∷ []) (chronicle g J))) deeds
  pub is_told : told' ≡ option_map (went [] 0 [] deeds) told
  pub are_events : events g (J ++ e ∷ []) ≡ events g J ++ es
  pub is_kept : keep ≡ true → Appends kept kept' (line Second before e)

-- its line wasn't kept, so it wasn't stepped
pub record IsUnput (g : Config) (J : List Entry) (e : Entry) (keep : Bool) (before : ℕ) (told told' : Option Log)
    (kept kept' : Option (List ℕ)) (rf rf' : ℕ) (n : Node) (ended : Ending) : Type 0 where
  pub stands : StandsFor g J n
  pub is_told : told' ≡ told
  pub part : List ℕ
  pub rest : List ℕ
  pub is_kept : Appends kept kept' part
  pub is_part : line Second before e ≡ part ++ rest
  pub keeps : keep ≡ true
  pub ends : IsRefusal rf rf' ended

-- the node found no memory for it
pub record IsUnstepped (e : Entry) (keep : Bool) (before : ℕ) (told told' : Option Log)
    (kept kept' : Option (List ℕ)) (n : Node) (ended : Ending) : Type 0 where
  pub spent : IsTrue (is_spent n)
  pub is_told : told' ≡ told
  pub is_kept : keep ≡ true → Appends kept kept' (line Second before e)
  pub ends : ended ≡ ending.OutOfMemory

-- the world found no memory for an act
pub record IsUndone (g : Config) (J : List Entry) (e : Entry) (keep : Bool) (before : ℕ) (told told' : Option Log)
    (kept kept' : Option (List ℕ)) (n : Node) (ended : Ending) : Type 0 where
  pub stands : StandsFor g (J ++ e ∷ []) n
  pub did : List (List Entry × Act)
  pub undone : List (List Entry × Act)
  pub deeds : List Deed
  pub are_acts : beside (J ++ e ∷ []) (acts_after g (e ∷ []) (chronicle g J)) ≡ did ++ undone
  pub are_deeds : AreDeeds g did deeds
  pub is_told : told' ≡ option_map (went [] 0 [] deeds) told
  pub untold : List Event
  pub are_events : events g (J ++ e ∷ []) ≡ events g J ++ untold
  pub is_kept : keep ≡ true → Appends kept kept' (line Second before e)
  pub ends : ended ≡ ending.OutOfMemory

-- an entry that wasn't put, wasn't stepped, or wasn't done whole
abbrev pub Broke : Config → List Entry → Entry → Bool → ℕ → Option Log → Option Log → Option (List ℕ)
    → Option (List ℕ) → ℕ → ℕ → Node → Ending → Type 0
Broke g J e keep before told told' kept kept' rf rf' n ended =
    IsUnput g J e keep before told told' kept kept' rf rf' n ended
    ⊎ (IsUnstepped e keep before told told' kept kept' n ended
    ⊎ IsUndone g J e keep before told told' kept kept' n ended)

-- The work so far, and what each turn adds.
use Rattle.std.proofs.Common.{◌≡◌, ◌≢◌, ℕ, zero, suc, ◌+◌, ◌^◌, ◌≤◌, ◌<◌, ◌==◌, ◌&&◌, Bool, true, false, true≢false, cond, nat_lt, List, [], ◌∷◌, ◌++◌, map, length, Option, Some, None, refl, sym, ap, ◌∙◌, subst, arith, append_assoc, append-nil, length-append, eq-eqb, ne_eqb, ⊎_elim}
use mathlib.Core.Logic.{inl, inr}
use mathlib.Core.List.{Sublist, nil-sublist}
use mathlib.Core.List.Sublist as sublists
use Rattle.std.specs.Prelude.{◌⊎◌, All, option_map, option_to_list, IsTrue}
use Rattle.std.specs.Io.KnownBytes.{Appends}
use Rattle.std.proofs.KnownBytes.{Appends-nil, Appends-trans}
use Rattle.std.proofs.lemmas.List.{map-append}
use Rattle.std.proofs.lemmas.List.Elements.{All-nil, All-push}
use Rattle.std.proofs.lemmas.Grind.{flat_map-append}
use Rattle.std.proofs.lemmas.Bool.Decides.{nat_tests}
use Rattle.zre_outside.specs.declared.deed.Deed.{Deed}
use Rattle.zre_outside.specs.declared.entry.Entry.{Entry}
use Rattle.zre_outside.specs.declared.entry.Command.{Command}
use Rattle.zre_outside.specs.declared.turn.Turn.TheVariants as turn
use Rattle.zre_outside.specs.declared.sink.NextFault.{NextFault}
use Rattle.zre_outside.specs.declared.sink.NextFault.TheVariants as fault
use Rattle.zre_outside.specs.Causes.{Rose, raised}
use Rattle.zre_outside.specs.Worlds.{Log, IsTurn, after_turn}
use Rattle.zre_outside.proofs.CountsThatRose.{rose_since}
use Rattle.zre_peer.specs.declared.event.Event.{Event}
use Rattle.zre_values.specs.declared.settings.Settings.{Settings as Config}
use Rattle.zre_journal.specs.Events.{chronicle, events}
use Rattle.zre_journal.specs.Happens.{has_stopped}
use Rattle.zre_node.specs.declared.node.Node.{Node}
use Rattle.zre_node.specs.Journal.{StandsFor, is_spent}
use Rattle.zre_capture.specs.Lines.{line, lines, IsEntry}
use Rattle.zre_capture.specs.Journal.{last_reading}
use Rattle.zre_capture.specs.declared.format.Format.TheVariants.{Second}
use Rattle.zre_capture.proofs.JoinedEntries.{last-append, lines-append}
use Rattle.zre_actor.specs.declared.ending.Ending.{Ending}
use Rattle.zre_actor.specs.declared.ending.Ending.TheVariants as ending
use Rattle.zre_actor.specs.declared.views.Placed.{Placed}
use Rattle.zre_actor.specs.declared.passes.ActorPass.{ActorPass}
use Rattle.zre_actor.specs.Commands.{command_of}
use Rattle.zre_actor.specs.Passes.{IsPopped}
use Rattle.zre_actor.specs.Work.{WorkScene, scene, went, AreDeeds, acts_of, late, command_in, done_by, Goes, world_ending, Ends, KeptLines, QuitsLast, AllGo, IsWork, Went, IsRefusal, IsUnput, IsUnstepped, IsUndone, Broke}
use Rattle.zre_actor.proofs.QuitIsLast.{NoQuit, quits_snoc, no_quit_more, no_quit}
use Rattle.zre_actor.proofs.DeedsOfActs.{went-none, after_look, after_entry, AreDeeds-append, acts_of-snoc}

not_late : (turns limit : ℕ) (looked : Bool) → turns ≢ limit → late turns limit looked ≡ 0
not_late turns limit looked ne = let differ : (turns == limit) ≡ false = ne_eqb turns limit ne in
    let count : Bool → ℕ = λ b. cond b 1 0 in let none : count false ≡ 0 = refl in
    elim (nat_lt 0 limit) as (λ b. count (b && (turns == limit) && looked) ≡ count false) [ true ↦ ap (λ b. count (b && looked)) differ | false ↦ refl ]

never_late : (turns limit : ℕ) → late turns limit false ≡ 0
never_late turns limit = let count : Bool → ℕ = λ b. cond b 1 0 in
    elim (nat_lt 0 limit && (turns == limit)) as (λ b. count (b && false) ≡ count false) [ true ↦ refl | false ↦ refl ]

start_late : (limit : ℕ) (looked : Bool) → late 0 limit looked ≡ 0
start_late zero looked = refl
start_late (suc n) looked = not_late 0 (suc n) looked (λ e. omega arith)

is_late : (turns limit : ℕ) → turns ≡ limit → 0 < limit → late turns limit true ≡ 1
is_late turns limit e pos = let same : (turns == limit) ≡ true = eq-eqb turns limit e in let some_ : nat_lt 0 limit ≡ true = grind (arith, nat_tests) in
    ap (λ b. cond (b && (turns == limit) && true) 1 0) some_ ∙ ap (λ b. cond (b && true) 1 0) same

-- one line more, after the reading of the last entry
lines-snoc : (es : List Entry) (e : Entry) → lines Second 0 (es ++ e ∷ []) ≡ lines Second 0 es ++ line Second (last_reading 0 es) e
lines-snoc es e = lines-append Second 0 es (e ∷ []) ∙ ap (λ l. lines Second 0 es ++ l) (append-nil (line Second (last_reading 0 es) e))

-- the line of an entry after the reading of the last is that after this one, which is the same
next_line : (before : ℕ) (es : List Entry) (e : Entry) → before ≡ last_reading 0 es → line Second before e ≡ line Second (last_reading 0 es) e
next_line before es e is = ap (λ b. line Second b e) is

kept_more : (a b c : Option (List ℕ)) (before : ℕ) (es : List Entry) (e : Entry) → before ≡ last_reading 0 es → Appends a b (lines Second 0 es) → Appends b c (line Second before e)
    → Appends a c (lines Second 0 (es ++ e ∷ []))
kept_more a b c before es e is p q =
    subst (Appends a c) (ap (λ l. lines Second 0 es ++ l) (next_line before es e is) ∙ sym (lines-snoc es e)) (Appends-trans a b c (lines Second 0 es) (line Second before e) p q)

few : (c : Option Command) → length (option_to_list c) ≤ 1
few None = omega arith
few (Some c) = omega arith

-- what the actor popped: nothing, and one find of an empty pipe more, or a command
abbrev pub Pops : WorkScene → Option Command → WorkScene → Type 0
Pops t None u = (u.popped ≡ t.popped) × (u.empties ≡ t.empties + 1)
Pops t (Some c) u = ((e : Placed) × (e.command ≡ c) × (u.popped ≡ t.popped ++ e ∷ [])) × (u.empties ≡ t.empties)

-- a pop, where the count of finds doesn't stand at its end
pub pops : (a b : ActorPass) (found : Option Command) (told told' : Option Log) (looked looked' : Bool) (wf wf' : ℕ) (kept : Option (List ℕ)) (rf : ℕ) → a.empties + 1 < 2 ^ 64 → IsPopped a found b
    → Pops (scene told looked wf kept rf a) found (scene told' looked' wf' kept rf b)
pops a b None told told' looked looked' wf wf' kept rf room p = (p.0, omega (arith, p.1))
pops a b (Some c) told told' looked looked' wf wf' kept rf room p = p

-- one entry more came to a node that went on
go_more : (g : Config) (J es : List Entry) (e : Entry) → AllGo g J es → has_stopped (chronicle g (J ++ es)) ≡ false → AllGo g J (es ++ e ∷ [])
go_more g J [] e go on = (subst (λ l. has_stopped (chronicle g l) ≡ false) (append-nil J) on, tt)
go_more g J (x ∷ es) e go on = (go.0, go_more g (J ++ x ∷ []) es e go.1 (subst (λ l. has_stopped (chronicle g l) ≡ false) (sym (append_assoc J (x ∷ []) es)) on))

module _ (g : Config) (K : List Entry) (keep : Bool) (limit : ℕ) (s : WorkScene) where
  -- the node took these entries after K: its acts are done, and its events are those that are told here
  pub record Ran (n : Node) : Type 0 where
    pub entries : List Entry
    pub deeds : List Deed
    pub all_go : AllGo g K entries
    pub are_values : All IsEntry entries
    pub node : StandsFor g (K ++ entries) n
    pub are_deeds : AreDeeds g (acts_of g K entries) deeds
    pub told : List Event
    pub are_events : events g (K ++ entries) ≡ events g K ++ told

  -- after so many turns: the node took all that was given, its acts are done, its events raised and its lines kept
  pub record Running (turns : ℕ) (t : WorkScene) (n : Node) (command : Option Command) (before : ℕ) : Type 0 where
    pub ran : Ran n
    pub goes : Goes turns limit s t ran.entries ran.deeds (option_to_list command)
    pub most : turns ≤ limit
    pub are_raised : t.raised ≡ s.raised ++ ran.told
    pub are_kept : keep ≡ true → Appends s.kept t.kept (lines Second 0 ran.entries)
    -- the reading of the last entry
    pub is_before : before ≡ last_reading 0 ran.entries
    pub busy : (c : Command) → command ≡ Some c → has_stopped (chronicle g (K ++ ran.entries)) ≡ false
    -- no Quit was handed to a node that goes on, and nothing was popped after one
    pub unquit : has_stopped (chronicle g (K ++ ran.entries)) ≡ false → NoQuit goes.handed
    pub quits_last : QuitsLast (map command_of goes.popped)
    pub world_later : s.world_faults ≤ t.world_faults
    pub record_later : s.record_faults ≤ t.record_faults

  -- the same, of lists and of a scene that are the same
  abbrev goes_as : (es es' : List Entry) (ds ds' : List Deed) (turns : ℕ) (t u : WorkScene) (pending : List Command) → Goes turns limit s t es ds pending → es ≡ es' → ds ≡ ds'
      → u.told ≡ t.told → u.looked ≡ t.looked → u.popped ≡ t.popped → u.empties ≡ t.empties → Goes turns limit s u es' ds' pending
  goes_as es es' ds ds' turns t u pending h e d told looked popped empties = let same : late turns limit u.looked ≡ late turns limit t.looked = ap (late turns limit) looked in record {
    looks = h.looks;
    handed = h.handed;
    is_told = told ∙ h.is_told ∙ ap (λ (x : List Entry × List Deed). option_map (went x.0 h.looks h.handed x.1) s.told) (λ i. (e i, d i));
    counted = ap (λ l. length l + h.looks) (sym e) ∙ h.counted;
    popped = h.popped;
    is_popped = popped ∙ h.is_popped;
    are_handed = h.are_handed;
    are_done = subst (λ l. Sublist h.handed (done_by l)) e h.are_done;
    are_looks = omega (arith, h.are_looks, empties, same);
  }

  pub running_start : (n : Node) → StandsFor g K n → Running 0 s n None 0
  running_start n here = record {
    ran = record {
      entries = [];
      deeds = [];
      all_go = tt;
      are_values = All-nil IsEntry;
      node = subst (λ J. StandsFor g J n) (sym (append-nil K)) here;
      are_deeds = tt;
      told = [];
      are_events = ap (events g) (append-nil K) ∙ sym (append-nil (events g K));
    };
    goes = record {
      looks = 0;
      handed = [];
      is_told = went-none s.told;
      counted = refl;
      popped = [];
      is_popped = sym (append-nil s.popped);
      are_handed = refl;
      are_done = nil-sublist [];
      are_looks = (let z : late 0 limit s.looked ≡ 0 = start_late limit s.looked in omega arith);
    };
    most = omega arith;
    are_raised = sym (append-nil s.raised);
    are_kept = λ _. Appends-nil s.kept;
    is_before = refl;
    busy = λ c is. absurd (cc);
    unquit = λ _. tt;
    quits_last = tt;
    world_later = omega arith;
    record_later = omega arith;
  }

  module _ (turns : ℕ) (t : WorkScene) (n : Node) (command : Option Command) (before : ℕ) (k : Running turns t n command before) where
    -- the pipe was not found empty more often than there were turns
    pub rare : t.empties ≤ s.empties + turns
    rare = let h = k.goes in omega (arith, h.counted, h.are_looks)

    -- a command in hand is no answer to a look
    no_command : (c : Option Command) → IsTurn c turn.Look → option_to_list c ≡ []
    no_command None is = refl
    no_command (Some c) is = absurd is

    -- one look more was answered, and these commands were popped up to then
    abbrev goes_look : (u : WorkScene) (popped : List Placed) (pending : List Command) → u.told ≡ option_map (after_turn command turn.Look) t.told → u.popped ≡ s.popped ++ popped
        → map command_of popped ≡ k.goes.handed ++ pending → (k.goes.looks + 1) + s.empties ≡ length popped + u.empties + late (turns + 1) limit u.looked → Goes (turns + 1) limit s u k.ran.entries k.ran.deeds pending
    goes_look u popped pending new are hands finds = let h = k.goes in record {
      looks = h.looks + 1;
      handed = h.handed;
      is_told = after_look s.told t.told u.told command k.ran.entries h.looks h.handed k.ran.deeds h.is_told new;
      counted = omega (arith, h.counted);
      popped = popped;
      is_popped = are;
      are_handed = hands;
      are_done = h.are_done;
      are_looks = finds;
    }

    abbrev looks_again : (u : WorkScene) (found : Option Command) → u.told ≡ option_map (after_turn command turn.Look) t.told → Pops t found u → late turns limit t.looked ≡ 0 → late (turns + 1) limit u.looked ≡ 0
        → map command_of k.goes.popped ≡ k.goes.handed ++ [] → Goes (turns + 1) limit s u k.ran.entries k.ran.deeds (option_to_list found)
    looks_again u None new popped now later hands = let h = k.goes in goes_look u h.popped [] new (popped.0 ∙ h.is_popped) hands (omega (arith, h.are_looks, popped.1))
    looks_again u (Some c) new popped now later hands = let h = k.goes in let e = popped.0.0 in goes_look u (h.popped ++ e ∷ []) (c ∷ []) new
        (popped.0.2 ∙ ap (λ l. l ++ e ∷ []) h.is_popped ∙ append_assoc s.popped h.popped (e ∷ []))
        (map-append command_of h.popped (e ∷ []) ∙ ap (λ l. l ++ e.command ∷ []) (hands ∙ append-nil h.handed) ∙ ap (λ x. h.handed ++ x ∷ []) popped.0.1)
        (omega (arith, h.are_looks, popped.1, length-append h.popped (e ∷ [])))

    -- nothing was raised or kept, and nothing failed but the world
    pub record IsCalm (u : WorkScene) : Type 0 where
      pub raised : u.raised ≡ t.raised
      pub kept : u.kept ≡ t.kept
      pub world_later : t.world_faults ≤ u.world_faults
      pub record_same : u.record_faults ≡ t.record_faults

    -- a look was answered, and the rest stands as it stood
    pub record Looks (u : WorkScene) : Type 0 where
      pub told : u.told ≡ option_map (after_turn command turn.Look) t.told
      pub looked : u.looked ≡ true
      pub calm : IsCalm u

    -- what is popped after a look stands after commands that are no Quit
    look_quits : (u : WorkScene) (found : Option Command) (told : u.told ≡ option_map (after_turn command turn.Look) t.told) (popped : Pops t found u) (now : late turns limit t.looked ≡ 0) (later : late (turns + 1) limit u.looked ≡ 0)
        (hands : map command_of k.goes.popped ≡ k.goes.handed ++ []) → NoQuit k.goes.handed → QuitsLast (map command_of (looks_again u found told popped now later hands).popped)
    look_quits u None told popped now later hands none = k.quits_last
    look_quits u (Some c) told popped now later hands none = let h = k.goes in let e = popped.0.0 in
        subst QuitsLast (sym (map-append command_of h.popped (e ∷ []) ∙ ap (λ l. l ++ e.command ∷ []) (hands ∙ append-nil h.handed))) (quits_snoc h.handed e.command none)

    look_handed : (u : WorkScene) (found : Option Command) (told : u.told ≡ option_map (after_turn command turn.Look) t.told) (popped : Pops t found u) (now : late turns limit t.looked ≡ 0) (later : late (turns + 1) limit u.looked ≡ 0)
        (hands : map command_of k.goes.popped ≡ k.goes.handed ++ []) → (looks_again u found told popped now later hands).handed ≡ k.goes.handed
    look_handed u None told popped now later hands = refl
    look_handed u (Some c) told popped now later hands = refl

    -- no entry was given since, and nothing raised or kept
    abbrev stays : (turns' : ℕ) (u : WorkScene) (command' : Option Command) (goes : Goes turns' limit s u k.ran.entries k.ran.deeds (option_to_list command')) → turns' ≤ limit → IsCalm u
        → ((c : Command) → command' ≡ Some c → has_stopped (chronicle g (K ++ k.ran.entries)) ≡ false) → (has_stopped (chronicle g (K ++ k.ran.entries)) ≡ false → NoQuit goes.handed) → QuitsLast (map command_of goes.popped)
        → Running turns' u n command' before
    stays turns' u command' goes most calm busy unquit quits = record {
      ran = k.ran;
      goes = goes;
      most = most;
      are_raised = calm.raised ∙ k.are_raised;
      are_kept = λ i. subst (λ x. Appends s.kept x (lines Second 0 k.ran.entries)) (sym calm.kept) (k.are_kept i);
      is_before = k.is_before;
      busy = busy;
      unquit = unquit;
      quits_last = quits;
      world_later = omega (arith, k.world_later, calm.world_later);
      record_later = omega (arith, k.record_later, calm.record_same);
    }

    -- a look, and then a pop
    pub looked_again : (u : WorkScene) (found : Option Command) → Looks u → Pops t found u → turns + 1 < limit → IsTurn command turn.Look → has_stopped (chronicle g (K ++ k.ran.entries)) ≡ false → Running (turns + 1) u n found before
    looked_again u found w popped more is going =
        let h = k.goes in
        let now : late turns limit t.looked ≡ 0 = not_late turns limit t.looked (λ e. omega arith) in
        let later : late (turns + 1) limit u.looked ≡ 0 = not_late (turns + 1) limit u.looked (λ e. omega arith) in
        let hands : map command_of h.popped ≡ h.handed ++ [] = h.are_handed ∙ ap (λ l. h.handed ++ l) (no_command command is) in
        stays (turns + 1) u found (looks_again u found w.told popped now later hands) (omega (arith, more)) w.calm (λ c is. going)
        (λ on. subst NoQuit (sym (look_handed u found w.told popped now later hands)) (k.unquit going)) (look_quits u found w.told popped now later hands (k.unquit going))

    -- a look in the last turn, after which nothing is popped
    pub looked_last : (u : WorkScene) → Looks u → u.popped ≡ t.popped → u.empties ≡ t.empties → turns + 1 ≡ limit → IsTurn command turn.Look → Running (turns + 1) u n None before
    looked_last u w popped empties last is =
        let h = k.goes in
        let now : late turns limit t.looked ≡ 0 = not_late turns limit t.looked (λ e. omega arith) in
        let later : late (turns + 1) limit u.looked ≡ 1 = ap (late (turns + 1) limit) w.looked ∙ is_late (turns + 1) limit last (omega arith) in
        stays (turns + 1) u None (goes_look u h.popped [] w.told (popped ∙ h.is_popped) (h.are_handed ∙ ap (λ l. h.handed ++ l) (no_command command is)) (omega (arith, h.are_looks))) (omega (arith, last)) w.calm
        (λ c is. absurd (cc)) k.unquit k.quits_last

    -- an entry was given, and the rest of the scene stands as it stood but for the events that are raised
    pub record Gives (e : Entry) (told : Option Log) (u : WorkScene) : Type 0 where
      pub is_turn : IsTurn command (turn.Entry e)
      pub given : told ≡ option_map (after_turn command (turn.Entry e)) t.told
      pub value : IsEntry e
      pub looked : u.looked ≡ false
      pub popped : u.popped ≡ t.popped
      pub empties : u.empties ≡ t.empties
      pub world_later : t.world_faults ≤ u.world_faults
      pub record_later : t.record_faults ≤ u.record_faults

    -- the entry of a turn does the command that was handed in
    does : (c : Option Command) (e : Entry) → IsTurn c (turn.Entry e) → Sublist (option_to_list c) (done_by (e ∷ []))
    does None e is = nil-sublist (done_by (e ∷ []))
    does (Some c) e is = subst (λ i. Sublist (c ∷ []) (command_in i ++ [])) (sym is) (sublists.refl (c ∷ []))

    abbrev given_goes : (e : Entry) (told : Option Log) (u : WorkScene) (more : List Deed) → Gives e told u → turns < limit → u.told ≡ option_map (went [] 0 [] more) told → Goes (turns + 1) limit s u (k.ran.entries ++ e ∷ []) (k.ran.deeds ++ more) []
    given_goes e told u more w less done =
        let h = k.goes in
        let now : late turns limit t.looked ≡ 0 = not_late turns limit t.looked (λ e. omega arith) in
        let later : late (turns + 1) limit u.looked ≡ 0 = ap (late (turns + 1) limit) w.looked ∙ never_late (turns + 1) limit in
        record {
          looks = h.looks;
          handed = h.handed ++ option_to_list command;
          is_told = after_entry s.told t.told told u.told command e k.ran.entries h.looks h.handed k.ran.deeds more h.is_told w.given done;
          counted = omega (arith, h.counted, length-append k.ran.entries (e ∷ []));
          popped = h.popped;
          is_popped = w.popped ∙ h.is_popped;
          are_handed = h.are_handed ∙ sym (append-nil (h.handed ++ option_to_list command));
          are_done = subst (Sublist (h.handed ++ option_to_list command)) (sym (flat_map-append (λ x. command_in x.input) k.ran.entries (e ∷ []))) (sublists.append h.are_done (does command e w.is_turn));
          are_looks = omega (arith, h.are_looks, w.empties);
        }

    along : (e : Entry) → (K ++ k.ran.entries) ++ e ∷ [] ≡ K ++ (k.ran.entries ++ e ∷ [])
    along e = append_assoc K k.ran.entries (e ∷ [])

    -- an entry was given, put, stepped and done, and its events were raised
    pub went_on : (e : Entry) (told : Option Log) (u : WorkScene) (n' : Node) (es : List Event) → Gives e told u → turns < limit → IsTurn command (turn.Entry e) → has_stopped (chronicle g (K ++ k.ran.entries)) ≡ false → Went g (K ++ k.ran.entries) e keep before told u.told t.kept u.kept n' es → u.raised ≡ t.raised ++ es
        → Running (turns + 1) u n' None e.at
    went_on e told u n' es w less is going x raised = record {
      ran = record {
        entries = k.ran.entries ++ e ∷ [];
        deeds = k.ran.deeds ++ x.deeds;
        all_go = go_more g K k.ran.entries e k.ran.all_go going;
        are_values = All-push IsEntry k.ran.entries e k.ran.are_values w.value;
        node = subst (λ J. StandsFor g J n') (along e) x.stands;
        are_deeds = subst (λ l. AreDeeds g l (k.ran.deeds ++ x.deeds)) (sym (acts_of-snoc g K k.ran.entries e)) (AreDeeds-append g (acts_of g K k.ran.entries) _ k.ran.deeds x.deeds k.ran.are_deeds x.are_deeds);
        told = k.ran.told ++ es;
        are_events = ap (events g) (sym (along e)) ∙ x.are_events ∙ ap (λ l. l ++ es) k.ran.are_events ∙ append_assoc (events g K) k.ran.told es;
      };
      goes = given_goes e told u x.deeds w less x.is_told;
      most = omega (arith, less);
      are_raised = raised ∙ ap (λ l. l ++ es) k.are_raised ∙ append_assoc s.raised k.ran.told es;
      are_kept = λ i. kept_more s.kept t.kept u.kept before k.ran.entries e k.is_before (k.are_kept i) (x.is_kept i);
      is_before = sym (last-append 0 k.ran.entries (e ∷ []));
      busy = λ c is. absurd (cc);
      unquit = λ on. no_quit_more k.goes.handed (option_to_list command) (k.unquit going)
          (no_quit g (K ++ k.ran.entries) e command is going (subst (λ J. has_stopped (chronicle g J) ≡ false) (sym (along e)) on));
      quits_last = k.quits_last;
      world_later = omega (arith, k.world_later, w.world_later);
      record_later = omega (arith, k.record_later, w.record_later);
    }

    -- ---- the work ends

    idle : (c : Option Command) → ((x : Command) → c ≡ Some x → has_stopped (chronicle g (K ++ k.ran.entries)) ≡ false) → has_stopped (chronicle g (K ++ k.ran.entries)) ≡ true → option_to_list c ≡ []
    idle None busy stopped = refl
    idle (Some x) busy stopped = absurd (true≢false (sym stopped ∙ busy x refl))

    -- it ends without a step more: these entries weren't stepped, and these commands weren't handed on
    ends_here : (turns' : ℕ) (u : WorkScene) (n' : Node) (unstepped : List Entry) (pending : List Command) (e : Ending) (goes : Goes turns' limit s u (k.ran.entries ++ unstepped) k.ran.deeds pending) → turns' ≤ limit → QuitsLast (map command_of goes.popped)
        → AllGo g K (k.ran.entries ++ unstepped) → All IsEntry (k.ran.entries ++ unstepped) → StandsFor g (K ++ k.ran.entries) n' ⊎ (IsTrue (is_spent n') × (e ≡ ending.OutOfMemory) × (length unstepped ≡ 1)) → u.raised ≡ t.raised
        → (keep ≡ true → KeptLines s.kept u.kept k.ran.entries unstepped) → Ends e (has_stopped (chronicle g (K ++ k.ran.entries))) turns' limit keep s u unstepped pending → IsWork g K keep limit s u n' e
    ends_here turns' u n' unstepped pending e goes most quits go values node raised kept ends = record {
      turns = turns';
      entries = k.ran.entries;
      unstepped = unstepped;
      pending = pending;
      deeds = k.ran.deeds;
      goes = goes;
      most = most;
      all_go = go;
      are_values = values;
      quits_last = quits;
      node = node;
      did = acts_of g K k.ran.entries;
      undone = [];
      are_acts = sym (append-nil (acts_of g K k.ran.entries));
      are_deeds = k.ran.are_deeds;
      all_done = λ _. refl;
      raised = k.ran.told;
      untold = [];
      are_events = k.ran.are_events ∙ ap (λ l. events g K ++ l) (sym (append-nil k.ran.told));
      are_raised = raised ∙ k.are_raised;
      all_raised = λ _. refl;
      are_kept = kept;
      ends = ends;
    }

    -- where it stands, with nothing unstepped
    leaves : (e : Ending) → Ends e (has_stopped (chronicle g (K ++ k.ran.entries))) turns limit keep s t [] (option_to_list command) → IsWork g K keep limit s t n e
    leaves e ends = let all : k.ran.entries ≡ k.ran.entries ++ [] = sym (append-nil k.ran.entries) in
        ends_here turns t n [] (option_to_list command) e (goes_as k.ran.entries (k.ran.entries ++ []) k.ran.deeds k.ran.deeds turns t t (option_to_list command) k.goes all refl refl refl refl refl) k.most k.quits_last
        (subst (AllGo g K) all k.ran.all_go) (subst (All IsEntry) all k.ran.are_values) (inl k.ran.node) refl
        (λ i. record { part = []; rest = []; is_kept = subst (Appends s.kept t.kept) (sym (append-nil (lines Second 0 k.ran.entries))) (k.are_kept i); is_part = refl }) ends

    pub leaves_stopped : has_stopped (chronicle g (K ++ k.ran.entries)) ≡ true → IsWork g K keep limit s t n ending.Stopped
    leaves_stopped stopped = leaves ending.Stopped (stopped, refl, idle command k.busy stopped)

    late_end : (stopped : Bool) → has_stopped (chronicle g (K ++ k.ran.entries)) ≡ stopped → command ≡ None → turns ≡ limit → IsWork g K keep limit s t n (cond stopped ending.Stopped ending.TooLong)
    late_end true is none last = leaves_stopped is
    late_end false is none last = leaves ending.TooLong (is, refl, ap option_to_list none, last)

    -- all turns were taken
    pub leaves_at_end : command ≡ None → turns ≡ limit → (e : Ending) → e ≡ cond (has_stopped (chronicle g (K ++ k.ran.entries))) ending.Stopped ending.TooLong → IsWork g K keep limit s t n e
    leaves_at_end none last e is = subst (IsWork g K keep limit s t n) (sym is) (late_end (has_stopped (chronicle g (K ++ k.ran.entries))) refl none last)

    -- the world refused a turn: its count rose, or it had no memory
    pub record Refuses (f : NextFault) (u : WorkScene) : Type 0 where
      pub told : u.told ≡ t.told
      pub looked : u.looked ≡ t.looked
      pub popped : u.popped ≡ t.popped
      pub empties : u.empties ≡ t.empties
      pub calm : IsCalm u
      pub rose : f ≡ fault.Failed → Rose t.world_faults u.world_faults

    abbrev pub refused : (f : NextFault) (u : WorkScene) → Refuses f u → Running turns u n command before
    refused f u w = stays turns u command (goes_as k.ran.entries k.ran.entries k.ran.deeds k.ran.deeds turns t u (option_to_list command) k.goes refl refl w.told w.looked w.popped w.empties) k.most w.calm k.busy k.unquit k.quits_last

    -- ---- an entry that broke off

    -- the node has its entry, or not: one entry was given that it didn't take
    given_up : (e : Entry) (told : Option Log) (u : WorkScene) (n' : Node) (ended : Ending) → Gives e told u → turns < limit → has_stopped (chronicle g (K ++ k.ran.entries)) ≡ false → u.told ≡ told → u.raised ≡ t.raised
        → StandsFor g (K ++ k.ran.entries) n' ⊎ (IsTrue (is_spent n') × (ended ≡ ending.OutOfMemory) × (length (e ∷ []) ≡ 1))
        → (keep ≡ true → KeptLines s.kept u.kept k.ran.entries (e ∷ []))
        → Ends ended (has_stopped (chronicle g (K ++ k.ran.entries))) (turns + 1) limit keep s u (e ∷ []) []
        → IsWork g K keep limit s u n' ended
    given_up e told u n' ended w less going same raised node kept ends =
        ends_here (turns + 1) u n' (e ∷ []) [] ended
        (goes_as (k.ran.entries ++ e ∷ []) (k.ran.entries ++ e ∷ []) (k.ran.deeds ++ []) k.ran.deeds (turns + 1) u u [] (given_goes e told u [] w less (same ∙ went-none told)) refl (append-nil k.ran.deeds) refl refl refl refl)
        (omega (arith, less)) k.quits_last (go_more g K k.ran.entries e k.ran.all_go going) (All-push IsEntry k.ran.entries e k.ran.are_values w.value) node raised kept ends

    one_line : (e : Entry) → lines Second (last_reading 0 k.ran.entries) (e ∷ []) ≡ line Second before e
    one_line e = append-nil (line Second (last_reading 0 k.ran.entries) e) ∙ sym (next_line before k.ran.entries e k.is_before)

    whole_line : (e : Entry) (u : WorkScene) → (keep ≡ true → Appends t.kept u.kept (line Second before e)) → keep ≡ true → KeptLines s.kept u.kept k.ran.entries (e ∷ [])
    whole_line e u kept i = record {
      part = line Second before e;
      rest = [];
      is_kept = Appends-trans s.kept t.kept u.kept (lines Second 0 k.ran.entries) (line Second before e) (k.are_kept i) (kept i);
      is_part = one_line e ∙ sym (append-nil (line Second before e));
    }

    unput_ends : (e : Entry) (u : WorkScene) (ended : Ending) → IsRefusal t.record_faults u.record_faults ended → keep ≡ true → has_stopped (chronicle g (K ++ k.ran.entries)) ≡ false
        → Ends ended (has_stopped (chronicle g (K ++ k.ran.entries))) (turns + 1) limit keep s u (e ∷ []) []
    unput_ends e u ended how keeps going = ⊎_elim
        (λ (none : ended ≡ ending.OutOfMemory). subst (λ x. Ends x (has_stopped (chronicle g (K ++ k.ran.entries))) (turns + 1) limit keep s u (e ∷ []) []) (sym none) (omega arith))
        (λ (fails : (ended ≡ ending.RecordFault) × Rose t.record_faults u.record_faults). subst (λ x. Ends x (has_stopped (chronicle g (K ++ k.ran.entries))) (turns + 1) limit keep s u (e ∷ []) []) (sym fails.0)
        (going, refl, refl, keeps, rose_since s.record_faults t.record_faults u.record_faults k.record_later fails.1))
        how

    -- the world found no memory for an act
    left_undone : (e : Entry) (told : Option Log) (u : WorkScene) (n' : Node) (ended : Ending) → Gives e told u → turns < limit → has_stopped (chronicle g (K ++ k.ran.entries)) ≡ false → u.raised ≡ t.raised → IsUndone g (K ++ k.ran.entries) e keep before told u.told t.kept u.kept n' ended → IsWork g K keep limit s u n' ended
    left_undone e told u n' ended w less going raised x = record {
      turns = turns + 1;
      entries = k.ran.entries ++ e ∷ [];
      unstepped = [];
      pending = [];
      deeds = k.ran.deeds ++ x.deeds;
      goes = goes_as (k.ran.entries ++ e ∷ []) ((k.ran.entries ++ e ∷ []) ++ []) (k.ran.deeds ++ x.deeds) (k.ran.deeds ++ x.deeds) (turns + 1) u u [] (given_goes e told u x.deeds w less x.is_told) (sym (append-nil (k.ran.entries ++ e ∷ []))) refl refl refl refl refl;
      most = omega (arith, less);
      all_go = subst (AllGo g K) (sym (append-nil (k.ran.entries ++ e ∷ []))) (go_more g K k.ran.entries e k.ran.all_go going);
      are_values = subst (All IsEntry) (sym (append-nil (k.ran.entries ++ e ∷ []))) (All-push IsEntry k.ran.entries e k.ran.are_values w.value);
      quits_last = k.quits_last;
      node = inl (subst (λ J. StandsFor g J n') (along e) x.stands);
      did = acts_of g K k.ran.entries ++ x.did;
      undone = x.undone;
      are_acts = acts_of-snoc g K k.ran.entries e ∙ ap (λ l. acts_of g K k.ran.entries ++ l) x.are_acts ∙ sym (append_assoc (acts_of g K k.ran.entries) x.did x.undone);
      are_deeds = AreDeeds-append g (acts_of g K k.ran.entries) x.did k.ran.deeds x.deeds k.ran.are_deeds x.are_deeds;
      all_done = λ other. absurd (other x.ends);
      raised = k.ran.told;
      untold = x.untold;
      are_events = ap (events g) (sym (along e)) ∙ x.are_events ∙ ap (λ l. l ++ x.untold) k.ran.are_events ∙ append_assoc (events g K) k.ran.told x.untold;
      are_raised = raised ∙ k.are_raised;
      all_raised = λ other. absurd (other x.ends);
      are_kept = λ i. record {
        part = [];
        rest = [];
        is_kept = subst (Appends s.kept u.kept) (sym (append-nil (lines Second 0 (k.ran.entries ++ e ∷ [])))) (kept_more s.kept t.kept u.kept before k.ran.entries e k.is_before (k.are_kept i) (x.is_kept i));
        is_part = refl;
      };
      ends = subst (λ y. Ends y (has_stopped (chronicle g (K ++ (k.ran.entries ++ e ∷ [])))) (turns + 1) limit keep s u [] []) (sym x.ends) (omega arith);
    }

    pub broke : (e : Entry) (told : Option Log) (u : WorkScene) (n' : Node) (ended : Ending) → Gives e told u → turns < limit → u.raised ≡ t.raised → has_stopped (chronicle g (K ++ k.ran.entries)) ≡ false
        → Broke g (K ++ k.ran.entries) e keep before told u.told t.kept u.kept t.record_faults u.record_faults n' ended → IsWork g K keep limit s u n' ended
    broke e told u n' ended w less raised going how = ⊎_elim
        (λ (x : IsUnput g (K ++ k.ran.entries) e keep before told u.told t.kept u.kept t.record_faults u.record_faults n' ended).
        given_up e told u n' ended w less going x.is_told raised (inl x.stands)
        (λ i. record { part = x.part; rest = x.rest; is_kept = Appends-trans s.kept t.kept u.kept (lines Second 0 k.ran.entries) x.part (k.are_kept i) x.is_kept; is_part = one_line e ∙ x.is_part })
        (unput_ends e u ended x.ends x.keeps going))
        (λ rest. ⊎_elim
        (λ (x : IsUnstepped e keep before told u.told t.kept u.kept n' ended).
        given_up e told u n' ended w less going x.is_told raised (inr (x.spent, x.ends, refl)) (whole_line e u x.is_kept)
        (subst (λ y. Ends y (has_stopped (chronicle g (K ++ k.ran.entries))) (turns + 1) limit keep s u (e ∷ []) []) (sym x.ends) (omega arith)))
        (λ (x : IsUndone g (K ++ k.ran.entries) e keep before told u.told t.kept u.kept n' ended). left_undone e told u n' ended w less going raised x)
        rest)
        how

    -- the world's refusal is the ending
    pub refused_ends : (f : NextFault) → turns < limit → (f ≡ fault.Failed → Rose s.world_faults t.world_faults) → has_stopped (chronicle g (K ++ k.ran.entries)) ≡ false → IsWork g K keep limit s t n (world_ending f)
    refused_ends fault.Failed less rose going = leaves ending.WorldFault (going, refl, few command, less, rose refl)
    refused_ends fault.OutOfMemory less rose going = leaves ending.OutOfMemory (omega (arith, few command))

  -- Last was pushed, and what the work came to is handed back
  pub handed_back : (t t' : WorkScene) (n n' : Node) (e e' : Ending) → IsWork g K keep limit s t n e → t' ≡ t → n' ≡ n → e' ≡ e → IsWork g K keep limit s t' n' e'
  handed_back t t' n n' e e' w is_t is_n is_e = subst (λ (x : WorkScene × Node × Ending). IsWork g K keep limit s x.0 x.1 x.2) (λ i. (sym is_t i, sym is_n i, sym is_e i)) w

-- What a node whose thread was started did between a world, a sink and a recorder.
use Rattle.std.proofs.Common.{◌≡◌, ◌≢◌, ℕ, ◌≤◌, ◌<◌, Bool, true, false, List, [], ◌∷◌, ◌++◌, map, length, Option, Some, None, refl, sym, ap, ◌∙◌, subst, arith, append_assoc, append-nil, length-append, ⊎_elim}
use Rattle.std.specs.Prelude.{◌⊎◌, option_map, is_some, IsTrue}
use mathlib.Core.Logic.{inl, inr}
use mathlib.Core.List.{IsPrefix}
use Rattle.std.specs.List.{list_any}
use Rattle.std.specs.Io.KnownBytes.{Keeps, Appends}
use Rattle.std.proofs.KnownBytes.{Appends-trans, Keeps-trans}
use Rattle.std.proofs.lemmas.Grind.{flat_map-append}
use Rattle.zre_outside.specs.declared.entry.Entry.{Entry}
use Rattle.zre_outside.specs.declared.entry.Command.{Command}
use Rattle.zre_outside.specs.declared.sink.NextFault.{NextFault}
use Rattle.zre_outside.specs.declared.sink.NextFault.TheVariants as fault
use Rattle.zre_outside.specs.declared.start.Start.{Start}
use Rattle.zre_outside.specs.Causes.{Rose}
use Rattle.zre_outside.specs.Told.{AppendsFront}
use Rattle.zre_outside.specs.Worlds.{with_start}
use Rattle.zre_outside.proofs.CountsThatRose.{rose_since}
use Rattle.zre_peer.specs.Lines.{line, lines}
use Rattle.zre_values.specs.declared.settings.Settings.{Settings as Config}
use Rattle.zre_journal.specs.Config.{CanBe}
use Rattle.zre_journal.specs.Endings.{is_end}
use Rattle.zre_journal.specs.Events.{chronicle, events}
use Rattle.zre_journal.specs.Happens.{has_stopped}
use Rattle.zre_journal.proofs.StopsAreTold.{told_to_stop}
use Rattle.zre_node.specs.declared.node.Node.{Node}
use Rattle.zre_node.specs.Journal.{StandsFor, is_spent}
use Rattle.zre_node.proofs.HeldAmounts.{can_be}
use Rattle.zre_capture.specs.Lines as capture
use Rattle.zre_capture.specs.Journal.{last_reading}
use Rattle.zre_capture.specs.declared.format.Format.TheVariants.{Second}
use Rattle.zre_actor.specs.declared.ending.Ending.{Ending}
use Rattle.zre_actor.specs.declared.ending.Ending.TheVariants as ending
use Rattle.zre_actor.specs.declared.passes.ActorPass.{ActorPass}
use Rattle.zre_actor.specs.declared.passes.CallerPass.{CallerPass}
use Rattle.zre_actor.specs.declared.passes.TakerPass.{TakerPass}
use Rattle.zre_actor.specs.Commands.{command_of}
use Rattle.zre_actor.specs.Passes.{popped_by, raised_by, taken_by}
use Rattle.zre_actor.specs.Work.{WorkScene, scene, went, IsWork, Ends, KeptLines}
use Rattle.zre_commands.specs.declared.pump.status.Status.{Status}
use Rattle.zre_commands.specs.declared.pump.status.Status.TheVariants.{Done, WriteFault, WorldFault, NoThread, TooLong, OutOfMemory}
use Rattle.zre_console.specs.declared.printer.asker.Asker.{Asker}
use Rattle.zre_console.specs.printer.Printing.{HasPrinted}
use Rattle.zre_console.specs.Lived.{Seen, IsSpared, Holds, Lived, Wrote, Captured}
use Rattle.zre_console.specs.Keeping.{head_of}
use Rattle.zre_console.specs.Stages.{Prepared}
use Rattle.zre_console.specs.Statuses.{of_print, of_work, of_thread}
use Rattle.zre_console.proofs.LeastStatus.{memory_isnt}
use Rattle.zre_console.proofs.EndBeforeStart.{maps}

module _ (g : Config) (start : Start) (name : Option (List ℕ)) (keep : Bool) (limit : ℕ) (s u t : Seen) (p : Prepared g start name keep s u)
    (n : Node) (how : Ending) (looked looked' : Bool) (actor actor' : ActorPass)
    (w : IsWork g [] keep limit (scene u.told looked u.world_faults u.kept u.record_faults actor) (scene t.told looked' t.world_faults t.kept t.record_faults actor') n how)
    (named : Keeps u.named t.named) (none_popped : popped_by actor ≡ []) (none_raised : raised_by actor ≡ [])
    (asker : Asker) (asker' : CallerPass) (taker taker' : TakerPass) (broke : Option NextFault) (d : HasPrinted asker taker taker' asker' broke u.written t.written)
    (write_rose : broke ≡ Some fault.Failed → Rose u.write_faults t.write_faults)
    (none_taken : taken_by taker ≡ []) (all_taken : taken_by taker' ≡ raised_by actor')
    (status : Status) (memory : status ≢ OutOfMemory → (how ≢ ending.OutOfMemory) × (broke ≢ Some fault.OutOfMemory))
    (done : status ≡ Done → (of_work how ≡ Done) × (broke ≡ None)) where
  pub is_popped : popped_by actor' ≡ w.goes.popped
  is_popped = w.goes.is_popped ∙ ap (λ l. l ++ w.goes.popped) none_popped

  pub handed_first : IsPrefix w.goes.handed (map command_of w.goes.popped)
  handed_first = (w.pending, sym w.goes.are_handed)

  -- ---- the text

  same_events : d.events ≡ w.raised
  same_events = ap (λ l. l ++ d.events) (sym none_taken) ∙ sym d.taken ∙ all_taken ∙ w.are_raised ∙ ap (λ l. l ++ w.raised) none_raised

  text : lines (events g w.entries) ≡ lines d.events ++ lines w.untold
  text = ap lines (w.are_events ∙ ap (λ l. l ++ w.untold) (sym same_events)) ∙ flat_map-append line d.events w.untold

  front : AppendsFront s.written t.written (lines (events g w.entries))
  front = let f = d.front in (f.0, f.1 ++ lines w.untold, text ∙ ap (λ l. l ++ lines w.untold) f.2 ∙ append_assoc f.0 f.1 (lines w.untold), subst (λ x. Appends x t.written f.0) (ap (λ x. x.written) p.same) f.3)

  unbroken : IsSpared status (Rose s.write_faults t.write_faults) → broke ≡ None
  unbroken spared = ⊎_elim (λ (is : status ≡ Done). (done is).1) (λ (x : (status ≢ OutOfMemory) × ¬ Rose s.write_faults t.write_faults). by x.0 x.1 broke refl) spared
    where
      by : status ≢ OutOfMemory → ¬ Rose s.write_faults t.write_faults → (f : Option NextFault) → broke ≡ f → broke ≡ None
      by isnt still None e = e
      by isnt still (Some fault.Failed) e = absurd (still (subst (λ k. Rose k t.write_faults) (ap (λ x. x.write_faults) p.same) (write_rose e)))
      by isnt still (Some fault.OutOfMemory) e = absurd ((memory isnt).1 e)

  has_memory : (rose : Type 0) → IsSpared status rose → status ≢ OutOfMemory
  has_memory rose spared = ⊎_elim (λ (is : status ≡ Done) (e : status ≡ OutOfMemory). memory_isnt (sym e ∙ is)) (λ (x : (status ≢ OutOfMemory) × ¬ rose). x.0) spared

  whole : IsSpared status (Rose s.write_faults t.write_faults) → Appends s.written t.written (lines (events g w.entries))
  whole spared =
      let all : lines (events g w.entries) ≡ lines d.events = text ∙ ap (λ l. lines d.events ++ lines l) (w.all_raised (memory (has_memory (Rose s.write_faults t.write_faults) spared)).0) ∙ append-nil (lines d.events) in
      subst (λ (x : Option (List ℕ) × List ℕ). Appends x.0 t.written x.1) (λ i. ((p.same i).written, sym all i)) (d.whole (unbroken spared))

  -- ---- the entries and the capture

  pub record_rose : Rose u.record_faults t.record_faults → Rose s.record_faults t.record_faults
  record_rose x = rose_since s.record_faults u.record_faults t.record_faults p.record_later x

  module _ (x y : WorkScene) (stopped : Bool) (turns : ℕ) (unstepped : List Entry) (pending : List Command) where
    pub one : (e : Ending) → Ends e stopped turns limit keep x y unstepped pending → length unstepped ≤ 1
    one ending.Stopped h = (let z : length unstepped ≡ 0 = ap length h.1 in omega arith)
    one ending.WorldFault h = (let z : length unstepped ≡ 0 = ap length h.1 in omega arith)
    one ending.RecordFault h = (let z : length unstepped ≡ 1 = h.1 in omega arith)
    one ending.TooLong h = (let z : length unstepped ≡ 0 = ap length h.1 in omega arith)
    one ending.OutOfMemory h = omega (arith, h)

    none : (e : Ending) → Ends e stopped turns limit keep x y unstepped pending → e ≢ ending.OutOfMemory → ¬ Rose x.record_faults y.record_faults → unstepped ≡ []
    none ending.Stopped h isnt rose = h.1
    none ending.WorldFault h isnt rose = h.1
    none ending.RecordFault h isnt rose = absurd (rose h.4)
    none ending.TooLong h isnt rose = h.1
    none ending.OutOfMemory h isnt rose = absurd (isnt refl)

    none_at_stop : (e : Ending) → Ends e stopped turns limit keep x y unstepped pending → of_work e ≡ Done → unstepped ≡ []
    none_at_stop ending.Stopped h is = h.1
    none_at_stop ending.WorldFault h is = absurd (cc)
    none_at_stop ending.RecordFault h is = absurd (cc)
    none_at_stop ending.TooLong h is = absurd (cc)
    none_at_stop ending.OutOfMemory h is = absurd (cc)

    stops : (e : Ending) → Ends e stopped turns limit keep x y unstepped pending → of_work e ≡ Done → stopped ≡ true
    stops ending.Stopped h is = h.0
    stops ending.WorldFault h is = absurd (cc)
    stops ending.RecordFault h is = absurd (cc)
    stops ending.TooLong h is = absurd (cc)
    stops ending.OutOfMemory h is = absurd (cc)

  pub has_ended : status ≡ Done → has_stopped (chronicle g w.entries) ≡ true
  has_ended is = stops _ _ _ w.turns w.unstepped w.pending how w.ends (done is).0

  pub can : status ≡ Done → CanBe g
  can is = by w.node
    where
      by : StandsFor g w.entries n ⊎ (IsTrue (is_spent n) × (how ≡ ending.OutOfMemory) × (length w.unstepped ≡ 1)) → CanBe g
      by (inl stands) = can_be g (chronicle g w.entries) n.tables stands.stands
      by (inr (spent, none_left, one_left)) = absurd ((memory (λ e. memory_isnt (sym e ∙ is))).0 none_left)

  pub given : IsSpared status (Rose s.record_faults t.record_faults) → w.unstepped ≡ []
  given spared = ⊎_elim (λ (is : status ≡ Done). none_at_stop _ _ _ w.turns w.unstepped w.pending how w.ends (done is).0)
      (λ (x : (status ≢ OutOfMemory) × ¬ Rose s.record_faults t.record_faults). none _ _ _ w.turns w.unstepped w.pending how w.ends (memory x.0).0 (λ y. x.1 (record_rose y))) spared

  held : (file : List ℕ) → name ≡ Some file → IsSpared status (Rose s.record_faults t.record_faults) → Holds g file w.entries s t
  held file is spared =
      let k : KeptLines u.kept t.kept w.entries w.unstepped = w.are_kept (p.keeps ∙ ap is_some is) in
      let all : List ℕ = capture.lines Second 0 w.entries in
      let nothing : k.part ≡ [] = front_nil k.part k.rest (sym k.is_part ∙ ap (capture.lines Second (last_reading 0 w.entries)) (given spared)) in (
        Appends-trans (option_map (λ _. []) s.kept) u.kept t.kept (head_of g) all (p.head_kept file is) (subst (Appends u.kept t.kept) (ap (λ l. all ++ l) nothing ∙ append-nil all) k.is_kept),
        Keeps-trans (option_map (λ _. file) s.named) u.named t.named (p.file_named file is) named,
      )
    where
      front_nil : (xs ys : List ℕ) → xs ++ ys ≡ [] → xs ≡ []
      front_nil [] ys e = refl
      front_nil (x ∷ xs) ys e = absurd (cc)

  -- ---- what it comes to

  has_one : (es : List Entry) → list_any (λ e. is_end e.input) es ≡ true → 1 ≤ length es
  has_one [] is = absurd (cc)
  has_one (e ∷ es) is = omega arith

  -- a turn was taken
  pub turned : status ≡ Done → 0 < limit
  turned is = let a : 1 ≤ length w.entries = has_one w.entries (told_to_stop g (can is) w.entries (has_ended is)) in
      omega (arith, a, w.goes.counted, w.most, length-append w.entries w.unstepped)

  abbrev pub lived : Lived g start limit s t status
  lived = record {
    begun = true;
    turns = w.turns;
    looks = w.goes.looks;
    entries = w.entries;
    unstepped = w.unstepped;
    handed = w.goes.handed;
    deeds = w.deeds;
    is_told = w.goes.is_told ∙ ap (option_map (went (w.entries ++ w.unstepped) w.goes.looks w.goes.handed w.deeds)) p.told
        ∙ maps (went (w.entries ++ w.unstepped) w.goes.looks w.goes.handed w.deeds) (with_start start) s.told;
    counted = w.goes.counted;
    most = w.most;
    one_unstepped = one _ _ _ w.turns w.unstepped w.pending how w.ends;
    are_values = w.are_values;
    all_taken = given;
    all_go = w.all_go;
    did = w.did;
    undone = w.undone;
    are_acts = w.are_acts;
    are_deeds = w.are_deeds;
    all_done = λ isnt. w.all_done (memory isnt).0;
    are_done = w.goes.are_done;
    done = λ is. (refl, told_to_stop g (can is) w.entries (has_ended is), has_ended is);
  }

  pub wrote : Wrote g w.entries s t status
  wrote = record { front = front; whole = whole }

  pub captured : Captured g name w.entries s t status
  captured = record { are_settings = λ _. p.are_settings; held = held }

  -- ---- the causes of the printing's end, of the work's and of a refusal, as this says what each status needs

  module _ (C : Status → Type 0) (at_done : C Done) (at_memory : C OutOfMemory)
      (at_write : Rose s.write_faults t.write_faults ⊎ Rose s.record_faults t.record_faults → C WriteFault) (at_world : Rose s.world_faults t.world_faults → C WorldFault)
      (at_thread : Rose s.refusals t.refusals → C NoThread) (at_end : (w.turns ≡ limit) × (has_stopped (chronicle g w.entries) ≡ false) → C TooLong) where
    pub print_caused : C (of_print broke)
    print_caused = by broke refl
      where
        by : (f : Option NextFault) → broke ≡ f → C (of_print f)
        by None e = at_done
        by (Some fault.Failed) e = at_write (inl (subst (λ k. Rose k t.write_faults) (ap (λ x. x.write_faults) p.same) (write_rose e)))
        by (Some fault.OutOfMemory) e = at_memory

    pub work_caused : C (of_work how)
    work_caused = by how w.ends
      where
        by : (e : Ending) → Ends e (has_stopped (chronicle g w.entries)) w.turns limit keep (scene u.told looked u.world_faults u.kept u.record_faults actor) (scene t.told looked' t.world_faults t.kept t.record_faults actor') w.unstepped w.pending → C (of_work e)
        by ending.Stopped h = at_done
        by ending.WorldFault h = at_world (rose_since s.world_faults u.world_faults t.world_faults p.world_later h.4)
        by ending.RecordFault h = at_write (inr (record_rose h.4))
        by ending.TooLong h = at_end (h.3, h.0)
        by ending.OutOfMemory h = at_memory

    pub thread_caused : (refused : Bool) → (refused ≡ true → Rose u.refusals t.refusals) → C (of_thread refused)
    thread_caused true rose = at_thread (subst (λ k. Rose k t.refusals) (ap (λ x. x.refusals) p.same) (rose refl))
    thread_caused false rose = at_done

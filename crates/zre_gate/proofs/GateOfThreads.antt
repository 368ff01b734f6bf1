-- A gate whose threads were started.
use Rattle.std.proofs.Common.{◌≡◌, ◌≢◌, ℕ, ◌≤◌, ◌<◌, Bool, true, false, true≢false, List, [], ◌∷◌, ◌++◌, map, length, Option, Some, None, refl, sym, ap, ◌∙◌, subst, append_assoc, append-nil}
use Rattle.std.specs.Prelude.{◌⊎◌, All, Contains}
use mathlib.Core.HLevel.{⊥_prop}
use mathlib.Core.Logic.{inl, inr}
use mathlib.Core.List.{IsPrefix}
use Rattle.std.specs.List.{list_any}
use Rattle.std.specs.Io.KnownBytes.{Keeps}
use Rattle.std.proofs.Math.Logic.{∥∥₁_map, ∥∥₁_elim}
use Rattle.std.proofs.lemmas.List.{map-append, length-map}
use Rattle.std.proofs.lemmas.List.Elements.{All-nil, All-cons, All-head, All-tail, All-map, All-weaker, All-contains, All-contains_itself}
use Rattle.zre_outside.specs.declared.entry.Entry.{Entry}
use Rattle.zre_outside.specs.declared.entry.Command.{Command}
use Rattle.zre_outside.specs.declared.entry.Command.TheVariants.{Quit}
use Rattle.zre_outside.specs.declared.sink.NextFault.{NextFault}
use Rattle.zre_outside.specs.declared.sink.NextFault.TheVariants as fault
use Rattle.zre_outside.specs.declared.start.Start.{Start}
use Rattle.zre_outside.specs.Causes.{Rose}
use Rattle.zre_values.specs.declared.settings.Settings.{Settings as Config}
use Rattle.zre_journal.specs.Events.{chronicle}
use Rattle.zre_journal.specs.Happens.{has_stopped}
use Rattle.zre_node.specs.declared.node.Node.{Node}
use Rattle.zre_actor.specs.declared.ending.Ending.{Ending}
use Rattle.zre_actor.specs.declared.ending.Ending.TheVariants as ending
use Rattle.zre_actor.specs.declared.passes.ActorPass.{ActorPass}
use Rattle.zre_actor.specs.declared.passes.CallerPass.{CallerPass}
use Rattle.zre_actor.specs.declared.passes.TakerPass.{TakerPass}
use Rattle.zre_actor.specs.declared.views.Placed.{Placed}
use Rattle.zre_actor.specs.Commands.{under, times, command_of}
use Rattle.zre_actor.specs.Passes.{IsNew, number, ended, put_by, puts_of, popped_by, raised_by, taken_by}
use Rattle.zre_actor.specs.Work.{WorkScene, scene, IsWork, Ends, QuitsLast}
use Rattle.zre_console.specs.lines.Orders.{is_quit}
use Rattle.zre_console.specs.declared.reader.ending.InputEnd.TheVariants as end
use Rattle.zre_commands.specs.declared.pump.status.Status.{Status}
use Rattle.zre_commands.specs.declared.pump.status.Status.TheVariants.{Done, TooLong, OutOfMemory, DeskFault}
use Rattle.zre_console.specs.printer.Asking.{asked, asker_of}
use Rattle.zre_console.specs.printer.Printing.{HasPrinted}
use Rattle.zre_console.specs.Lived.{Seen}
use Rattle.zre_console.specs.Stages.{Prepared}
use Rattle.zre_console.specs.Statuses.{least, of_print, of_work, of_thread}
use Rattle.zre_console.proofs.StatusIsFirstFailure.{least_holds, rest_holds, isnt_of_parts, rest_of_parts}
use Rattle.zre_console.proofs.SecondCaller.{asked_few, asker_put}
use Rattle.zre_console.proofs.NodeThread as living
use Rattle.zre_console.proofs.PoppedCommands.{all_under}
use Rattle.zre_console.proofs.StatusOfParts as parts
use Rattle.zre_gate.specs.Clients.{SeenClient, Served, IsServed, put_for_all}
use Rattle.zre_gate.specs.Clients as clients
use Rattle.zre_gate.specs.Gate.{Client, IsClient, IsWhole, IsFree, IsLong, IsCaused, Merged, HasServed, IsGate, before_of, after_of, handed_of}
use Rattle.zre_gate.specs.Gathering.{IsWell, IsOwnEnd, Gathers, Closes}
use Rattle.zre_gate.specs.ClientLists as client_lists
use Rattle.zre_gate.specs.Interleaving.{IsInterleaving}
use Rattle.zre_gate.specs.ClientLists.{NewClient, number_of, new_client_of}
use Rattle.zre_gate.proofs.ClientAnswers.{nat_prop}
use Rattle.zre_gate.proofs.ServedClients.{client_for, plain_commands, is_client, is_free, is_whole, is_long}
use Rattle.zre_gate.proofs.InterleavedCommands.{num, IsPlain, its_named, quit_split, quits_front, map_split, nothing_mapped, named_front, is_interleaved, named_all, none_quit, all_last}

-- ---- lists of clients

pub map_map : {X Y Z : Type 0} (f : Y → Z) (h : X → Y) (xs : List X) → map f (map h xs) ≡ map (λ x. f (h x)) xs
map_map f h [] = refl
map_map f h (x ∷ xs) = ap (λ l. f (h x) ∷ l) (map_map f h xs)

unmapped : {X Y : Type 0} (P : Y → Type 0) (f : X → Y) (xs : List X) → All P (map f xs) → All (λ x. P (f x)) xs
unmapped P f [] a = All-nil (λ x. P (f x))
unmapped P f (x ∷ xs) a = All-cons (λ x. P (f x)) x xs (All-head P (f x) (map f xs) a) (unmapped P f xs (All-tail P (f x) (map f xs) a))

contains_mapped : {X Y : Type 0} (f : X → Y) (xs : List X) (x : X) → Contains xs x → Contains (map f xs) (f x)
contains_mapped f xs x there = All-contains (λ y. Contains (map f xs) (f y)) xs x (unmapped (Contains (map f xs)) f xs (All-contains_itself (map f xs))) there

module _ (g : Config) (start : Start) (name : Option (List ℕ)) (keep : Bool) (limit many : ℕ) (s u t : Seen) (p : Prepared g start name keep s u)
    (n : Node) (how : Ending) (looked looked' : Bool) (actor actor' : ActorPass)
    (w : IsWork g [] keep limit (scene u.told looked u.world_faults u.kept u.record_faults actor) (scene t.told looked' t.world_faults t.kept t.record_faults actor') n how)
    (named : Keeps u.named t.named) (none_popped : popped_by actor ≡ []) (none_raised : raised_by actor ≡ [])
    (new_clients : List NewClient) (afters : List SeenClient) (closer closer' : CallerPass) (close : Status)
    (asker asker' : CallerPass) (refused : Bool) (taker taker' : TakerPass) (broke : Option NextFault)
    (d : HasPrinted (asker_of asker refused) taker taker' asker' broke u.written t.written)
    (write_rose : broke ≡ Some fault.Failed → Rose u.write_faults t.write_faults) (start_rose : refused ≡ true → Rose u.refusals t.refusals)
    (none_taken : taken_by taker ≡ []) (new_closer : IsNew closer) (new_asker : IsNew asker)
    (apart : (m : ℕ) → times m (number closer ∷ number asker ∷ map number_of new_clients) ≤ 1)
    (fronts : (m : ℕ) → IsPrefix (under m (popped_by actor')) (under m (puts_of (closer' ∷ asker' ∷ []))))
    (ends : (before : List Placed) (last : Placed) (m : ℕ) → popped_by actor' ≡ before ++ last ∷ [] → 1 ≤ times m last.ended → under m (popped_by actor') ≡ under m (puts_of (closer' ∷ asker' ∷ [])))
    (all_taken : taken_by taker' ≡ raised_by actor') (desk : Type 0) (are_many : length new_clients ≡ many) where
  abbrev statuses : List Status
  statuses = parts.statuses close broke how refused

  abbrev status : Status
  status = least statuses

  both : status ≢ OutOfMemory → (how ≢ ending.OutOfMemory) × (broke ≢ Some fault.OutOfMemory)
  both = parts.both close broke how refused

  well : status ≡ Done → (of_work how ≡ Done) × (broke ≡ None)
  well = parts.well close broke how refused

  -- ---- what the callers put

  abbrev popped : List Placed
  popped = w.goes.popped

  abbrev handed : List Command
  handed = w.goes.handed

  is_popped : popped_by actor' ≡ popped
  is_popped = living.is_popped g start name keep limit s u t p n how looked looked' actor actor' w named none_popped none_raised (asker_of asker refused) asker' taker taker' broke d write_rose none_taken all_taken status both well

  abbrev wished : List Command
  wished = asked d.last.wish

  calm : status ≡ Done → wished ≡ []
  calm is = ap asked (d.calm (well is).1 (ap (λ b. (asker_of asker b).wish) (parts.has_started close broke how refused is)))

  put_last : put_by asker' ≡ all_under (number asker) (ended asker) wished
  put_last = asker_put asker refused taker taker' asker' broke u.written t.written d new_asker

  some : status ≡ Done → 0 < limit
  some is = living.turned g start name keep limit s u t p n how looked looked' actor actor' w named none_popped none_raised (asker_of asker refused) asker' taker taker' broke d write_rose none_taken all_taken status both well is

  none_pending : (e : Ending) (x y : WorkScene) (stopped : Bool) (turns : ℕ) (unstepped : List Entry) (pending : List Command) → Ends e stopped turns limit keep x y unstepped pending → of_work e ≡ Done → pending ≡ []
  none_pending ending.Stopped x y stopped turns unstepped pending h is = h.2
  none_pending ending.WorldFault x y stopped turns unstepped pending h is = absurd (cc)
  none_pending ending.RecordFault x y stopped turns unstepped pending h is = absurd (cc)
  none_pending ending.TooLong x y stopped turns unstepped pending h is = absurd (cc)
  none_pending ending.OutOfMemory x y stopped turns unstepped pending h is = absurd (cc)

  module _ (k : Closes limit new_clients afters closer closer' close) where
    -- ---- what the clients put

    abbrev gathers : Gathers limit new_clients afters closer k.mid close k.over
    gathers = k.gathers

    abbrev S : List Served
    S = k.gathers.served

    their_numbers : map num S ≡ map number_of new_clients
    their_numbers = sym (map_map number_of new_client_of S) ∙ ap (map number_of) gathers.are_new_clients

    put_first : put_by closer' ≡ put_for_all S ++ all_under (number closer) (map num S) k.tail
    put_first =
        let numbers : ended k.mid ≡ map num S = gathers.absorbed ∙ ap (λ l. l ++ map number_of new_clients) new_closer.0 ∙ sym their_numbers in
        k.puts.put ∙ ap (λ l. l ++ all_under (number k.mid) (ended k.mid) k.tail) (gathers.put ∙ ap (λ l. l ++ put_for_all S) new_closer.1)
        ∙ ap (λ (x : ℕ × List ℕ). put_for_all S ++ all_under x.0 x.1 k.tail) (λ i. (gathers.same_number i, numbers i))

    all_puts : puts_of (closer' ∷ asker' ∷ []) ≡ (put_for_all S ++ all_under (number closer) (map num S) k.tail) ++ (all_under (number asker) (ended asker) wished ++ [])
    all_puts = ap (λ (x : List Placed × List Placed). x.0 ++ (x.1 ++ [])) (λ i. (put_first i, put_last i))

    its_fronts : (m : ℕ) → IsPrefix (under m popped) (under m ((put_for_all S ++ all_under (number closer) (map num S) k.tail) ++ (all_under (number asker) (ended asker) wished ++ [])))
    its_fronts m = subst (λ (x : List Placed × List Placed). IsPrefix (under m x.0) (under m x.1)) (λ i. (is_popped i, all_puts i)) (fronts m)

    its_apart : (m : ℕ) → times m (number closer ∷ number asker ∷ map num S) ≤ 1
    its_apart m = subst (λ l. times m (number closer ∷ number asker ∷ l) ≤ 1) (sym their_numbers) (apart m)

    plain : All IsPlain S
    plain = All-weaker (IsServed limit) IsPlain (λ x h. plain_commands x.end limit x.commands x.octets x.after.left (Rose x.before.faults x.after.faults) h.outcome) S gathers.each

    ends_well : status ≡ Done → All IsWell S
    ends_well is = gathers.ends.well (parts.read_done close broke how refused is)

    -- ---- the clients, where this much was handed in without a quit

    module _ (b : List Placed) where
      abbrev the_clients : List Client
      the_clients = map (client_for (its_named b)) S

      module _ (r : List Placed) (is_front : popped ≡ b ++ r) (none : list_any is_quit (map command_of b) ≡ false) where
        its_front : All (λ x. IsPrefix (its_named b x) x.commands) S
        its_front = named_front S (number closer) (number asker) (ended asker) k.tail wished its_apart k.closes (asked_few d.last.wish) plain popped its_fronts b r is_front none

        each : All (IsClient limit) the_clients
        each = All-map (IsClient limit) (client_for (its_named b)) S
            (All-weaker (λ x. IsServed limit x × IsPrefix (its_named b x) x.commands) (λ x. IsClient limit (client_for (its_named b) x)) (λ x h. is_client limit (its_named b) x h.0 h.1) S (λ i e h. (gathers.each i e h, its_front i e h)))

        free : status ≡ Done → All (IsFree limit) the_clients
        free is = All-map (IsFree limit) (client_for (its_named b)) S
            (All-weaker (λ x. (IsServed limit x × IsWell x) × IsPrefix (its_named b x) x.commands) (λ x. IsFree limit (client_for (its_named b) x))
            (λ x h. is_free limit (its_named b) x h.0.0 h.0.1 (some is) h.1) S (λ i e h. ((gathers.each i e h, ends_well is i e h), its_front i e h)))

        interleaved : IsInterleaving (map handed_of the_clients) (map command_of b)
        interleaved = subst (λ l. IsInterleaving l (map command_of b)) (sym (map_map handed_of (client_for (its_named b)) S))
            (is_interleaved S (number closer) (number asker) (ended asker) k.tail wished its_apart k.closes (asked_few d.last.wish) plain popped its_fronts b r is_front none)

        long : (x : Served) → Contains S x → x.end ≡ end.TooLong → (c : Client) × Contains the_clients c × IsLong limit c
        long x there is = (client_for (its_named b) x, contains_mapped (client_for (its_named b)) S x there, is_long limit (its_named b) x (All-contains (IsServed limit) S x gathers.each there) is)

        -- ---- the causes

        close_cause : (close ≡ Done) ⊎ ((close ≡ OutOfMemory) ⊎ ((close ≡ TooLong) × (x : Served) × Contains S x × (x.end ≡ end.TooLong))) → (turns : ℕ) (stopped : Bool)
            → IsCaused close limit the_clients turns stopped s t desk
        close_cause (inl is) turns stopped = subst (λ (z : Status). IsCaused z limit the_clients turns stopped s t desk) (sym is) tt
        close_cause (inr (inl is)) turns stopped = subst (λ (z : Status). IsCaused z limit the_clients turns stopped s t desk) (sym is) tt
        close_cause (inr (inr (is, x, there, too))) turns stopped = subst (λ (z : Status). IsCaused z limit the_clients turns stopped s t desk) (sym is) (inl (long x there too))

        abbrev Needs : Status → Type 0
        Needs x = IsCaused x limit the_clients w.turns (has_stopped (chronicle g w.entries)) s t desk

        rest_cause : Needs (of_print broke) × Needs (of_work how) × Needs (of_thread refused)
        rest_cause = (
          living.print_caused g start name keep limit s u t p n how looked looked' actor actor' w named none_popped none_raised (asker_of asker refused) asker' taker taker' broke d write_rose none_taken all_taken status both well Needs tt tt (λ h. h) (λ h. h) (λ h. h) (λ h. inr h),
          living.work_caused g start name keep limit s u t p n how looked looked' actor actor' w named none_popped none_raised (asker_of asker refused) asker' taker taker' broke d write_rose none_taken all_taken status both well Needs tt tt (λ h. h) (λ h. h) (λ h. h) (λ h. inr h),
          living.thread_caused g start name keep limit s u t p n how looked looked' actor actor' w named none_popped none_raised (asker_of asker refused) asker' taker taker' broke d write_rose none_taken all_taken status both well Needs tt tt (λ h. h) (λ h. h) (λ h. h) (λ h. inr h) refused start_rose,
        )

        has_served : Merged limit the_clients handed status → HasServed limit handed w.turns (has_stopped (chronicle g w.entries)) s t desk (map client_lists.before_of new_clients) afters status
        has_served merged = record {
          clients = the_clients;
          are_before = map_map before_of (client_for (its_named b)) S ∙ sym (map_map client_lists.before_of new_client_of S) ∙ ap (map client_lists.before_of) gathers.are_new_clients;
          are_after = map_map after_of (client_for (its_named b)) S ∙ gathers.are_after;
          each = each;
          merged = merged;
          caused = least_holds Needs close (of_print broke ∷ of_work how ∷ of_thread refused ∷ []) (close_cause gathers.ends.cause w.turns (has_stopped (chronicle g w.entries)))
              (rest_holds Needs broke how refused rest_cause.0 rest_cause.1 rest_cause.2 tt);
        }

    -- none of these is the desk's
    isnt_desk : status ≢ DeskFault
    isnt_desk = least_holds (λ x. x ≢ DeskFault) close (of_print broke ∷ of_work how ∷ of_thread refused ∷ []) (closes gathers.ends.cause)
        (isnt_of_parts (least (of_print broke ∷ of_work how ∷ of_thread refused ∷ [])) DeskFault (rest_of_parts broke how refused) refl)
      where
        closes : (close ≡ Done) ⊎ ((close ≡ OutOfMemory) ⊎ ((close ≡ TooLong) × (x : Served) × Contains S x × (x.end ≡ end.TooLong))) → close ≢ DeskFault
        closes (inl is) e = (let y : Done ≡ DeskFault = sym is ∙ e in cc)
        closes (inr (inl is)) e = (let y : OutOfMemory ≡ DeskFault = sym is ∙ e in cc)
        closes (inr (inr (is, x, there, too))) e = (let y : TooLong ≡ DeskFault = sym is ∙ e in cc)

    their_afters : length afters ≡ many
    their_afters = ap length (sym gathers.are_after) ∙ length-map S clients.after_of ∙ sym (length-map S new_client_of) ∙ ap length gathers.are_new_clients ∙ are_many

    served : HasServed limit handed w.turns (has_stopped (chronicle g w.entries)) s t desk (map client_lists.before_of new_clients) afters status
    served =
        let cut = map_split popped handed w.pending w.goes.are_handed in
        by cut.0 cut.1 cut.2 cut.3 cut.4 (quit_split cut.0 (subst QuitsLast (sym cut.3) (quits_front handed w.pending (subst QuitsLast w.goes.are_handed w.quits_last))))
      where
        by : (f r : List Placed) → popped ≡ f ++ r → map command_of f ≡ handed → map command_of r ≡ w.pending
            → (list_any is_quit (map command_of f) ≡ false) ⊎ ((b : List Placed) × (l : Placed) × (f ≡ b ++ l ∷ []) × (l.command ≡ Quit) × (list_any is_quit (map command_of b) ≡ false))
            → HasServed limit handed w.turns (has_stopped (chronicle g w.entries)) s t desk (map client_lists.before_of new_clients) afters status
        by f r is_all is_handed is_pending (inl none) = has_served f r is_all none (record {
          body = map command_of f;
          tail = [];
          parts = sym is_handed ∙ sym (append-nil (map command_of f));
          closes = inl refl;
          interleaved = interleaved f r is_all none;
          all_handed = λ is any. absurd (true≢false (sym any ∙ ap (list_any is_quit) (sym is_handed) ∙ none));
          free = free f r is_all none;
        })
        by f r is_all is_handed is_pending (inr (b, l, is_cut, quit, none)) = has_served b (l ∷ r) front none (record {
          body = map command_of b;
          tail = Quit ∷ [];
          parts = sym is_handed ∙ ap (map command_of) is_cut ∙ map-append command_of b (l ∷ []) ∙ ap (λ c. map command_of b ++ c ∷ []) quit;
          closes = inr refl;
          interleaved = interleaved b (l ∷ r) front none;
          all_handed = λ is any. whole is;
          free = free b (l ∷ r) front none;
        })
          where
            front : popped ≡ b ++ (l ∷ r)
            front = is_all ∙ ap (λ x. x ++ r) is_cut ∙ append_assoc b (l ∷ []) r

            last : status ≡ Done → popped ≡ b ++ l ∷ []
            last is = is_all ∙ ap (λ x. f ++ x) (nothing_mapped r (is_pending ∙ none_pending how _ _ _ w.turns w.unstepped w.pending w.ends (well is).0)) ∙ append-nil f ∙ is_cut

            was_open : status ≡ Done → k.over ≡ false
            was_open is = shut k.over refl
              where
                shut : (z : Bool) → k.over ≡ z → k.over ≡ false
                shut false e = e
                shut true e = absurd (true≢false (sym (ap is_quit quit) ∙ all_last (λ x. is_quit x.command ≡ false) b l (subst (All (λ x. is_quit x.command ≡ false)) (last is)
                    (none_quit S (number closer) (number asker) (ended asker) k.tail wished its_apart k.closes (asked_few d.last.wish) plain popped its_fronts (k.calm e) (calm is)))))

            whole : status ≡ Done → All (IsWhole limit) (the_clients b)
            whole is = All-map (IsWhole limit) (client_for (its_named b)) S
                (All-weaker (λ x. ((IsServed limit x × IsWell x) × IsOwnEnd x) × (its_named b x ≡ x.commands)) (λ x. IsWhole limit (client_for (its_named b) x))
                (λ x h. is_whole limit (its_named b) x h.0.0.0 h.0.0.1 h.0.1 h.1) S
                (λ i e h. (((gathers.each i e h, ends_well is i e h), gathers.own_ends (was_open is) i e h), all_of i e h)))
              where
                all_of : All (λ x. its_named b x ≡ x.commands) S
                all_of = named_all S (number closer) (number asker) (ended asker) k.tail wished its_apart k.closes (asked_few d.last.wish) plain popped its_fronts b l (last is) quit (calm is)
                    (λ m told. (let e = ends b l m (is_popped ∙ last is) told in ap (under m) (sym is_popped) ∙ e ∙ ap (under m) all_puts))

  -- the clients are known to be there, and no more
  pub gated : ∥ Closes limit new_clients afters closer closer' close ∥₁ → IsGate g start name limit many s t desk (map client_lists.before_of new_clients) afters status
  gated closes = record {
    lived = living.lived g start name keep limit s u t p n how looked looked' actor actor' w named none_popped none_raised (asker_of asker refused) asker' taker taker' broke d write_rose none_taken all_taken status both well;
    wrote = living.wrote g start name keep limit s u t p n how looked looked' actor actor' w named none_popped none_raised (asker_of asker refused) asker' taker taker' broke d write_rose none_taken all_taken status both well;
    captured = living.captured g start name keep limit s u t p n how looked looked' actor actor' w named none_popped none_raised (asker_of asker refused) asker' taker taker' broke d write_rose none_taken all_taken status both well;
    unwritten = λ is. absurd (∥∥₁_elim closes ⊥_prop (λ k. isnt_desk k is));
    full = λ is. ∥∥₁_elim closes (nat_prop (length afters) many) their_afters;
    served = ∥∥₁_map closes served;
  }

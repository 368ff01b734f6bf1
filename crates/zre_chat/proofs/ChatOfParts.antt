-- What a chat comes to, from what its parts came to.
use Rattle.std.proofs.Common.{◌≡◌, ◌≢◌, ℕ, ◌==◌, Bool, true, false, true≢false, List, [], ◌∷◌, ◌++◌, map, Option, Some, ◌<◌, length, refl, sym, ap, ◌∙◌, subst, arith, append-nil}
use Rattle.std.specs.Prelude.{◌⊎◌, option_map}
use mathlib.Core.Logic.{inl, inr}
use mathlib.Core.List.{IsPrefix}
use Rattle.std.specs.List.{list_any}
use Rattle.std.specs.Io.KnownBytes.{Appends, Consumes, IsAtEnd}
use Rattle.std.proofs.KnownBytes.{Appends-nil, Consumes-nil}
use Rattle.std.proofs.lemmas.List.{map-append}
use Rattle.zre_outside.specs.declared.entry.Command.{Command}
use Rattle.zre_outside.specs.declared.entry.Command.TheVariants.{Quit}
use Rattle.zre_outside.specs.declared.start.Start.{Start}
use Rattle.zre_outside.specs.Causes.{Rose}
use Rattle.zre_values.specs.declared.settings.Settings.{Settings as Config}
use Rattle.zre_capture.specs.Heads.{AreSettings}
use Rattle.zre_actor.specs.declared.views.Placed.{Placed}
use Rattle.zre_actor.specs.Commands.{under, command_of}
use Rattle.zre_actor.specs.Work.{QuitsLast}
use Rattle.zre_actor.proofs.SumsOverPasses.{under-append}
use Rattle.zre_commands.specs.declared.pump.status.Status.{Status}
use Rattle.zre_commands.specs.declared.pump.status.Status.TheVariants.{Done, WriteFault, WorldFault, OutOfMemory}
use Rattle.zre_console.specs.lines.Orders.{is_quit, typed, orders}
use Rattle.zre_console.specs.declared.reader.ending.InputEnd.{InputEnd}
use Rattle.zre_console.specs.declared.reader.ending.InputEnd.TheVariants as end
use Rattle.zre_console.specs.reader.Putting.{IsShort}
use Rattle.zre_console.specs.reader.Reading.{Outcome, BreaksOff}
use Rattle.zre_console.specs.Lived.{Seen, Holds, started}
use Rattle.zre_console.specs.Stages.{IsEarly, Unprepared}
use Rattle.zre_console.specs.Statuses.{of_read}
use Rattle.zre_console.proofs.CommandPrefixes.{map-prefix, quits_through, none_before, breaks_front, breaks_by, breaks_plain, orders_break, quit_front, cut_breaks}
use Rattle.zre_console.proofs.LeastStatus.{write_isnt, world_isnt, memory_isnt}
use Rattle.zre_console.proofs.PoppedCommands.{all_under, its_own, no_others, commands_under, prefix_nil, TwoAlone, split, alone}
use Rattle.zre_console.proofs.EndBeforeStart.{head_only, nothing_begins, unlived, unwritten, uncaptured}
use Rattle.zre_chat.specs.Chat.{IsChat, IsCaused}

module _ (g : Config) (start : Start) (name : Option (List ℕ)) (limit : ℕ) where
  -- a chat that ended before the threads were started
  pub unstarted : (begun : Bool) (s t : Seen) (status : Status) → (status ≢ OutOfMemory → AreSettings g) → t.left ≡ s.left → t.taken ≡ s.taken → t.written ≡ s.written → t.told ≡ option_map (started begun start) s.told
      → status ≢ Done → IsCaused status limit [] 0 false s t
      → ((file : List ℕ) → name ≡ Some file → status ≢ OutOfMemory → ¬ Rose s.record_faults t.record_faults → Holds g file [] s t)
      → IsChat g start name limit s t status
  unstarted begun s t status settings left taken written told not_done cause holds = record {
    octets = [];
    are_taken = record { consumed = subst (λ x. Consumes s.left x []) (sym left) (Consumes-nil s.left); recorded = subst (λ x. Appends s.taken x []) (sym taken) (Appends-nil s.taken) };
    within = omega arith;
    lived = unlived g start name limit begun s t status told not_done;
    wrote = unwritten g start name limit s t status written;
    captured = uncaptured g start name limit s t status settings not_done holds;
    ordered = record {
      in_order = record { front = []; tail = []; parts = refl; begins = nothing_begins []; are_whole = inl ([], refl); closes = inl refl };
      are_front = λ d. absurd (not_done d);
      all_handed = λ d. absurd (not_done d);
      ended = λ d. absurd (not_done d);
    };
    caused = cause;
  }

module _ (g : Config) (start : Start) (name : Option (List ℕ)) (limit : ℕ) (settings : AreSettings g) where
  -- the same, where its settings are values of their types
  pub untalked : (begun : Bool) (s t : Seen) (status : Status) → t.left ≡ s.left → t.taken ≡ s.taken → t.written ≡ s.written → t.told ≡ option_map (started begun start) s.told
      → status ≢ Done → IsCaused status limit [] 0 false s t
      → ((file : List ℕ) → name ≡ Some file → status ≢ OutOfMemory → ¬ Rose s.record_faults t.record_faults → Holds g file [] s t)
      → IsChat g start name limit s t status
  untalked begun s t status = unstarted g start name limit begun s t status (λ _. settings)

  early : (s t : Seen) (status : Status) → IsEarly status ⊥ (Rose s.world_faults t.world_faults) (Rose s.record_faults t.record_faults) → (status ≢ Done) × IsCaused status limit [] 0 false s t
  early s t WriteFault is = (write_isnt, inr is)
  early s t WorldFault is = (world_isnt, is)
  early s t OutOfMemory is = (memory_isnt, tt)
  early s t status is = absurd is

  -- what was begun was refused, or memory ran out
  pub unprepared : (s t : Seen) (status : Status) → t.left ≡ s.left → t.taken ≡ s.taken → t.written ≡ s.written
      → Unprepared g start name status s.told t.told s.kept t.kept s.named t.named ⊥ (Rose s.world_faults t.world_faults) (Rose s.record_faults t.record_faults) → IsChat g start name limit s t status
  unprepared s t status left taken written u = let e = early s t status u.cause in
      untalked u.begun s t status left taken written u.is_told e.0 e.1 (λ file is isnt still. (let h = u.holds file is isnt still in (head_only g s.kept t.kept t.kept h.0 refl, h.1)))

-- ---- the commands

-- the text of a reader has ended: it was found at its end within the limit
abbrev pub HasFound : (e : InputEnd) (limit : ℕ) (o : List ℕ) (left : Option (List ℕ)) → Type 0
HasFound e limit o left = (e ≢ end.ReadFault) × IsAtEnd left × (length o < limit)

found_end : end.AtEnd ≢ end.ReadFault
found_end is = cc

found_over : end.Over ≢ end.ReadFault
found_over is = cc

-- those that the reader put break off the orders
pub read_orders : (e : InputEnd) (limit : ℕ) (commands : List Command) (o : List ℕ) (left : Option (List ℕ)) (read : Type 0) → Outcome e limit commands o left read → BreaksOff (HasFound e limit o left) commands o
read_orders end.Quit limit commands o left read x = orders_break (HasFound end.Quit limit o left) commands o x.1 (inl (quit_front o x.0))
read_orders end.AtEnd limit commands o left read x = orders_break (HasFound end.AtEnd limit o left) commands o x.2 (inr (found_end, x.0, x.1))
read_orders end.Over limit commands o left read x = record { front = commands; tail = []; parts = sym (append-nil commands); begins = x.0; are_whole = by x.2; closes = inl refl }
  where
    by : IsPrefix commands (typed o) ⊎ (IsAtEnd left × (length o < limit)) → IsPrefix commands (typed o) ⊎ HasFound end.Over limit o left
    by (inl whole) = inl whole
    by (inr at) = inr (found_over, at.0, at.1)
read_orders end.ReadFault limit commands o left read x = cut_breaks (HasFound end.ReadFault limit o left) commands o x.2 x.3
read_orders end.TooLong limit commands o left read x = cut_breaks (HasFound end.TooLong limit o left) commands o x.1 x.2
read_orders end.OutOfMemory limit commands o left read x = breaks_by ⊥ (HasFound end.OutOfMemory limit o left) commands o (λ none. absurd none) x

-- why nothing more was read, where nothing went wrong
abbrev pub IsThrough : (limit : ℕ) (commands : List Command) (o : List ℕ) (left : Option (List ℕ)) → Type 0
IsThrough limit commands o left = (IsAtEnd left × (length o < limit))
    ⊎ ((list_any is_quit (typed o) ≡ true) ⊎ ((list_any is_quit commands ≡ false) × ((o ≡ []) ⊎ ((length o < limit) ⊎ IsShort commands (typed o)))))

-- where nothing went wrong they are a front of them, and hold no quit where the reader was told of the end
pub read_front : (e : InputEnd) (limit : ℕ) (commands : List Command) (o : List ℕ) (left : Option (List ℕ)) (read : Type 0) → Outcome e limit commands o left read → of_read e ≡ Done
    → IsPrefix commands (orders o) × IsThrough limit commands o left
read_front e limit commands o left read x done = by e x done
  where
    all : commands ≡ orders o → IsPrefix commands (orders o)
    all is = ([], append-nil commands ∙ is)

    before : (rest : List Command) → orders o ≡ commands ++ (rest ++ Quit ∷ []) → list_any is_quit commands ≡ false
    before [] is = none_before commands Quit [] (subst QuitsLast is (quits_through _))
    before (c ∷ cs) is = none_before commands c (cs ++ Quit ∷ []) (subst QuitsLast is (quits_through _))

    by : (e : InputEnd) → Outcome e limit commands o left read → of_read e ≡ Done → IsPrefix commands (orders o) × IsThrough limit commands o left
    by end.Quit x d = (all x.1, inr (inl x.0))
    by end.AtEnd x d = (all x.2, inl (x.0, x.1))
    by end.Over x d = ((x.0.rest ++ Quit ∷ [], sym x.0.parts), inr (inr (before x.0.rest x.0.parts, x.1)))
    by end.ReadFault x d = absurd (cc)
    by end.TooLong x d = absurd (cc)
    by end.OutOfMemory x d = absurd (cc)

module _ (r q : ℕ) (er eq : List ℕ) (cs qs : List Command) (apart : r ≢ q) (es : List Placed)
    (fronts : (n : ℕ) → IsPrefix (under n es) (under n (all_under r er cs ++ (all_under q eq qs ++ [])))) where
  both : (n : ℕ) → under n (all_under r er cs ++ (all_under q eq qs ++ [])) ≡ under n (all_under r er cs) ++ under n (all_under q eq qs)
  both n = ap (λ l. under n (all_under r er cs ++ l)) (append-nil (all_under q eq qs)) ∙ under-append n (all_under r er cs) (all_under q eq qs)

  of_reader : IsPrefix (under r es) (all_under r er cs)
  of_reader = subst (IsPrefix (under r es)) (both r ∙ ap (λ l. l ++ under r (all_under q eq qs)) (its_own r er cs) ∙ ap (λ l. all_under r er cs ++ l) (no_others r q eq qs (λ e. apart (sym e))) ∙ append-nil (all_under r er cs)) (fronts r)

  of_asker : IsPrefix (under q es) (all_under q eq qs)
  of_asker = subst (IsPrefix (under q es)) (both q ∙ ap (λ l. l ++ under q (all_under q eq qs)) (no_others q r er cs apart) ∙ its_own q eq qs) (fronts q)

  of_none : TwoAlone r q es
  of_none n nr nq = prefix_nil (under n es) (subst (IsPrefix (under n es)) (both n ∙ ap (λ l. l ++ under n (all_under q eq qs)) (no_others n r er cs (λ e. nr (sym e))) ∙ no_others n q eq qs (λ e. nq (sym e))) (fronts n))

  -- the reader's commands in what was popped
  its_front : IsPrefix (map command_of (under r es)) cs
  its_front = subst (IsPrefix (map command_of (under r es))) (commands_under r er cs) (map-prefix command_of (under r es) (all_under r er cs) of_reader)

  -- where the other put nothing, they are all that was popped
  pub only : qs ≡ [] → IsPrefix (map command_of es) cs
  only none = subst (λ l. IsPrefix (map command_of l) cs) (sym (alone r es others)) its_front
    where
      others : (n : ℕ) → n ≢ r → under n es ≡ []
      others n nr = by (n == q) refl
        where
          by : (b : Bool) → (n == q) ≡ b → under n es ≡ []
          by true is = prefix_nil (under n es) (subst (IsPrefix (under n es)) (both n ∙ ap (λ l. l ++ under n (all_under q eq qs)) (no_others n r er cs (λ e. nr (sym e))) ∙ ap (λ l. under n (all_under q eq l)) none) (fronts n))
          by false isnt = of_none n nr (λ e. true≢false (sym (same e) ∙ isnt))
            where
              same : n ≡ q → (n == q) ≡ true
              same e = grind (arith, e)

  -- where it put at most a quit, they break off the orders that its commands break off
  pub most : (ended : Type 0) → (qs ≡ []) ⊎ (qs ≡ Quit ∷ []) → QuitsLast (map command_of es) → (o : List ℕ) → BreaksOff ended cs o → BreaksOff ended (map command_of es) o
  most ended asks quits o breaks = by (split r q es apart of_none quits is_quit_there)
    where
      is_quit_there : (e : Placed) (more : List Placed) → under q es ≡ e ∷ more → e.command ≡ Quit
      is_quit_there e more at = from asks
        where
          a : IsPrefix (e ∷ more) (all_under q eq qs)
          a = subst (λ l. IsPrefix l (all_under q eq qs)) at of_asker

          first : (xs : List Placed) → e ∷ xs ≡ all_under q eq (Quit ∷ []) → e.command ≡ Quit
          first xs is = cc

          from : (qs ≡ []) ⊎ (qs ≡ Quit ∷ []) → e.command ≡ Quit
          from (inl none) = absurd (let x : e ∷ (more ++ a.0) ≡ [] = a.1 ∙ ap (all_under q eq) none in cc)
          from (inr one) = first (more ++ a.0) (a.1 ∙ ap (all_under q eq) one)

      front : BreaksOff ended (map command_of (under r es)) o
      front = breaks_front ended (map command_of (under r es)) cs o its_front breaks

      by : (es ≡ under r es) ⊎ ((last : Placed) × (last.command ≡ Quit) × (es ≡ under r es ++ last ∷ [])) → BreaksOff ended (map command_of es) o
      by (inl is) = subst (λ l. BreaksOff ended (map command_of l) o) (sym is) front
      by (inr (last, quit, is)) =
          let same : map command_of es ≡ map command_of (under r es) ++ Quit ∷ [] =
          ap (map command_of) is ∙ map-append command_of (under r es) (last ∷ []) ∙ ap (λ c. map command_of (under r es) ++ c ∷ []) quit in
          let plain : list_any is_quit (map command_of (under r es)) ≡ false = none_before (map command_of (under r es)) Quit [] (subst QuitsLast same quits) in record {
            front = map command_of (under r es);
            tail = Quit ∷ [];
            parts = same;
            begins = (breaks_plain ended (map command_of (under r es)) o front plain).0;
            are_whole = (breaks_plain ended (map command_of (under r es)) o front plain).1;
            closes = inr refl;
          }

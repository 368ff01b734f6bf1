-- A chat whose threads were started.
use Rattle.std.proofs.Common.{◌≡◌, ◌≢◌, ℕ, Bool, true, List, [], ◌∷◌, ◌++◌, map, length, Option, Some, None, sym, ap, ◌∙◌, subst, arith, ◌<◌}
use Rattle.std.specs.Prelude.{◌⊎◌}
use mathlib.Core.Logic.{inl, inr}
use mathlib.Core.List.{IsPrefix}
use Rattle.std.specs.List.{list_any}
use Rattle.std.specs.Io.KnownBytes.{Keeps, IsAtEnd}
use Rattle.zre_outside.specs.declared.entry.Command.{Command}
use Rattle.zre_outside.specs.declared.sink.NextFault.{NextFault}
use Rattle.zre_outside.specs.declared.sink.NextFault.TheVariants as fault
use Rattle.zre_outside.specs.declared.start.Start.{Start}
use Rattle.zre_outside.specs.Causes.{Rose}
use Rattle.zre_outside.specs.Told.{MovesOn}
use Rattle.zre_values.specs.declared.settings.Settings.{Settings as Config}
use Rattle.zre_journal.specs.Events.{chronicle}
use Rattle.zre_journal.specs.Happens.{has_stopped}
use Rattle.zre_node.specs.declared.node.Node.{Node}
use Rattle.zre_actor.specs.declared.ending.Ending.{Ending}
use Rattle.zre_actor.specs.declared.ending.Ending.TheVariants as ending
use Rattle.zre_actor.specs.declared.passes.ActorPass.{ActorPass}
use Rattle.zre_actor.specs.declared.passes.CallerPass.{CallerPass}
use Rattle.zre_actor.specs.declared.passes.TakerPass.{TakerPass}
use Rattle.zre_actor.specs.declared.views.Placed.{Placed}
use Rattle.zre_actor.specs.Commands.{under, command_of}
use Rattle.zre_actor.specs.Passes.{IsNew, number, ended, put_by, puts_of, popped_by, raised_by, taken_by}
use Rattle.zre_actor.specs.Work.{scene, IsWork}
use Rattle.zre_console.specs.lines.Orders.{is_quit, typed, orders}
use Rattle.zre_console.specs.declared.reader.ending.InputEnd.{InputEnd}
use Rattle.zre_console.specs.declared.reader.ending.InputEnd.TheVariants as end
use Rattle.zre_console.specs.reader.Putting.{IsShort}
use Rattle.zre_console.specs.reader.Reading.{HasRead, Outcome, BreaksOff}
use Rattle.zre_commands.specs.declared.pump.status.Status.{Status}
use Rattle.zre_commands.specs.declared.pump.status.Status.TheVariants.{Done, ReadFault, OutOfMemory}
use Rattle.zre_console.specs.printer.Asking.{asked, asker_of}
use Rattle.zre_console.specs.Lived.{Seen}
use Rattle.zre_chat.specs.Chat.{IsChat, IsCaused, HasEnded}
use Rattle.zre_console.specs.printer.Printing.{HasPrinted}
use Rattle.zre_console.specs.Stages.{Prepared}
use Rattle.zre_console.specs.Statuses.{least, of_read, of_print, of_work, of_thread}
use Rattle.zre_console.proofs.CommandPrefixes.{prefix_trans, quits_through, all_front, none_front, short_front, breaks_front, breaks_by}
use Rattle.zre_console.proofs.PoppedCommands.{all_under}
use Rattle.zre_console.proofs.SecondCaller.{asked_few, asker_put}
use Rattle.zre_console.proofs.StatusIsFirstFailure.{least_holds, rest_holds}
use Rattle.zre_console.proofs.NodeThread as living
use Rattle.zre_console.proofs.StatusOfParts as parts
use Rattle.zre_console.proofs.StatusOfParts.{read_ended}
use Rattle.zre_chat.proofs.ChatOfParts.{IsThrough, HasFound, read_orders, read_front, only, most}

module _ (g : Config) (start : Start) (name : Option (List ℕ)) (keep : Bool) (limit : ℕ) (s u t : Seen) (p : Prepared g start name keep s u)
    (n : Node) (how : Ending) (looked looked' : Bool) (actor actor' : ActorPass)
    (w : IsWork g [] keep limit (scene u.told looked u.world_faults u.kept u.record_faults actor) (scene t.told looked' t.world_faults t.kept t.record_faults actor') n how)
    (named : Keeps u.named t.named) (none_popped : popped_by actor ≡ []) (none_raised : raised_by actor ≡ [])
    (stop : InputEnd) (reader reader' : CallerPass) (r : HasRead stop limit reader reader' u.left t.left u.taken t.taken (Rose u.read_faults t.read_faults))
    (asker asker' : CallerPass) (refused : Bool) (taker taker' : TakerPass) (broke : Option NextFault)
    (d : HasPrinted (asker_of asker refused) taker taker' asker' broke u.written t.written)
    (write_rose : broke ≡ Some fault.Failed → Rose u.write_faults t.write_faults) (start_rose : refused ≡ true → Rose u.refusals t.refusals)
    (none_taken : taken_by taker ≡ []) (new_reader : IsNew reader) (new_asker : IsNew asker) (apart : number reader ≢ number asker)
    (fronts : (n : ℕ) → IsPrefix (under n (popped_by actor')) (under n (puts_of (reader' ∷ asker' ∷ []))))
    (all_taken : taken_by taker' ≡ raised_by actor') where
  abbrev statuses : List Status
  statuses = parts.statuses (of_read stop) broke how refused

  abbrev status : Status
  status = least statuses

  both : status ≢ OutOfMemory → (how ≢ ending.OutOfMemory) × (broke ≢ Some fault.OutOfMemory)
  both = parts.both (of_read stop) broke how refused

  well : status ≡ Done → (of_work how ≡ Done) × (broke ≡ None)
  well = parts.well (of_read stop) broke how refused

  -- ---- the commands

  abbrev popped : List Placed
  popped = w.goes.popped

  is_popped : popped_by actor' ≡ popped
  is_popped = living.is_popped g start name keep limit s u t p n how looked looked' actor actor' w named none_popped none_raised (asker_of asker refused) asker' taker taker' broke d write_rose none_taken all_taken status both well

  put_last : put_by asker' ≡ all_under (number asker) (ended asker) (asked d.last.wish)
  put_last = asker_put asker refused taker taker' asker' broke u.written t.written d new_asker

  put_first : put_by reader' ≡ all_under (number reader) (ended reader) r.commands
  put_first = r.puts.put ∙ ap (λ l. l ++ all_under (number reader) (ended reader) r.commands) new_reader.1

  their_fronts : (n : ℕ) → IsPrefix (under n popped) (under n (all_under (number reader) (ended reader) r.commands ++ (all_under (number asker) (ended asker) (asked d.last.wish) ++ [])))
  their_fronts n = subst (λ (x : List Placed × (List Placed × List Placed)). IsPrefix (under n x.0) (under n (x.1.0 ++ (x.1.1 ++ [])))) (λ i. (is_popped i, (put_first i, put_last i))) (fronts n)

  abbrev handed : List Command
  handed = w.goes.handed

  handed_first : IsPrefix handed (map command_of popped)
  handed_first = (w.pending, sym w.goes.are_handed)

  in_order : BreaksOff ((status ≢ ReadFault) × IsAtEnd t.left × (length r.octets < limit)) handed r.octets
  in_order = breaks_by (HasFound stop limit r.octets t.left) ((status ≢ ReadFault) × IsAtEnd t.left × (length r.octets < limit)) handed r.octets
      (λ (found : HasFound stop limit r.octets t.left). ((λ (is : status ≡ ReadFault). found.0 (read_ended stop (parts.read_failed (of_read stop) broke how refused is))), found.1, found.2))
      (breaks_front (HasFound stop limit r.octets t.left) handed (map command_of popped) r.octets handed_first
      (most (number reader) (number asker) (ended reader) (ended asker) r.commands (asked d.last.wish) apart popped their_fronts (HasFound stop limit r.octets t.left) (asked_few d.last.wish) w.quits_last r.octets
      (read_orders stop limit r.commands r.octets t.left (Rose u.read_faults t.read_faults) r.outcome)))

  -- where all went well
  calm : status ≡ Done → IsPrefix handed r.commands
  calm is = prefix_trans handed (map command_of popped) r.commands handed_first
      (only (number reader) (number asker) (ended reader) (ended asker) r.commands (asked d.last.wish) apart popped their_fronts
      (ap asked (d.calm (well is).1 (ap (λ b. (asker_of asker b).wish) (parts.has_started (of_read stop) broke how refused is)))))

  read_well : status ≡ Done → IsPrefix r.commands (orders r.octets) × IsThrough limit r.commands r.octets t.left
  read_well is = read_front stop limit r.commands r.octets t.left (Rose u.read_faults t.read_faults) r.outcome (parts.read_done (of_read stop) broke how refused is)

  are_front : status ≡ Done → IsPrefix handed (orders r.octets)
  are_front is = prefix_trans handed r.commands (orders r.octets) (calm is) (read_well is).0

  all_handed : status ≡ Done → list_any is_quit handed ≡ true → handed ≡ orders r.octets
  all_handed is any = all_front handed (orders r.octets) (are_front is) (quits_through _) any

  -- ---- why nothing more was read

  input_ended : status ≡ Done → HasEnded limit r.octets handed t.left
  input_ended is = by (read_well is).1
    where
      more : (r.octets ≡ []) ⊎ ((length r.octets < limit) ⊎ IsShort r.commands (typed r.octets)) → (length r.octets < limit) ⊎ IsShort handed (typed r.octets)
      more (inl none) = inl (let nothing : length r.octets ≡ 0 = ap length none in let a : 0 < limit = living.turned g start name keep limit s u t p n how looked looked' actor actor' w named none_popped none_raised (asker_of asker refused) asker' taker taker' broke d write_rose none_taken all_taken status both well is in omega (arith, nothing, a))
      more (inr (inl less)) = inl less
      more (inr (inr short)) = inr (short_front handed r.commands (typed r.octets) (calm is) short)

      by : IsThrough limit r.commands r.octets t.left → HasEnded limit r.octets handed t.left
      by (inl a) = inl a
      by (inr (inl b)) = inr (inl b)
      by (inr (inr (c, x))) = inr (inr (none_front handed r.commands (calm is) c, more x))

  -- ---- the causes

  read_cause : (e : InputEnd) → Outcome e limit r.commands r.octets t.left (Rose u.read_faults t.read_faults) → (turns : ℕ) (stopped : Bool) → IsCaused (of_read e) limit r.octets turns stopped s t
  read_cause end.Quit x turns stopped = tt
  read_cause end.AtEnd x turns stopped = tt
  read_cause end.Over x turns stopped = tt
  read_cause end.ReadFault x turns stopped = (subst (λ k. Rose k t.read_faults) (ap (λ x. x.read_faults) p.same) x.0, x.1, x.2)
  read_cause end.TooLong x turns stopped = inl (x.0, x.1)
  read_cause end.OutOfMemory x turns stopped = tt

  abbrev Needs : Status → Type 0
  Needs x = IsCaused x limit r.octets w.turns (has_stopped (chronicle g w.entries)) s t

  rest_cause : Needs (of_print broke) × Needs (of_work how) × Needs (of_thread refused)
  rest_cause = (
    living.print_caused g start name keep limit s u t p n how looked looked' actor actor' w named none_popped none_raised (asker_of asker refused) asker' taker taker' broke d write_rose none_taken all_taken status both well Needs tt tt (λ h. h) (λ h. h) (λ h. h) (λ h. inr h),
    living.work_caused g start name keep limit s u t p n how looked looked' actor actor' w named none_popped none_raised (asker_of asker refused) asker' taker taker' broke d write_rose none_taken all_taken status both well Needs tt tt (λ h. h) (λ h. h) (λ h. h) (λ h. inr h),
    living.thread_caused g start name keep limit s u t p n how looked looked' actor actor' w named none_popped none_raised (asker_of asker refused) asker' taker taker' broke d write_rose none_taken all_taken status both well Needs tt tt (λ h. h) (λ h. h) (λ h. h) (λ h. inr h) refused start_rose,
  )

  pub talked : IsChat g start name limit s t status
  talked = record {
    octets = r.octets;
    are_taken = subst (λ (x : Option (List ℕ) × Option (List ℕ)). MovesOn x.0 t.left x.1 t.taken r.octets) (λ i. ((p.same i).left, (p.same i).taken)) r.moved;
    within = r.within;
    lived = living.lived g start name keep limit s u t p n how looked looked' actor actor' w named none_popped none_raised (asker_of asker refused) asker' taker taker' broke d write_rose none_taken all_taken status both well;
    wrote = living.wrote g start name keep limit s u t p n how looked looked' actor actor' w named none_popped none_raised (asker_of asker refused) asker' taker taker' broke d write_rose none_taken all_taken status both well;
    captured = living.captured g start name keep limit s u t p n how looked looked' actor actor' w named none_popped none_raised (asker_of asker refused) asker' taker taker' broke d write_rose none_taken all_taken status both well;
    ordered = record { in_order = in_order; are_front = are_front; all_handed = all_handed; ended = input_ended };
    caused = least_holds Needs (of_read stop) (of_print broke ∷ of_work how ∷ of_thread refused ∷ []) (read_cause stop r.outcome w.turns (has_stopped (chronicle g w.entries)))
        (rest_holds Needs broke how refused rest_cause.0 rest_cause.1 rest_cause.2 tt);
  }

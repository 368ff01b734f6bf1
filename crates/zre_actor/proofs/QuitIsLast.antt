-- No Quit is handed to a node that goes on.
use Rattle.std.proofs.Common.{◌≡◌, ◌≢◌, true, false, true≢false, cond, List, [], ◌∷◌, ◌++◌, Option, Some, None, refl, sym, ap, ◌∙◌}
use Rattle.std.specs.Prelude.{⊤, option_to_list}
use Rattle.zre_outside.specs.declared.entry.Entry.{Entry}
use Rattle.zre_outside.specs.declared.entry.Input.TheVariants as input
use Rattle.zre_outside.specs.declared.entry.Command.{Command}
use Rattle.zre_outside.specs.declared.entry.Command.TheVariants as ask
use Rattle.zre_outside.specs.declared.turn.Turn.TheVariants as turn
use Rattle.zre_outside.specs.Worlds.{IsTurn}
use Rattle.zre_values.specs.declared.settings.Settings.{Settings as Config}
use Rattle.zre_journal.specs.Chronicle.{Comes, after}
use Rattle.zre_journal.specs.Events.{chronicle}
use Rattle.zre_journal.specs.Happens.{has_stopped, at_input, with_entry}
use Rattle.zre_journal.specs.Laws.{Continues}
use Rattle.zre_journal.proofs.JoinedEntries.{continues}
use Rattle.zre_journal.proofs.NothingAfterStop.{stopped, stop-is}
use Rattle.zre_actor.specs.Work.{QuitsLast}

-- none of these commands is a Quit
abbrev pub NoQuit : List Command → Type 0
NoQuit [] = ⊤
NoQuit (c ∷ cs) = (c ≢ ask.Quit) × NoQuit cs

-- so one more may be
pub quits_snoc : (cs : List Command) (c : Command) → NoQuit cs → QuitsLast (cs ++ c ∷ [])
quits_snoc [] c none = (λ _. refl, tt)
quits_snoc (d ∷ cs) c none = (λ is. absurd (none.0 is), quits_snoc cs c none.1)

pub no_quit_more : (cs ds : List Command) → NoQuit cs → NoQuit ds → NoQuit (cs ++ ds)
no_quit_more [] ds a b = b
no_quit_more (c ∷ cs) ds a b = (a.0, no_quit_more cs ds a.1 b)

-- the entry to do a Quit stops the node
quit_stops : (g : Config) (J : List Entry) (e : Entry) → e.input ≡ input.Do ask.Quit → has_stopped (chronicle g J) ≡ false → has_stopped (chronicle g (J ++ e ∷ [])) ≡ true
quit_stops g J e is going =
    let H = chronicle g J in let M = Comes e ∷ H in
    let c : Continues g J (e ∷ []) = continues g J (e ∷ []) in
    let stops : with_entry g e H ≡ stopped g M =
    ap (λ b. after (cond b [] (at_input g e.input H M)) M) going ∙ ap (λ i. after (at_input g i H M) M) is ∙ stop-is g M in
    ap has_stopped (c.happened ∙ stops)

-- so a command that is handed to a node that goes on after it is none Quit
pub no_quit : (g : Config) (J : List Entry) (e : Entry) (command : Option Command) → IsTurn command (turn.Entry e) → has_stopped (chronicle g J) ≡ false → has_stopped (chronicle g (J ++ e ∷ [])) ≡ false → NoQuit (option_to_list command)
no_quit g J e None is going on = tt
no_quit g J e (Some c) is going on = (λ q. true≢false (sym (quit_stops g J e (is ∙ ap input.Do q) going) ∙ on), tt)

-- One entry: put, stepped, done.
use Rattle.std.proofs.Common.{◌≡◌, ℕ, Bool, true, false, List, [], ◌∷◌, ◌++◌, Option, refl, sym, ap, ◌∙◌, subst, append-nil}
use Rattle.std.specs.Io.KnownBytes.{Appends}
use Rattle.std.proofs.lemmas.List.{append_cancel_left}
use Rattle.zre_outside.specs.declared.entry.Entry.{Entry}
use Rattle.zre_outside.specs.Worlds.{Log}
use Rattle.zre_values.specs.declared.settings.Settings.{Settings as Config}
use Rattle.zre_journal.specs.Asked.{AreDue}
use Rattle.zre_journal.specs.Events.{chronicle, acts, acts_after}
use Rattle.zre_journal.specs.Laws.{Continues}
use Rattle.zre_journal.proofs.OffersAreDue.{entry_due}
use Rattle.zre_journal.proofs.JoinedEntries.{continues}
use Rattle.zre_node.specs.declared.node.Node.{Node}
use Rattle.zre_node.specs.declared.effects.Step.{Step}
use Rattle.zre_node.specs.Journal.{IsStep}
use Rattle.zre_capture.specs.Lines.{line}
use Rattle.zre_capture.specs.declared.format.Format.TheVariants.{Second}
use Rattle.zre_actor.specs.declared.ending.Ending.TheVariants as ending
use Rattle.zre_actor.specs.Work.{AreDeeds, beside, DoesAll, Went, IsUndone}
use Rattle.zre_actor.proofs.DeedsOfActs.{beside-append}

module _ (g : Config) (J : List Entry) (e : Entry) (keep : Bool) (before : ℕ) (told told' : Option Log) (kept kept' : Option (List ℕ)) (n : Node) (s : Step) (st : IsStep g J e n s) (k : keep ≡ true → Appends kept kept' (line Second before e)) where
  -- the acts of a step are those of its entry
  its_acts : acts_after g (e ∷ []) (chronicle g J) ≡ s.acts
  its_acts = append_cancel_left (acts g J) (acts_after g (e ∷ []) (chronicle g J)) s.acts (let c : Continues g J (e ∷ []) = continues g J (e ∷ []) in sym c.done ∙ st.done)

  -- and those that offer something find it
  pub its_due : AreDue g (chronicle g (J ++ e ∷ [])) s.acts
  its_due = subst (AreDue g (chronicle g (J ++ e ∷ []))) its_acts (entry_due g J e)

  pub went_on : DoesAll g (J ++ e ∷ []) s.acts true told told' → Went g J e keep before told told' kept kept' n s.events
  went_on d =
      let all : acts_after g (e ∷ []) (chronicle g J) ≡ d.did = its_acts ∙ d.are_acts ∙ ap (λ x. d.did ++ x) (d.all_done refl) ∙ append-nil d.did in
      record {
        stands = st.stands;
        deeds = d.deeds;
        are_deeds = subst (λ x. AreDeeds g (beside (J ++ e ∷ []) x) d.deeds) (sym all) d.are_deeds;
        is_told = d.is_told;
        are_events = st.told;
        is_kept = k;
      }

  pub left_undone : DoesAll g (J ++ e ∷ []) s.acts false told told' → IsUndone g J e keep before told told' kept kept' n ending.OutOfMemory
  left_undone d = record {
    stands = st.stands;
    did = beside (J ++ e ∷ []) d.did;
    undone = beside (J ++ e ∷ []) d.undone;
    deeds = d.deeds;
    are_acts = ap (beside (J ++ e ∷ [])) (its_acts ∙ d.are_acts) ∙ beside-append (J ++ e ∷ []) d.did d.undone;
    are_deeds = d.are_deeds;
    is_told = d.is_told;
    untold = s.events;
    are_events = st.told;
    is_kept = k;
    ends = refl;
  }

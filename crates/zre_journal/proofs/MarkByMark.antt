-- What holds of what a journal tells, does and leaves: from mark to mark, with all that is known where each comes.
use Rattle.std.proofs.Common.{◌≡◌, Bool, true, false, cond, List, [], ◌∷◌, ◌++◌, map, filter, refl, sym, ap, ◌∙◌, subst, append_assoc, append-nil}
use Rattle.zre_outside.specs.declared.act.Act.{Act}
use Rattle.zre_outside.specs.declared.act.Act.TheVariants as act
use Rattle.zre_outside.specs.declared.entry.Entry.{Entry}
use Rattle.zre_peer.specs.declared.causes.Cause.TheVariants as cause
use Rattle.zre_peer.specs.declared.event.Event.{Event}
use Rattle.zre_peer.specs.declared.event.Event.TheVariants as event
use Rattle.zre_values.specs.declared.settings.Settings.{Settings as Config}
use Rattle.zre_journal.specs.Chronicle.{Mark, Comes, ClosesAtStop, SendsBeacon, Stops, after}
use Rattle.zre_journal.specs.Commands.{at_stop}
use Rattle.zre_journal.specs.Connections.{open_ones}
use Rattle.zre_journal.specs.Done.{done, done_at, offers, is_offered, acts_at}
use Rattle.zre_journal.specs.Endings.{is_end}
use Rattle.zre_journal.specs.Events.{events_at, events_after, acts_after, events, acts, chronicle}
use Rattle.zre_journal.specs.Happens.{has_stopped, at_input, with_entry, chronicle_after}
use Rattle.zre_journal.specs.Peers.{Life, lives}
use Rattle.zre_journal.specs.Proper.{IsProper}
use Rattle.zre_journal.specs.Told.{told, told_at}
use Rattle.zre_journal.proofs.ProperChronicles.{empty}
use Rattle.zre_journal.proofs.JoinedEntries.{after-append, told-append, done-append}
use Rattle.zre_journal.proofs.KnownPeers.{end_all}
use Rattle.zre_journal.proofs.SoundMarks.{Sound, AreSound, AreOthers, others_more, others_after}
use Rattle.zre_journal.proofs.WhenMarksCome.{May, Allowed, step, steps, Each}
use Rattle.zre_journal.proofs.NothingAfterStop.{at_end, none_known, none_open}
use Rattle.zre_journal.proofs.SaidOnConnections.{input_allowed, input_sound}
use Rattle.zre_journal.proofs.ProperPeers.{Comes-proper}
use Rattle.zre_journal.proofs.EachMarkOfEntries.{Brought, silence, allowed, sound}
use Rattle.zre_journal.proofs.MarksOfEntries.{stop_brought}

-- the marks of a stop, but for the stop itself
abbrev until_stop : List Mark → List Mark
until_stop K = (end_all cause.Stop (lives K) ++ map (λ c. ClosesAtStop c) (open_ones K)) ++ SendsBeacon 0 ∷ []

module _ (g : Config) where
  -- a sound mark is no stop
  pub on : (h : Mark) (H : List Mark) → Sound g h H → has_stopped H ≡ false → has_stopped (h ∷ H) ≡ false
  on (Comes e) H s n = absurd s
  on Stops H s n = absurd s
  on _ H s n = n

  before_stop : (M : List Mark) → after (until_stop M) M ≡ SendsBeacon 0 ∷ after (map (λ c. ClosesAtStop c) (open_ones M)) (after (end_all cause.Stop (lives M)) M)
  before_stop M =
      after-append (end_all cause.Stop (lives M) ++ map (λ c. ClosesAtStop c) (open_ones M)) (SendsBeacon 0 ∷ []) M
      ∙ ap (after (SendsBeacon 0 ∷ [])) (after-append (end_all cause.Stop (lives M)) (map (λ c. ClosesAtStop c) (open_ones M)) M)

  last_stop : (M : List Mark) → at_stop g M ≡ until_stop M ++ Stops ∷ []
  last_stop M = sym (append_assoc (end_all cause.Stop (lives M) ++ map (λ c. ClosesAtStop c) (open_ones M)) (SendsBeacon 0 ∷ []) (Stops ∷ []))

  module _ (P : List Entry → List Event → List Act → List Mark → Type 0)
      (entry : (js : List Entry) (es : List Event) (done_ : List Act) (e : Entry) (H : List Mark) → P js es done_ H → P (js ++ e ∷ []) es done_ (Comes e ∷ H))
      (keeps : (js : List Entry) (es : List Event) (done_ : List Act) (h : Mark) (H : List Mark) → has_stopped H ≡ false → IsProper H → May h H → Sound g h H → P js es done_ H → P js (es ++ told_at h H) (done_ ++ done_at g.id h) (h ∷ H))
      (stop : (js : List Entry) (es : List Event) (done_ : List Act) (H : List Mark) → lives H ≡ [] → open_ones H ≡ [] → P js es done_ H → P js (es ++ event.Stop ∷ []) done_ (Stops ∷ H))
      (offer : (js : List Entry) (es : List Event) (done_ : List Act) (H : List Mark) (vs : List Life) → P js es done_ H → P js es (done_ ++ map (λ (v : Life). act.Offer v.link) vs) H) where
    record Good (js : List Entry) (es : List Event) (done_ : List Act) (H : List Mark) : Type 0 where
      proper : IsProper H
      others : AreOthers g H
      holds : P js es done_ H

    cast : (js : List Entry) (es fs : List Event) (done_ done' : List Act) (H : List Mark) → es ≡ fs → done_ ≡ done' → P js es done_ H → P js fs done' H
    cast js es fs done_ done' H e f p = subst (λ x. P js x done' H) e (subst (λ y. P js es y H) f p)

    by_marks : (hs H : List Mark) (js : List Entry) (es : List Event) (done_ : List Act) → has_stopped H ≡ false → IsProper H → Allowed hs H → AreSound g hs H → P js es done_ H → P js (es ++ told hs H) (done_ ++ done g.id hs) (after hs H)
    by_marks [] H js es done_ n q a s p = cast js es (es ++ []) done_ (done_ ++ []) H (sym (append-nil es)) (sym (append-nil done_)) p
    by_marks (h ∷ hs) H js es done_ n q a s p =
        cast js ((es ++ told_at h H) ++ told hs (h ∷ H)) (es ++ (told_at h H ++ told hs (h ∷ H))) ((done_ ++ done_at g.id h) ++ done g.id hs) (done_ ++ (done_at g.id h ++ done g.id hs)) (after hs (h ∷ H))
        (append_assoc es (told_at h H) (told hs (h ∷ H))) (append_assoc done_ (done_at g.id h) (done g.id hs))
        (by_marks hs (h ∷ H) js (es ++ told_at h H) (done_ ++ done_at g.id h) (on h H s.0 n) (step h H q a.0) a.1 s.1 (keeps js es done_ h H n q a.0 s.0 p))

    module _ (e : Entry) (H : List Mark) (js : List Entry) (es : List Event) (done_ : List Act) (o : Good js es done_ H) where
      abbrev ks : List Entry
      ks = js ++ e ∷ []

      abbrev M : List Mark
      M = Comes e ∷ H

      come : IsProper M
      come = Comes-proper H o.proper e

      -- what is so after these marks of the entry
      abbrev Then : List Mark → Type 0
      Then hs = Good ks (es ++ told hs M) (done_ ++ (done g.id hs ++ offers g e hs (after hs M))) (after hs M)

      offered : (hs : List Mark) → IsProper (after hs M) → AreOthers g (after hs M) → P ks (es ++ told hs M) (done_ ++ done g.id hs) (after hs M) → Then hs
      offered hs q r p = record {
        proper = q;
        others = r;
        holds = cast ks (es ++ told hs M) (es ++ told hs M) ((done_ ++ done g.id hs) ++ offers g e hs (after hs M)) (done_ ++ (done g.id hs ++ offers g e hs (after hs M))) (after hs M) refl
            (append_assoc done_ (done g.id hs) (offers g e hs (after hs M)))
            (offer ks (es ++ told hs M) (done_ ++ done g.id hs) (after hs M) (vs hs) p);
      }
        where
          vs : List Mark → List Life
          vs gs = filter (is_offered g e gs (after gs M)) (lives (after gs M))

      module _ (going : has_stopped H ≡ false) where
        then_on : is_end e.input ≡ false → Then (at_input g e.input H M)
        then_on z =
            let hs = at_input g e.input H M in
            let a = input_allowed g e.input H M come in
            let s = input_sound g e.input H M come z o.others in
            offered hs (steps hs M come a) (others_after g hs M s o.others) (by_marks hs M ks es done_ going come a s (entry js es done_ e H o.holds))

        then_stop : is_end e.input ≡ true → Then (at_input g e.input H M)
        then_stop z = subst Then (sym (at_end g e.input H M z ∙ last_stop M)) (offered (us ++ Stops ∷ []) (subst IsProper (sym whole) proper) (subst (AreOthers g) (sym whole) others)
            (subst (λ X. P ks (es ++ told (us ++ Stops ∷ []) M) (done_ ++ done g.id (us ++ Stops ∷ [])) X) (sym whole)
            (cast ks ((es ++ told us M) ++ event.Stop ∷ []) (es ++ told (us ++ Stops ∷ []) M) (done_ ++ done g.id us) (done_ ++ done g.id (us ++ Stops ∷ [])) (Stops ∷ after us M)
            (append_assoc es (told us M) (event.Stop ∷ []) ∙ ap (λ x. es ++ x) (sym (told-append us (Stops ∷ []) M)))
            (ap (λ x. done_ ++ x) (sym (done-append g.id us (Stops ∷ []) ∙ append-nil (done g.id us))))
            (stop ks (es ++ told us M) (done_ ++ done g.id us) (after us M) (ap lives (before_stop M) ∙ none_known g M) (ap open_ones (before_stop M) ∙ none_open g M)
            (by_marks us M ks es done_ going come may all_sound (entry js es done_ e H o.holds))))))
          where
            us : List Mark
            us = until_stop M

            whole : after (us ++ Stops ∷ []) M ≡ Stops ∷ after us M
            whole = after-append us (Stops ∷ []) M

            each : Each (Brought g silence true) us M
            each = stop_brought g silence true M come (SendsBeacon 0 ∷ []) (λ L. ((tt, tt), tt))

            may : Allowed us M
            may = allowed g silence true us M each

            all_sound : AreSound g us M
            all_sound = sound g silence true refl us M o.others each

            proper : IsProper (Stops ∷ after us M)
            proper = step Stops (after us M) (steps us M come may) tt

            others : AreOthers g (Stops ∷ after us M)
            others = others_after g us M all_sound o.others

      next : Good ks (es ++ events_at g e H) (done_ ++ acts_at g e H) (with_entry g e H)
      next = by (has_stopped H) refl
        where
          by : (b : Bool) → has_stopped H ≡ b → let hs = cond b [] (at_input g e.input H M) in Good ks (es ++ told hs M) (done_ ++ cond b [] (done g.id hs ++ offers g e hs (after hs M))) (after hs M)
          by true s = record { proper = come; others = o.others; holds = cast ks es (es ++ []) done_ (done_ ++ []) M (sym (append-nil es)) (sym (append-nil done_)) (entry js es done_ e H o.holds) }
          by false s = ended (is_end e.input) refl
            where
              ended : (t : Bool) → is_end e.input ≡ t → Then (at_input g e.input H M)
              ended true z = then_stop s z
              ended false z = then_on s z

    later : (ks : List Entry) (H : List Mark) (js : List Entry) (es : List Event) (done_ : List Act) → Good js es done_ H → Good (js ++ ks) (es ++ events_after g ks H) (done_ ++ acts_after g ks H) (chronicle_after g ks H)
    later [] H js es done_ o = record {
      proper = o.proper;
      others = o.others;
      holds = subst (λ xs. P xs (es ++ []) (done_ ++ []) H) (sym (append-nil js)) (cast js es (es ++ []) done_ (done_ ++ []) H (sym (append-nil es)) (sym (append-nil done_)) o.holds);
    }
    later (e ∷ ks) H js es done_ o =
        let H' = with_entry g e H in
        let r = later ks H' (js ++ e ∷ []) (es ++ events_at g e H) (done_ ++ acts_at g e H) (next e H js es done_ o) in
        record {
          proper = r.proper;
          others = r.others;
          holds = subst (λ xs. P xs (es ++ (events_at g e H ++ events_after g ks H')) (done_ ++ (acts_at g e H ++ acts_after g ks H')) (chronicle_after g ks H')) (append_assoc js (e ∷ []) ks)
              (cast ((js ++ e ∷ []) ++ ks) ((es ++ events_at g e H) ++ events_after g ks H') (es ++ (events_at g e H ++ events_after g ks H')) ((done_ ++ acts_at g e H) ++ acts_after g ks H') (done_ ++ (acts_at g e H ++ acts_after g ks H')) (chronicle_after g ks H')
              (append_assoc es (events_at g e H) (events_after g ks H')) (append_assoc done_ (acts_at g e H) (acts_after g ks H')) r.holds);
        }

    pub told_and_done : P [] [] [] [] → (journal : List Entry) → P journal (events g journal) (acts g journal) (chronicle g journal)
    told_and_done p journal = (later journal [] [] [] [] (record { proper = empty; others = λ c i e. cc; holds = p })).holds

  -- the same of the chronicle alone
  pub always_sound : (P : List Mark → Type 0) → ((e : Entry) (H : List Mark) → P H → P (Comes e ∷ H)) → ((h : Mark) (H : List Mark) → IsProper H → May h H → Sound g h H → P H → P (h ∷ H))
      → ((H : List Mark) → lives H ≡ [] → open_ones H ≡ [] → P H → P (Stops ∷ H)) → P [] → (journal : List Entry) → P (chronicle g journal)
  always_sound P entry keeps stop p journal =
      told_and_done (λ js es done_ H. P H) (λ js es done_ e H x. entry e H x) (λ js es done_ h H n q m s x. keeps h H q m s x) (λ js es done_ H k o x. stop H k o x) (λ js es done_ H vs x. x) p journal

  -- none that has come on a connection is the node itself
  pub are_others : (journal : List Entry) → AreOthers g (chronicle g journal)
  are_others journal = always_sound (AreOthers g) (λ e H x. x) (λ h H q m s x. others_more g h H s x) (λ H k o x. x) (λ c i e. cc) journal

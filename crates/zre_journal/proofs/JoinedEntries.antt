-- Entries after entries.
use Rattle.std.proofs.Common.{◌≡◌, true, cond, List, [], ◌∷◌, ◌++◌, refl, sym, ap, ◌∙◌, subst, append_assoc, append-nil}
use Rattle.zre_outside.specs.declared.entry.Entry.{Entry}
use Rattle.zre_outside.specs.declared.act.Act.{Act}
use Rattle.zre_peer.specs.declared.event.Event.{Event}
use Rattle.zre_values.specs.declared.settings.Settings.{Settings as Config}
use Rattle.zre_values.specs.declared.peer_id.PeerId.{PeerId}
use Rattle.zre_journal.specs.Chronicle.{Mark, Comes, after, in_turn}
use Rattle.zre_journal.specs.Done.{acts_at, done, done_at, offers}
use Rattle.zre_journal.specs.Events.{events_at, events_after, acts_after, chronicle}
use Rattle.zre_journal.specs.Happens.{at_input, marks, with_entry, chronicle_after, has_stopped}
use Rattle.zre_journal.specs.Laws.{Continues, HasEnded}
use Rattle.zre_journal.specs.Told.{told, told_at}

chronicle-append : (g : Config) (J K : List Entry) (H : List Mark) → chronicle_after g (J ++ K) H ≡ chronicle_after g K (chronicle_after g J H)
chronicle-append g [] K H = refl
chronicle-append g (e ∷ J) K H = chronicle-append g J K (with_entry g e H)

events-append : (g : Config) (J K : List Entry) (H : List Mark) → events_after g (J ++ K) H ≡ events_after g J H ++ events_after g K (chronicle_after g J H)
events-append g [] K H = refl
events-append g (e ∷ J) K H =
    ap (λ (r : List Event). events_at g e H ++ r) (events-append g J K (with_entry g e H))
    ∙ sym (append_assoc (events_at g e H) (events_after g J (with_entry g e H)) (events_after g K (chronicle_after g J (with_entry g e H))))

acts-append : (g : Config) (J K : List Entry) (H : List Mark) → acts_after g (J ++ K) H ≡ acts_after g J H ++ acts_after g K (chronicle_after g J H)
acts-append g [] K H = refl
acts-append g (e ∷ J) K H =
    ap (λ (r : List Act). acts_at g e H ++ r) (acts-append g J K (with_entry g e H))
    ∙ sym (append_assoc (acts_at g e H) (acts_after g J (with_entry g e H)) (acts_after g K (chronicle_after g J (with_entry g e H))))

pub continues : (g : Config) (J K : List Entry) → Continues g J K
continues g J K = record { happened = chronicle-append g J K []; told = events-append g J K []; done = acts-append g J K [] }

-- what holds at first, and is kept by each entry, holds of each journal
pub each_entry : (g : Config) (P : List Mark → Type 0) → ((J : List Entry) (e : Entry) → P (chronicle g J) → P (with_entry g e (chronicle g J))) → P [] → (journal : List Entry) → P (chronicle g journal)
each_entry g P keeps first journal = later journal [] first
  where
    later : (es J : List Entry) → P (chronicle g J) → P (chronicle_after g es (chronicle g J))
    later [] J o = o
    later (e ∷ es) J o =
        let c : chronicle g (J ++ e ∷ []) ≡ with_entry g e (chronicle g J) = (continues g J (e ∷ [])).happened in
        subst (λ X. P (chronicle_after g es X)) c (later es (J ++ e ∷ []) (subst P (sym c) (keeps J e o)))

-- ---- after a stop

no_marks : (g : Config) (e : Entry) (H : List Mark) → has_stopped H ≡ true → marks g e H ≡ []
no_marks g e H s = ap (λ b. cond b [] (at_input g e.input H (Comes e ∷ H))) s

only_entry : (g : Config) (e : Entry) (H : List Mark) → has_stopped H ≡ true → with_entry g e H ≡ Comes e ∷ H
only_entry g e H s = ap (λ hs. after hs (Comes e ∷ H)) (no_marks g e H s)

still : (g : Config) (e : Entry) (H : List Mark) → has_stopped H ≡ true → has_stopped (with_entry g e H) ≡ true
still g e H s = ap has_stopped (only_entry g e H s) ∙ s

pub stays_stopped : (g : Config) (K : List Entry) (H : List Mark) → has_stopped H ≡ true → has_stopped (chronicle_after g K H) ≡ true
stays_stopped g [] H s = s
stays_stopped g (e ∷ K) H s = stays_stopped g K (with_entry g e H) (still g e H s)

no_events : (g : Config) (K : List Entry) (H : List Mark) → has_stopped H ≡ true → events_after g K H ≡ []
no_events g [] H s = refl
no_events g (e ∷ K) H s =
    ap (λ hs. told hs (Comes e ∷ H) ++ events_after g K (with_entry g e H)) (no_marks g e H s) ∙ no_events g K (with_entry g e H) (still g e H s)

no_acts : (g : Config) (K : List Entry) (H : List Mark) → has_stopped H ≡ true → acts_after g K H ≡ []
no_acts g [] H s = refl
no_acts g (e ∷ K) H s =
    ap (λ b. cond b [] (done g.id (marks g e H) ++ offers g e (marks g e H) (with_entry g e H)) ++ acts_after g K (with_entry g e H)) s
    ∙ no_acts g K (with_entry g e H) (still g e H s)

pub ends : (g : Config) (J K : List Entry) → has_stopped (chronicle g J) ≡ true → HasEnded g J K
ends g J K s =
    let c = continues g J K in
    record {
      stopped = ap has_stopped c.happened ∙ stays_stopped g K (chronicle g J) s;
      told = c.told ∙ ap (λ (r : List Event). events_after g J [] ++ r) (no_events g K (chronicle g J) s) ∙ append-nil (events_after g J []);
      done = c.done ∙ ap (λ (r : List Act). acts_after g J [] ++ r) (no_acts g K (chronicle g J) s) ∙ append-nil (acts_after g J []);
    }

-- ---- marks after marks

pub after-append : (hs ks H : List Mark) → after (hs ++ ks) H ≡ after ks (after hs H)
after-append [] ks H = refl
after-append (h ∷ hs) ks H = after-append hs ks (h ∷ H)

pub told-append : (hs ks H : List Mark) → told (hs ++ ks) H ≡ told hs H ++ told ks (after hs H)
told-append [] ks H = refl
told-append (h ∷ hs) ks H = ap (λ es. told_at h H ++ es) (told-append hs ks (h ∷ H)) ∙ sym (append_assoc (told_at h H) (told hs (h ∷ H)) (told ks (after hs (h ∷ H))))

pub done-append : (own : PeerId) (hs ks : List Mark) → done own (hs ++ ks) ≡ done own hs ++ done own ks
done-append own [] ks = refl
done-append own (h ∷ hs) ks = ap (λ as_. done_at own h ++ as_) (done-append own hs ks) ∙ sym (append_assoc (done_at own h) (done own hs) (done own ks))

pub in_turn-append : {A : Type 0} (f : A → List Mark → List Mark) (xs ys : List A) (K : List Mark) → in_turn f (xs ++ ys) K ≡ in_turn f xs K ++ in_turn f ys (after (in_turn f xs K) K)
in_turn-append f [] ys K = refl
in_turn-append f (x ∷ xs) ys K =
    ap (λ hs. f x K ++ hs) (in_turn-append f xs ys (after (f x K) K))
    ∙ sym (append_assoc (f x K) (in_turn f xs (after (f x K) K)) (in_turn f ys (after (in_turn f xs (after (f x K) K)) (after (f x K) K))))
    ∙ ap (λ J. (f x K ++ in_turn f xs (after (f x K) K)) ++ in_turn f ys J) (sym (after-append (f x K) (in_turn f xs (after (f x K) K)) K))

-- What is offered may go out.
use Rattle.std.proofs.Common.{◌≡◌, ℕ, ◌<◌, Bool, true, false, cond, ◌||◌, ltb, List, [], ◌∷◌, ◌++◌, map, filter, refl, sym, subst, ltb-true, append-nil}
use Rattle.std.proofs.lemmas.Bool.{and_parts}
use Rattle.std.specs.List.{list_any}
use Rattle.zre_values.specs.declared.peer_id.PeerId.{PeerId}
use Rattle.zre_outside.specs.declared.act.Act.{Act}
use Rattle.zre_outside.specs.declared.act.Act.TheVariants as act
use Rattle.zre_outside.specs.declared.entry.Entry.{Entry}
use Rattle.zre_peer.specs.declared.causes.Cause.{Cause}
use Rattle.zre_peer.specs.declared.causes.Cause.TheVariants as cause
use Rattle.zre_values.specs.declared.settings.Settings.{Settings as Config}
use Rattle.zre_journal.specs.Asked.{AreDue}
use Rattle.zre_journal.specs.Chronicle.{Mark, Comes, Opens, TurnsAway, Greets, Identifies, AnswersPing, Starts, Counts, Ignores, Closes, IsShut, ClosesAtStop, Born, HearsBeacon, Ends, IsEvasive, Puts, PutsPong, Links, Sends, Joins, Leaves, Refuses, SendsBeacon, Stops}
use Rattle.zre_journal.specs.Done.{close_link, done_at, done, puts, names, is_offered, offers, acts_at}
use Rattle.zre_journal.specs.Events.{chronicle, acts_after}
use Rattle.zre_journal.specs.Happens.{has_stopped, marks, with_entry}
use Rattle.zre_journal.specs.Links.{gate, taken}
use Rattle.zre_journal.specs.Peers.{Life, lives}
use Rattle.zre_journal.proofs.JoinedEntries.{continues}
use Rattle.zre_journal.proofs.KnownPeers.{AreKnown, each_known}

module _ (g : Config) (H : List Mark) where
  all_both : (xs ys : List Act) → AreDue g H xs → AreDue g H ys → AreDue g H (xs ++ ys)
  all_both [] ys a b = b
  all_both (x ∷ xs) ys a b = (a.0, all_both xs ys a.1 b)

  -- no mark offers anything
  none_closing : (l : ℕ) (why : Cause) → AreDue g H (close_link l why)
  none_closing l cause.Beacon = (tt, tt)
  none_closing l cause.Expired = (tt, tt)
  none_closing l cause.Link = tt
  none_closing l (cause.Reply f) = (tt, tt)
  none_closing l (cause.Slow u s) = (tt, tt)
  none_closing l cause.Shut = (tt, tt)
  none_closing l cause.Fault = (tt, tt)
  none_closing l cause.Taken = (tt, tt)
  none_closing l cause.Hello = (tt, tt)
  none_closing l (cause.Order d o) = (tt, tt)
  none_closing l cause.Limit = (tt, tt)
  none_closing l cause.Stop = (tt, tt)

  none_at : (own : PeerId) (h : Mark) → AreDue g H (done_at own h)
  none_at own (Comes e) = tt
  none_at own (Opens c) = (tt, tt)
  none_at own (TurnsAway c) = (tt, tt)
  none_at own (Greets c) = (tt, tt)
  none_at own (Identifies c p) = tt
  none_at own (AnswersPing c t) = (tt, tt)
  none_at own (Starts c l m) = tt
  none_at own (Counts c l m) = tt
  none_at own (Ignores c why) = tt
  none_at own (Closes c why) = (tt, tt)
  none_at own (IsShut c) = tt
  none_at own (ClosesAtStop c) = (tt, tt)
  none_at own (Born l p to) = (tt, tt)
  none_at own (HearsBeacon l) = tt
  none_at own (Ends l why) = none_closing l why
  none_at own (IsEvasive l) = tt
  none_at own (Puts l b) = tt
  none_at own (PutsPong l t) = tt
  none_at own (Links l) = tt
  none_at own (Sends l n) = tt
  none_at own (Joins group) = tt
  none_at own (Leaves group) = tt
  none_at own (Refuses why) = tt
  none_at own (SendsBeacon port) = (tt, tt)
  none_at own Stops = tt

  none_done : (own : PeerId) (hs : List Mark) → AreDue g H (done own hs)
  none_done own [] = tt
  none_done own (h ∷ hs) = all_both (done_at own h) (done own hs) (none_at own h) (none_done own hs)

  -- the known peers that pass the test
  passing_due : (t : Life → Bool) → ((v : Life) → t v ≡ true → taken v.link H < gate g v.link H) → (vs : List Life) → AreKnown H vs → AreDue g H (map (λ (v : Life). act.Offer v.link) (filter t vs))
  passing_due t f [] k = tt
  passing_due t f (v ∷ vs) k = by (passing_due t f vs k.1) (t v) refl
    where
      by : AreDue g H (map (λ (u : Life). act.Offer u.link) (filter t vs)) → (b : Bool) → t v ≡ b → AreDue g H (map (λ (u : Life). act.Offer u.link) (cond b (v ∷ filter t vs) (filter t vs)))
      by r true e = (record { known = k.0; some = f v e }, r)
      by r false e = r

  offers_due : (e : Entry) (hs : List Mark) → AreDue g H (offers g e hs H)
  offers_due e hs = passing_due (is_offered g e hs H)
      (λ v z. ltb-true (taken v.link H) (gate g v.link H) (and_parts (list_any (puts v.link) hs || names v.link e.input) (ltb (taken v.link H) (gate g v.link H)) z).1)
      (lives H) (each_known H)

acts_due : (g : Config) (e : Entry) (H : List Mark) → AreDue g (with_entry g e H) (acts_at g e H)
acts_due g e H = by (has_stopped H)
  where
    by : (b : Bool) → AreDue g (with_entry g e H) (cond b [] (done g.id (marks g e H) ++ offers g e (marks g e H) (with_entry g e H)))
    by true = tt
    by false = all_both g (with_entry g e H) (done g.id (marks g e H)) (offers g e (marks g e H) (with_entry g e H)) (none_done g (with_entry g e H) g.id (marks g e H)) (offers_due g (with_entry g e H) e (marks g e H))

pub entry_due : (g : Config) (J : List Entry) (e : Entry) → AreDue g (chronicle g (J ++ e ∷ [])) (acts_after g (e ∷ []) (chronicle g J))
entry_due g J e =
    let now : chronicle g (J ++ e ∷ []) ≡ with_entry g e (chronicle g J) = (continues g J (e ∷ [])).happened in
    subst (λ K. AreDue g K (acts_after g (e ∷ []) (chronicle g J))) (sym now)
    (subst (λ acts. AreDue g (with_entry g e (chronicle g J)) acts) (sym (append-nil (acts_at g e (chronicle g J)))) (acts_due g e (chronicle g J)))

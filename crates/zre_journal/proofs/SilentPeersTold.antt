-- Who is silent is told so at ticks, and nobody else.
use Rattle.std.proofs.Common.{◌≡◌, ℕ, ◌+◌, ◌-◌, ◌<◌, ◌≤◌, Bool, true, false, true≢false, cond, not, ◌&&◌, ◌||◌, eqb, ltb, leb, leb-false, length, List, [], ◌∷◌, ◌++◌, map, Option, Some, None, IsSome, filter, find, refl, sym, ap, ◌∙◌, subst, arith, eq-eqb, eqb-true, leb-true, append_assoc}
use Rattle.std.proofs.lemmas.List.Folds.{list_any-append}
use Rattle.std.specs.List.{AllByRecursion, list_any, cons_option}
use Rattle.std.specs.Str.{bytes_eq}
use Rattle.zre_values.specs.declared.limits.TheConstants.{UNSENT_OCTETS, CONNECTIONS}
use Rattle.zre_values.specs.declared.peer_id.PeerId.{PeerId}
use Rattle.std.proofs.Math.Bool.{and-false}
use Rattle.zre_msg.specs.declared.message.Body.{Body}
use Rattle.zre_msg.specs.declared.message.Body.TheVariants as body
use Rattle.zre_link.specs.Text.{size_of}
use Rattle.zre_outside.specs.declared.entry.Entry.{Entry}
use Rattle.zre_outside.specs.declared.entry.Input.{Input}
use Rattle.zre_outside.specs.declared.entry.Input.TheVariants as input
use Rattle.zre_peer.specs.declared.causes.Cause.{Cause}
use Rattle.zre_peer.specs.declared.causes.Cause.TheVariants as cause
use Rattle.zre_peer.specs.declared.causes.CloseWhy.TheVariants as close
use Rattle.zre_peer.specs.declared.event.Event.TheVariants as event
use Rattle.zre_values.specs.declared.settings.Settings.{Settings as Config}
use Rattle.zre_journal.specs.Arrivals.{end_of_run}
use Rattle.zre_journal.specs.Causes.{where_so, slow_by, cause_at, end_of, ends_in}
use Rattle.zre_journal.specs.Chronicle.{Mark, Comes, Starts, Counts, Closes, IsShut, Ends, IsEvasive, Puts, SendsBeacon, after}
use Rattle.zre_journal.specs.Connections.{open_ones, is_open, is_new, runs, has_ended}
use Rattle.zre_journal.specs.Events.{chronicle, events, events_at, events_after}
use Rattle.zre_journal.specs.Happens.{has_stopped, at_input, with_entry}
use Rattle.zre_journal.specs.Heard.{clock}
use Rattle.zre_journal.specs.LinkEntries.{at_unlinked}
use Rattle.zre_journal.specs.Links.{line, unsent}
use Rattle.zre_journal.specs.Peers.{Life, lives, life, life_of, is_entered, view, active}
use Rattle.zre_journal.specs.Places.{is_piece}
use Rattle.zre_journal.specs.Proper.{IsProper, Apart}
use Rattle.zre_journal.specs.Pushes.{push}
use Rattle.zre_journal.specs.Silence.{IsTold, tells_evasive, tells_expired, IsTickOf, silent_for}
use Rattle.zre_journal.specs.Ticks.{is_silent, is_evasive, is_stale, probe, at_tick}
use Rattle.zre_journal.specs.Told.{told, told_at, exit, becoming_evasive}
use Rattle.zre_journal.proofs.PeersEndByCauses.{ends_by_table}
use Rattle.zre_journal.proofs.WithinCounts.{AreNamed, named}
use Rattle.zre_journal.proofs.JoinedEntries.{continues}
use Rattle.zre_journal.proofs.KnownPeers.{known_of, same_id, id_of}
use Rattle.zre_journal.proofs.LawsOfChronicles.{ends_once}
use Rattle.zre_journal.proofs.NumberedLists.{eqb-comm, All-join, All-kept, All-map, found, All-both}
use Rattle.zre_journal.proofs.WhichMarks.{Mild, is_tick, Kind, kind, mild_input}
use Rattle.zre_journal.proofs.BroughtInTurn.{dropped}
use Rattle.zre_journal.proofs.WhenMarksCome.{choice, all_push}
use Rattle.zre_journal.proofs.MarksOfTicks.{Ticks, AreTicks, E, F, C, all_tick, ended_there, told_there}
use Rattle.zre_journal.proofs.ProperChronicles.{comes_proper}
use Rattle.zre_journal.proofs.UntoldEvents.{IsOfMessage, none_of_marks, none_of_message}
use Rattle.zre_peer.specs.declared.event.Event.{Event}

-- ---- who isn't

-- whom p is among the known ones
abbrev pub Only : PeerId → (ℕ → Type 0) → List Mark → Type 0
Only p P X = AllByRecursion (λ (w : Life). bytes_eq p.0 w.id.0 ≡ true → P w.link) (lives X)

only_mark : (p : PeerId) (P : ℕ → Type 0) (h : Mark) (X : List Mark) → Ticks h → Only p P X → Only p P (h ∷ X)
only_mark p P (Ends k w) X a o = All-kept (λ (u : Life). bytes_eq p.0 u.id.0 ≡ true → P u.link) (λ (u : Life). not (eqb k u.link)) (lives X) o
only_mark p P (Closes c w) X a o = o
only_mark p P (IsEvasive k) X a o = o
only_mark p P (Puts k b) X a o = o
only_mark p P (SendsBeacon port) X a o = o
only_mark p P _ X a o = absurd a

pub only_any : (p : PeerId) (X : List Mark) → Only p (λ k. Unit {0}) X
only_any p X = all (lives X)
  where
    all : (us : List Life) → AllByRecursion (λ (w : Life). bytes_eq p.0 w.id.0 ≡ true → Unit {0}) us
    all [] = tt
    all (u ∷ us) = (λ z. tt, all us)

-- the peer of this link isn't p, where p has no such link
other_there : (p : PeerId) (P : ℕ → Type 0) (k : ℕ) (X : List Mark) (w : Life) → Only p P X → (P k → ⊥) → life k X ≡ Some w → bytes_eq p.0 w.id.0 ≡ false
other_there p P k X w o n e = by (bytes_eq p.0 w.id.0) refl
  where
    f : (bytes_eq p.0 w.id.0 ≡ true → P w.link) × (eqb k w.link ≡ true)
    f = found (λ (u : Life). bytes_eq p.0 u.id.0 ≡ true → P u.link) (λ (u : Life). eqb k u.link) (lives X) w o e

    by : (b : Bool) → bytes_eq p.0 w.id.0 ≡ b → b ≡ false
    by false z = refl
    by true z = absurd (n (subst P (sym (eqb-true k w.link f.1)) (f.0 z)))

-- what a message tells is neither
no_evasive : (p : PeerId) (e : Event) → IsOfMessage e → tells_evasive p e ≡ false
no_evasive p (event.Evasive id name) m = absurd m
no_evasive p _ m = refl

no_expired : (p : PeerId) (e : Event) → IsOfMessage e → tells_expired p e ≡ false
no_expired p (event.Exit id name why) m = absurd m
no_expired p _ m = refl

module _ (p : PeerId) (P : ℕ → Type 0) where
  -- no peer with such a link turns evasive, or expires
  abbrev pub Firm : Mark → Type 0
  Firm (IsEvasive k) = P k → ⊥
  Firm _ = Unit {0}

  abbrev pub Lasts : Mark → Type 0
  Lasts (Ends k cause.Expired) = P k → ⊥
  Lasts _ = Unit {0}

  pub firm_mark : (h : Mark) (X : List Mark) → Firm h → Only p P X → list_any (tells_evasive p) (told_at h X) ≡ false
  firm_mark (Ends k w) X f o = by (life k X)
    where
      at : (u : Life) (b : Bool) → list_any (tells_evasive p) (cond b (event.Exit u.id (view u.link X).name w ∷ []) []) ≡ false
      at u true = refl
      at u false = refl

      by : (u : Option Life) → list_any (tells_evasive p) (exit u w X) ≡ false
      by None = refl
      by (Some u) = at u (is_entered X u)
  firm_mark (IsEvasive k) X f o = by (life k X) refl
    where
      by : (u : Option Life) → life k X ≡ u → list_any (tells_evasive p) (becoming_evasive u X) ≡ false
      by None e = refl
      by (Some u) e = let far = other_there p P k X u o f e in rw far refl
  firm_mark (Starts c k m) X f o = none_of_message (tells_evasive p) (no_evasive p) (life k X) m X
  firm_mark (Counts c k m) X f o = none_of_message (tells_evasive p) (no_evasive p) (life k X) m X
  firm_mark _ X f o = refl

  pub lasting_mark : (h : Mark) (X : List Mark) → Lasts h → Only p P X → list_any (tells_expired p) (told_at h X) ≡ false
  lasting_mark (Ends k w) X f o = by (life k X) refl
    where
      at : (u : Life) → life k X ≡ Some u → (c : Cause) → Lasts (Ends k c) → list_any (tells_expired p) (event.Exit u.id (view u.link X).name c ∷ []) ≡ false
      at u e cause.Expired z = let far = other_there p P k X u o z e in rw far refl
      at u e _ z = refl

      by : (u : Option Life) → life k X ≡ u → list_any (tells_expired p) (exit u w X) ≡ false
      by None e = refl
      by (Some u) e = choice_of (is_entered X u)
        where
          choice_of : (b : Bool) → list_any (tells_expired p) (cond b (event.Exit u.id (view u.link X).name w ∷ []) []) ≡ false
          choice_of true = at u e w f
          choice_of false = refl
  lasting_mark (IsEvasive k) X f o = by (life k X)
    where
      by : (u : Option Life) → list_any (tells_expired p) (becoming_evasive u X) ≡ false
      by None = refl
      by (Some u) = refl
  lasting_mark (Starts c k m) X f o = none_of_message (tells_expired p) (no_expired p) (life k X) m X
  lasting_mark (Counts c k m) X f o = none_of_message (tells_expired p) (no_expired p) (life k X) m X
  lasting_mark _ X f o = refl

  -- so the marks of a tick tell none
  none_at_tick : (t : Event → Bool) (Q : Mark → Type 0) → ((h : Mark) (X : List Mark) → Q h → Only p P X → list_any t (told_at h X) ≡ false)
      → (hs X : List Mark) → AreTicks hs → AllByRecursion Q hs → Only p P X → list_any t (told hs X) ≡ false
  none_at_tick t Q one hs X a f o = none_of_marks t (λ h. Ticks h × Q h) (Only p P) (λ h Y b z. one h Y b.1 z) (λ h Y b z. only_mark p P h Y b.0 z) hs X (All-both Ticks Q hs a f) o

-- ---- whom p is

found_itself : (vs : List Life) → Apart (λ (v : Life). v.link) vs → AllByRecursion (λ (w : Life). find (λ (u : Life). eqb w.link u.link) vs ≡ Some w) vs
found_itself [] a = tt
found_itself (v ∷ vs) a = (let me : eqb v.link v.link ≡ true = eq-eqb v.link v.link refl in rw me refl, all vs a.0 (found_itself vs a.1))
  where
    all : (ws : List Life) → AllByRecursion (λ (w : Life). eqb v.link w.link ≡ false) ws → AllByRecursion (λ (w : Life). find (λ (u : Life). eqb w.link u.link) vs ≡ Some w) ws → AllByRecursion (λ (w : Life). find (λ (u : Life). eqb w.link u.link) (v ∷ vs) ≡ Some w) ws
    all [] f h = tt
    all (w ∷ ws) f h = (let far : eqb w.link v.link ≡ false = eqb-comm w.link v.link ∙ f.0 in rw far h.0, all ws f.1 h.1)

module _ (K : List Mark) (q : IsProper K) (names : AreNamed K) (p : PeerId) where
  only_known : (v : Life) → life_of p K ≡ Some v → Only p (λ k. k ≡ v.link) K
  only_known v e = All-map (λ (w : Life). life w.link K ≡ Some w) (λ (w : Life). bytes_eq p.0 w.id.0 ≡ true → w.link ≡ v.link)
      (λ w z y. let both : Some v ≡ Some w = sym e ∙ ap (λ i. life_of i K) (sym (same_id p w.id y)) ∙ names w.link w z in let is : v ≡ w = cc in ap (λ (x : Life). x.link) (sym is)) (lives K) (found_itself (lives K) q.living.apart)

  only_unknown : life_of p K ≡ None → Only p (λ k. ⊥) K
  only_unknown e = All-map (λ (w : Life). life w.link K ≡ Some w) (λ (w : Life). bytes_eq p.0 w.id.0 ≡ true → ⊥)
      (λ w z y. let both : None ≡ Some w = sym e ∙ ap (λ i. life_of i K) (sym (same_id p w.id y)) ∙ names w.link w z in cc) (lives K) (found_itself (lives K) q.living.apart)

-- ---- a tick

-- the marks of a tick, where none that turns evasive has such a link
module _ (g : Config) (K : List Mark) (p : PeerId) (P : ℕ → Type 0) where
  firm_ends : (vs : List Life) → AllByRecursion (Firm p P) (map (λ (v : Life). Ends v.link cause.Expired) vs)
  firm_ends [] = tt
  firm_ends (v ∷ vs) = (tt, firm_ends vs)

  firm_closes : (cs : List ℕ) → AllByRecursion (Firm p P) (map (λ c. Closes c close.Timeout) cs)
  firm_closes [] = tt
  firm_closes (c ∷ cs) = (tt, firm_closes cs)

  firm_probes : (vs : List Life) (I : List Mark) → AllByRecursion (λ (v : Life). P v.link → ⊥) vs → AllByRecursion (Firm p P) (probe g vs I)
  firm_probes [] I n = tt
  firm_probes (v ∷ vs) I n =
      let x = push g v.link body.Ping I in
      (n.0, All-join (Firm p P) x (probe g vs (after x (IsEvasive v.link ∷ I))) (all_push (Firm p P) (λ l why. tt) (λ c why. tt) (λ l b. tt) g v.link body.Ping I) (firm_probes vs (after x (IsEvasive v.link ∷ I)) n.1))

  firm_tick : AllByRecursion (λ (v : Life). P v.link → ⊥) (filter (is_evasive g K) (lives K)) → AllByRecursion (Firm p P) (at_tick g K)
  firm_tick n = All-join (Firm p P) (E g K ++ F g K ++ C g K) (SendsBeacon g.port ∷ []) (All-join (Firm p P) (E g K ++ F g K) (C g K) (All-join (Firm p P) (E g K) (F g K) (firm_ends (filter (is_silent g g.expired K) (lives K)))
      (firm_probes (filter (is_evasive g K) (lives K)) K n)) (firm_closes (filter (is_stale g K) (open_ones K)))) (tt, tt)

none_at : (l : ℕ) (us : List Life) → find (λ (u : Life). eqb l u.link) us ≡ None → AllByRecursion (λ (u : Life). u.link ≡ l → ⊥) us
none_at l [] e = tt
none_at l (u ∷ us) e = by (none_at l us) (eqb l u.link) refl e
  where
    by : (find (λ (w : Life). eqb l w.link) us ≡ None → AllByRecursion (λ (w : Life). w.link ≡ l → ⊥) us) → (b : Bool) → eqb l u.link ≡ b → cond b (Some u) (find (λ (w : Life). eqb l w.link) us) ≡ None
        → (u.link ≡ l → ⊥) × AllByRecursion (λ (w : Life). w.link ≡ l → ⊥) us
    by r true z e = cc
    by r false z e = (λ q. true≢false (sym (eq-eqb l u.link (sym q)) ∙ z), r e)

all_none : (us : List Life) → AllByRecursion (λ (u : Life). ⊥ → ⊥) us
all_none [] = tt
all_none (u ∷ us) = (λ z. z, all_none us)

pub not_long : (limit past now : ℕ) → now - past < limit → leb limit (now - past) ≡ false
not_long limit past now z = by (leb limit (now - past)) refl
  where
    by : (b : Bool) → leb limit (now - past) ≡ b → b ≡ false
    by false e = refl
    by true e = let y : limit ≤ now - past = leb-true limit (now - past) e in absurd (long y)
      where
        long : limit ≤ now - past → ⊥
        long y = omega (arith, y, z)

for_long : (limit past now : ℕ) → limit ≤ now - past → leb limit (now - past) ≡ true
for_long limit past now z = by (leb limit (now - past)) refl
  where
    by : (b : Bool) → leb limit (now - past) ≡ b → b ≡ true
    by true e = refl
    by false e = let y = leb-false limit (now - past) e in absurd (omega (arith, y, z))

-- what ends v isn't that it expires
lasts_of : (l : ℕ) (hs : List Mark) (xs : List Cause) → ends_in l hs ≡ xs → AllByRecursion (λ (w : Cause). w ≡ cause.Expired → ⊥) xs → AllByRecursion (λ h. end_of l h ≡ Some cause.Expired → ⊥) hs
lasts_of l [] xs e a = tt
lasts_of l (h ∷ hs) xs e a = by (lasts_of l hs) (end_of l h) refl (subst (AllByRecursion (λ (w : Cause). w ≡ cause.Expired → ⊥)) (sym e) a)
  where
    by : ((ys : List Cause) → ends_in l hs ≡ ys → AllByRecursion (λ (w : Cause). w ≡ cause.Expired → ⊥) ys → AllByRecursion (λ x. end_of l x ≡ Some cause.Expired → ⊥) hs) → (o : Option Cause) → end_of l h ≡ o
        → AllByRecursion (λ (w : Cause). w ≡ cause.Expired → ⊥) (cons_option o (ends_in l hs)) → (end_of l h ≡ Some cause.Expired → ⊥) × AllByRecursion (λ x. end_of l x ≡ Some cause.Expired → ⊥) hs
    by r None z b = (λ y. let no : None ≡ Some cause.Expired = sym z ∙ y in cc, r (ends_in l hs) refl b)
    by r (Some w) z b = (λ y. b.0 (let both : Some w ≡ Some cause.Expired = sym z ∙ y in cc), r (ends_in l hs) refl b.1)

lasts_mark : (p : PeerId) (l : ℕ) (h : Mark) → (end_of l h ≡ Some cause.Expired → ⊥) → Lasts p (λ k. k ≡ l) h
lasts_mark p l (Ends k w) n = by w n
  where
    by : (c : Cause) → (cond (eqb l k) (Some c) None ≡ Some cause.Expired → ⊥) → Lasts p (λ j. j ≡ l) (Ends k c)
    by cause.Expired f = λ same. f (let is : eqb l k ≡ true = eq-eqb l k (sym same) in rw is refl)
    by _ f = tt
lasts_mark p l _ n = tt

slow_only : (g : Config) (l : ℕ) (o : Option Body) (K : List Mark) → AllByRecursion (λ (w : Cause). w ≡ cause.Expired → ⊥) (cons_option (slow_by g l o K) [])
slow_only g l None K = tt
slow_only g l (Some b) K = by (ltb UNSENT_OCTETS (unsent g l K + size_of (line l K) b))
  where
    by : (t : Bool) → AllByRecursion (λ (w : Cause). w ≡ cause.Expired → ⊥) (cons_option (where_so t (cause.Slow (unsent g l K) (size_of (line l K) b))) [])
    by true = (λ e. cc, tt)
    by false = tt

module _ (g : Config) (J earlier : List Entry) (e : Entry) (later : List Entry) (v : Life) (at : IsTickOf g J earlier e later v) where
  abbrev H : List Mark
  H = chronicle g earlier

  abbrev K : List Mark
  K = Comes e ∷ H

  ends : ends_in v.link (at_tick g K) ≡ cons_option (cond (is_silent g g.expired K v) (Some cause.Expired) (slow_by g v.link (where_so (is_evasive g K v) body.Ping) K)) []
  ends = subst (λ i. ends_in v.link (at_input g i H K) ≡ cons_option (cause_at g i H K v) []) at.is_tick ((ends_by_table g J).at_entries earlier e later v at.is_entry (ap is_piece at.is_tick) at.is_known)

  whole : with_entry g e H ≡ after (at_tick g K) K
  whole = ap (λ b. after (cond b [] (at_input g e.input H K)) K) at.is_entry.going ∙ ap (λ i. after (at_input g i H K) K) at.is_tick

  tells : events_at g e H ≡ told (at_tick g K) K
  tells = ap (λ b. told (cond b [] (at_input g e.input H K)) K) at.is_entry.going ∙ ap (λ i. told (at_input g i H K) K) at.is_tick

  expires : g.expired ≤ silent_for v.link K → ends_in v.link (at_tick g K) ≡ cause.Expired ∷ []
  expires z = ends ∙ ap (λ b. cons_option (cond b (Some cause.Expired) (slow_by g v.link (where_so (is_evasive g K v) body.Ping) K)) []) (for_long g.expired (active v.link K) (clock K) z)

  pub gone : g.expired ≤ silent_for v.link K → life v.link (with_entry g e H) ≡ None
  gone z = by (life v.link (with_entry g e H)) refl
    where
      all : chronicle g (earlier ++ e ∷ []) ≡ with_entry g e H
      all = (continues g earlier (e ∷ [])).happened

      ended : has_ended v.link (with_entry g e H) ≡ true
      ended = ap (has_ended v.link) whole ∙ ended_there v.link cause.Expired (at_tick g K) K (expires z)

      by : (o : Option Life) → life v.link (with_entry g e H) ≡ o → o ≡ None
      by None y = refl
      by (Some u) y =
          let known : IsSome (life v.link (chronicle g (earlier ++ e ∷ []))) = rw (ap (life v.link) all ∙ y) refl in
          absurd (true≢false (sym ended ∙ ap (has_ended v.link) (sym all) ∙ (ends_once g (earlier ++ e ∷ [])).is_gone v.link known))

  pub told_gone : g.expired ≤ silent_for v.link K → is_entered K v ≡ true → IsTold (event.Exit v.id (view v.link K).name cause.Expired) (events_at g e H)
  told_gone z entered = subst (IsTold (event.Exit v.id (view v.link K).name cause.Expired)) (sym tells) (told_there v cause.Expired (at_tick g K) K (all_tick g K) (expires z) at.is_known entered)

  pub not_told : silent_for v.link K < g.expired → list_any (tells_expired v.id) (events_at g e H) ≡ false
  not_told z = ap (list_any (tells_expired v.id)) tells ∙ none_at_tick v.id (λ k. k ≡ v.link) (tells_expired v.id) (Lasts v.id (λ k. k ≡ v.link)) (lasting_mark v.id (λ k. k ≡ v.link)) (at_tick g K) K (all_tick g K) lasting (only_known K (comes_proper g earlier e) (λ l u y. named g earlier l u y) v.id v (named g earlier v.link v at.is_known))
    where
      slow : ends_in v.link (at_tick g K) ≡ cons_option (slow_by g v.link (where_so (is_evasive g K v) body.Ping) K) []
      slow = ends ∙ ap (λ b. cons_option (cond b (Some cause.Expired) (slow_by g v.link (where_so (is_evasive g K v) body.Ping) K)) []) (not_long g.expired (active v.link K) (clock K) z)

      lasting : AllByRecursion (Lasts v.id (λ k. k ≡ v.link)) (at_tick g K)
      lasting = All-map (λ h. end_of v.link h ≡ Some cause.Expired → ⊥) (Lasts v.id (λ k. k ≡ v.link)) (lasts_mark v.id v.link) (at_tick g K)
          (lasts_of v.link (at_tick g K) (cons_option (slow_by g v.link (where_so (is_evasive g K v) body.Ping) K) []) slow (slow_only g v.link (where_so (is_evasive g K v) body.Ping) K))

-- ---- other entries

pub only_tick : (i : Input) → is_tick i ≡ true → i ≡ input.Tick
only_tick input.Tick e = refl
only_tick _ e = let z : false ≡ true = e in cc

-- a mark by which no peer turns evasive
abbrev Still : Mark → Type 0
Still (IsEvasive l) = ⊥
Still _ = Unit {0}

still_mild : (t : Kind) → t.ticks ≡ false → (h : Mark) → Mild t h → Still h
still_mild t n (IsEvasive l) m = absurd (true≢false (sym m ∙ n))
still_mild t n _ m = tt

still_marks : (p : PeerId) (hs X : List Mark) → AllByRecursion Still hs → list_any (tells_evasive p) (told hs X) ≡ false
still_marks p hs X s = none_of_marks (tells_evasive p) Still (Only p (λ k. Unit {0})) (λ h Y a o. firm_mark p (λ k. Unit {0}) h Y (firm h a) o) (λ h Y a o. only_any p (h ∷ Y)) hs X s (only_any p X)
  where
    firm : (h : Mark) → Still h → Firm p (λ k. Unit {0}) h
    firm (IsEvasive l) a = λ z. a
    firm _ a = tt

still_run : (g : Config) (o : Option ℕ) (why : Cause) (h : Mark) → Still h → AllByRecursion Still (end_of_run g o why ++ h ∷ [])
still_run g None why h s = (s, tt)
still_run g (Some l) why h s = (tt, (s, tt))

still_input : (g : Config) (i : Input) (H K : List Mark) → is_tick i ≡ false → AllByRecursion Still (at_input g i H K)
still_input g (input.Opened c) H K n = choice (AllByRecursion Still) (is_new c K) _ _ (λ z. choice (AllByRecursion Still) (ltb (length (open_ones K)) CONNECTIONS) _ _ (λ y. (tt, tt)) (λ y. (tt, tt))) (λ z. tt)
still_input g (input.Shut c) H K n = choice (AllByRecursion Still) (is_open c K) _ _ (λ z. still_run g (runs c K) cause.Shut (IsShut c) tt) (λ z. tt)
still_input g (input.Unlinked l) H K n = by (life l K)
  where
    by : (o : Option Life) → AllByRecursion Still (at_unlinked g l o)
    by None = tt
    by (Some u) = (tt, tt)
still_input g input.Tick H K n = absurd (true≢false n)
still_input g i H K n = All-map (Mild (kind i)) Still (still_mild (kind i) n) (at_input g i H K) (mild_input g i H K tt)

-- ---- the journal

module _ (g : Config) (J : List Entry) (p : PeerId)
    (heard : (earlier : List Entry) (e : Entry) (later : List Entry) (v : Life) → IsTickOf g J earlier e later v → v.id ≡ p → let K = Comes e ∷ chronicle g earlier in silent_for v.link K < g.evasive) where
  module _ (earlier : List Entry) (e : Entry) (later : List Entry) (is : J ≡ earlier ++ e ∷ later) where
    abbrev B : List Mark
    B = chronicle g earlier

    abbrev M : List Mark
    M = Comes e ∷ B

    proper : IsProper M
    proper = comes_proper g earlier e

    at_tick_none : has_stopped B ≡ false → e.input ≡ input.Tick → list_any (tells_evasive p) (told (at_tick g M) M) ≡ false
    at_tick_none going tick = by (life_of p M) refl
      where
        by : (o : Option Life) → life_of p M ≡ o → list_any (tells_evasive p) (told (at_tick g M) M) ≡ false
        by None z = none_at_tick p (λ k. ⊥) (tells_evasive p) (Firm p (λ k. ⊥)) (firm_mark p (λ k. ⊥)) (at_tick g M) M (all_tick g M) (firm_tick g M p (λ k. ⊥) (all_none (filter (is_evasive g M) (lives M)))) (only_unknown M proper (λ l u y. named g earlier l u y) p z)
        by (Some v) z =
            let known = known_of M proper p v z in
            let soon = heard earlier e later v (record { is_entry = record { in_journal = is; going = going }; is_tick = tick; is_known = known }) (id_of M p v z) in
            let calm : is_evasive g M v ≡ false = ap (λ b. (is_entered M v && not (is_silent g g.expired M v)) && b) (not_long g.evasive (active v.link M) (clock M) soon) ∙ and-false (is_entered M v && not (is_silent g g.expired M v)) in
            none_at_tick p (λ k. k ≡ v.link) (tells_evasive p) (Firm p (λ k. k ≡ v.link)) (firm_mark p (λ k. k ≡ v.link)) (at_tick g M) M (all_tick g M) (firm_tick g M p (λ k. k ≡ v.link) (none_at v.link (filter (is_evasive g M) (lives M)) (dropped (is_evasive g M) (lives M) v known calm proper.living.apart)))
            (only_known M proper (λ l u y. named g earlier l u y) p v z)

    entry_none : list_any (tells_evasive p) (events_at g e B) ≡ false
    entry_none = by (has_stopped B) refl
      where
        input_none : has_stopped B ≡ false → (i : Input) → e.input ≡ i → list_any (tells_evasive p) (told (at_input g i B M) M) ≡ false
        input_none going i z = at (is_tick i) refl
          where
            at : (t : Bool) → is_tick i ≡ t → list_any (tells_evasive p) (told (at_input g i B M) M) ≡ false
            at false y = still_marks p (at_input g i B M) M (still_input g i B M y)
            at true y = let tick : i ≡ input.Tick = only_tick i y in subst (λ j. list_any (tells_evasive p) (told (at_input g j B M) M) ≡ false) (sym tick) (at_tick_none going (z ∙ tick))

        by : (b : Bool) → has_stopped B ≡ b → list_any (tells_evasive p) (told (cond b [] (at_input g e.input B M)) M) ≡ false
        by true s = refl
        by false s = input_none s e.input refl

  on : (earlier later : List Entry) (X : List Mark) → J ≡ earlier ++ later → chronicle g earlier ≡ X → list_any (tells_evasive p) (events_after g later X) ≡ false
  on earlier [] X is at = refl
  on earlier (e ∷ later) X is at =
      list_any-append (tells_evasive p) (events_at g e X) (events_after g later (with_entry g e X))
      ∙ ap (λ b. b || list_any (tells_evasive p) (events_after g later (with_entry g e X))) (subst (λ Y. list_any (tells_evasive p) (events_at g e Y) ≡ false) at (entry_none earlier e later is))
      ∙ on (earlier ++ e ∷ []) later (with_entry g e X) (is ∙ sym (append_assoc earlier (e ∷ []) later)) ((continues g earlier (e ∷ [])).happened ∙ ap (with_entry g e) at)

  pub none_ever : list_any (tells_evasive p) (events g J) ≡ false
  none_ever = on [] J [] refl refl

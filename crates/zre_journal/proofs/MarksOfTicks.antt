-- The marks of a tick, and who ends among them.
use Rattle.std.proofs.Common.{◌≡◌, ℕ, Bool, true, false, cond, eqb, is_some, List, [], ◌∷◌, ◌++◌, map, Some, None, filter, refl, sym, ap, ◌∙◌, subst, eq-eqb, eqb-true}
use Rattle.std.specs.Prelude.{◌⊎◌}
use Rattle.std.proofs.Common.{inl, inr}
use Rattle.std.specs.List.{AllByRecursion, cons_option}
use Rattle.zre_peer.specs.Views.{view_of}
use Rattle.zre_msg.specs.declared.message.Body.TheVariants as body
use Rattle.zre_peer.specs.declared.causes.Cause.{Cause}
use Rattle.zre_peer.specs.declared.causes.Cause.TheVariants as cause
use Rattle.zre_peer.specs.declared.causes.CloseWhy.{CloseWhy}
use Rattle.zre_peer.specs.declared.causes.CloseWhy.TheVariants as close
use Rattle.zre_peer.specs.declared.event.Event.TheVariants as event
use Rattle.zre_values.specs.declared.settings.Settings.{Settings as Config}
use Rattle.zre_journal.specs.Causes.{ends_in}
use Rattle.zre_journal.specs.Chronicle.{Mark, Closes, Ends, IsEvasive, Puts, SendsBeacon, after}
use Rattle.zre_journal.specs.Connections.{open_ones, has_ended}
use Rattle.zre_journal.specs.Peers.{Life, lives, life, runner, is_entered, counted, view}
use Rattle.zre_journal.specs.Pushes.{push}
use Rattle.zre_journal.specs.Silence.{IsTold}
use Rattle.zre_journal.specs.Ticks.{is_silent, is_evasive, is_stale, probe, at_tick}
use Rattle.zre_journal.specs.Told.{told, exit}
use Rattle.zre_journal.proofs.JoinedEntries.{after-append, told-append}
use Rattle.zre_journal.proofs.KnownPeers.{life_stays}
use Rattle.zre_journal.proofs.NumberedLists.{eqb-comm, All-join}
use Rattle.zre_journal.proofs.WhenMarksCome.{all_push}

-- ---- the marks of a tick

abbrev pub Ticks : Mark → Type 0
Ticks (Closes c why) = Unit {0}
Ticks (Ends l why) = Unit {0}
Ticks (IsEvasive l) = Unit {0}
Ticks (Puts l b) = Unit {0}
Ticks (SendsBeacon port) = Unit {0}
Ticks _ = ⊥

abbrev pub AreTicks : List Mark → Type 0
AreTicks hs = AllByRecursion Ticks hs

pub probes_tick : (g : Config) (vs : List Life) (I : List Mark) → AreTicks (probe g vs I)
probes_tick g [] I = tt
probes_tick g (v ∷ vs) I =
    let p = push g v.link body.Ping I in
    (tt, All-join Ticks p (probe g vs (after p (IsEvasive v.link ∷ I))) (all_push Ticks (λ l why. tt) (λ c why. tt) (λ l b. tt) g v.link body.Ping I) (probes_tick g vs (after p (IsEvasive v.link ∷ I))))

pub ends_tick : (why : Cause) (vs : List Life) → AreTicks (map (λ (v : Life). Ends v.link why) vs)
ends_tick why [] = tt
ends_tick why (v ∷ vs) = (tt, ends_tick why vs)

pub closes_tick : (why : CloseWhy) (cs : List ℕ) → AreTicks (map (λ c. Closes c why) cs)
closes_tick why [] = tt
closes_tick why (c ∷ cs) = (tt, closes_tick why cs)

module _ (g : Config) (K : List Mark) where
  abbrev pub E : List Mark
  E = map (λ (v : Life). Ends v.link cause.Expired) (filter (is_silent g g.expired K) (lives K))

  abbrev pub F : List Mark
  F = probe g (filter (is_evasive g K) (lives K)) K

  abbrev pub C : List Mark
  C = map (λ c. Closes c close.Timeout) (filter (is_stale g K) (open_ones K))

  pub all_tick : AreTicks (at_tick g K)
  all_tick = All-join Ticks (E ++ F ++ C) (SendsBeacon g.port ∷ []) (All-join Ticks (E ++ F) C (All-join Ticks E F (ends_tick cause.Expired (filter (is_silent g g.expired K) (lives K))) (probes_tick g (filter (is_evasive g K) (lives K)) K))
      (closes_tick close.Timeout (filter (is_stale g K) (open_ones K)))) (tt, tt)

-- ---- who is gone

one_ends : (l k : ℕ) (w : Cause) (xs : List Cause) (why : Cause) → cons_option (cond (eqb l k) (Some w) None) xs ≡ why ∷ [] → ((eqb l k ≡ true) × (w ≡ why)) ⊎ ((eqb l k ≡ false) × (xs ≡ why ∷ []))
one_ends l k w xs why = by (eqb l k) refl
  where
    by : (b : Bool) → eqb l k ≡ b → cons_option (cond b (Some w) None) xs ≡ why ∷ [] → ((eqb l k ≡ true) × (w ≡ why)) ⊎ ((eqb l k ≡ false) × (xs ≡ why ∷ []))
    by true z e = inl (z, (let same : w ≡ why = cc in same))
    by false z e = inr (z, e)

-- the place of an end among marks
record EndsAt (l : ℕ) (why : Cause) (hs : List Mark) : Type 0 where
  pub front : List Mark
  pub rest : List Mark
  pub is : hs ≡ front ++ Ends l why ∷ rest
  pub none : ends_in l front ≡ []

further : (l : ℕ) (why : Cause) (h : Mark) (hs : List Mark) → ((xs : List Mark) → ends_in l (h ∷ xs) ≡ ends_in l xs) → EndsAt l why hs → EndsAt l why (h ∷ hs)
further l why h hs s r = record { front = h ∷ r.front; rest = r.rest; is = ap (λ xs. h ∷ xs) r.is; none = s r.front ∙ r.none }

find_end : (l : ℕ) (why : Cause) (hs : List Mark) → ends_in l hs ≡ why ∷ [] → EndsAt l why hs
find_end l why [] e = cc
find_end l why (Ends k w ∷ hs) e = by (find_end l why hs) (one_ends l k w (ends_in l hs) why e)
  where
    by : (ends_in l hs ≡ why ∷ [] → EndsAt l why hs) → ((eqb l k ≡ true) × (w ≡ why)) ⊎ ((eqb l k ≡ false) × (ends_in l hs ≡ why ∷ [])) → EndsAt l why (Ends k w ∷ hs)
    by r (inl p) = record { front = []; rest = hs; is = ap (λ x. Ends k x ∷ hs) p.1 ∙ ap (λ n. Ends n why ∷ hs) (sym (eqb-true l k p.0)); none = refl }
    by r (inr p) = further l why (Ends k w) hs (λ xs. rw p.0 refl) (r p.1)
find_end l why (_ ∷ hs) e = further l why _ hs (λ xs. refl) (find_end l why hs e)

pub ended_there : (l : ℕ) (why : Cause) (hs H : List Mark) → ends_in l hs ≡ why ∷ [] → has_ended l (after hs H) ≡ true
ended_there l why hs H e = let r = find_end l why hs e in
    ap (λ xs. has_ended l (after xs H)) r.is ∙ ap (has_ended l) (after-append r.front (Ends l why ∷ r.rest) H)
    ∙ stays r.rest (Ends l why ∷ after r.front H) (let me : eqb l l ≡ true = eq-eqb l l refl in rw me refl)
  where
    still : (h : Mark) (X : List Mark) → has_ended l X ≡ true → has_ended l (h ∷ X) ≡ true
    still (Ends k w) X z = by (eqb l k)
      where
        by : (b : Bool) → cond b true (has_ended l X) ≡ true
        by true = refl
        by false = z
    still _ X z = z

    stays : (xs X : List Mark) → has_ended l X ≡ true → has_ended l (after xs X) ≡ true
    stays [] X z = z
    stays (h ∷ xs) X z = stays xs (h ∷ X) (still h X z)

-- ---- what such marks leave

module _ (l : ℕ) where
  no_end : (k : ℕ) (w : Cause) (xs : List Cause) → cons_option (cond (eqb l k) (Some w) None) xs ≡ [] → (eqb l k ≡ false) × (xs ≡ [])
  no_end k w xs = by (eqb l k)
    where
      by : (b : Bool) → cons_option (cond b (Some w) None) xs ≡ [] → (b ≡ false) × (xs ≡ [])
      by true e = cc
      by false e = (refl, e)

  life_on : (hs H : List Mark) → AreTicks hs → ends_in l hs ≡ [] → life l (after hs H) ≡ life l H
  life_on [] H a e = refl
  life_on (Ends k w ∷ hs) H a e = let n = no_end k w (ends_in l hs) e in life_on hs (Ends k w ∷ H) a.1 n.1 ∙ life_stays H k l w (eqb-comm k l ∙ n.0)
  life_on (Closes c w ∷ hs) H a e = life_on hs (Closes c w ∷ H) a.1 e
  life_on (IsEvasive k ∷ hs) H a e = life_on hs (IsEvasive k ∷ H) a.1 e
  life_on (Puts k b ∷ hs) H a e = life_on hs (Puts k b ∷ H) a.1 e
  life_on (SendsBeacon port ∷ hs) H a e = life_on hs (SendsBeacon port ∷ H) a.1 e
  life_on (_ ∷ hs) H a e = absurd a.0

  run_mark : (h : Mark) (H : List Mark) → Ticks h → (runner l (h ∷ H) ≡ runner l H) × (counted l (h ∷ H) ≡ counted l H)
  run_mark (Ends k w) H a = (refl, refl)
  run_mark (Closes c w) H a = (refl, refl)
  run_mark (IsEvasive k) H a = (refl, refl)
  run_mark (Puts k b) H a = (refl, refl)
  run_mark (SendsBeacon port) H a = (refl, refl)
  run_mark _ H a = absurd a

  run_on : (hs H : List Mark) → AreTicks hs → (runner l (after hs H) ≡ runner l H) × (counted l (after hs H) ≡ counted l H)
  run_on [] H a = (refl, refl)
  run_on (h ∷ hs) H a = let r = run_on hs (h ∷ H) a.1 in let m = run_mark h H a.0 in (r.0 ∙ m.0, r.1 ∙ m.1)

All-front : {A : Type 0} (P : A → Type 0) (xs ys : List A) → AllByRecursion P (xs ++ ys) → AllByRecursion P xs
All-front P [] ys a = tt
All-front P (x ∷ xs) ys a = (a.0, All-front P xs ys a.1)

pub told_there : (v : Life) (why : Cause) (hs K : List Mark) → AreTicks hs → ends_in v.link hs ≡ why ∷ [] → life v.link K ≡ Some v → is_entered K v ≡ true → IsTold (event.Exit v.id (view v.link K).name why) (told hs K)
told_there v why hs K a e known entered = record { before = told r.front K; later = told r.rest (Ends v.link why ∷ X); there = ap (λ xs. told xs K) r.is ∙ told-append r.front (Ends v.link why ∷ r.rest) K ∙ ap (λ es. told r.front K ++ (es ++ told r.rest (Ends v.link why ∷ X))) here }
  where
    r : EndsAt v.link why hs
    r = find_end v.link why hs e

    X : List Mark
    X = after r.front K

    ticks : AreTicks r.front
    ticks = All-front Ticks r.front (Ends v.link why ∷ r.rest) (subst AreTicks r.is a)

    same : (runner v.link X ≡ runner v.link K) × (counted v.link X ≡ counted v.link K)
    same = run_on v.link r.front K ticks

    lives_on : life v.link X ≡ Some v
    lives_on = life_on v.link r.front K ticks r.none ∙ known

    here : exit (life v.link X) why X ≡ event.Exit v.id (view v.link K).name why ∷ []
    here = ap (λ o. exit o why X) lives_on ∙ ap (λ o. cond (is_some o) (event.Exit v.id (view v.link X).name why ∷ []) []) same.0 ∙ ap (λ b. cond b (event.Exit v.id (view v.link X).name why ∷ []) []) entered
        ∙ ap (λ ms. event.Exit v.id (view_of ms).name why ∷ []) same.1

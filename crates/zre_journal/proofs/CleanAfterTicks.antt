-- After a tick no known peer is silent for long, and no open connection is idle for long.
use Rattle.std.proofs.Common.{◌≡◌, ℕ, ◌-◌, ◌≤◌, Bool, true, false, true≢false, cond, not, ◌&&◌, ◌||◌, eqb, ltb, leb, leb-true, List, length, [], ◌∷◌, ◌++◌, map, filter, Option, Some, None, is_none, refl, sym, ap, ◌∙◌, subst, arith, eq-eqb}
use Rattle.std.specs.Option.{option_and_then}
use Rattle.std.proofs.lemmas.Bool.{and_parts, or_right}
use Rattle.std.specs.List.{AllByRecursion, list_all, list_any}
use Rattle.zre_values.specs.declared.limits.TheConstants.{HEADERS}
use Rattle.zre_msg.specs.declared.message.Body.TheVariants as body
use Rattle.zre_outside.specs.declared.entry.Entry.{Entry}
use Rattle.zre_outside.specs.declared.entry.Input.TheVariants as input
use Rattle.zre_peer.specs.declared.causes.Cause.{Cause}
use Rattle.zre_peer.specs.declared.causes.Cause.TheVariants as cause
use Rattle.zre_peer.specs.declared.causes.CloseWhy.{CloseWhy}
use Rattle.zre_peer.specs.declared.causes.CloseWhy.TheVariants as close
use Rattle.zre_values.specs.declared.settings.Settings.{Settings as Config}
use Rattle.zre_journal.specs.Chronicle.{Mark, Comes, Closes, Ends, IsEvasive, Puts, SendsBeacon, after}
use Rattle.zre_journal.specs.Cleaning.{IsClean}
use Rattle.zre_values.specs.Settings.{is_valid}
use Rattle.zre_values.specs.Settings.{is_fitting, are_apart}
use Rattle.zre_journal.specs.Connections.{open_ones, started, has_ended, runs, since}
use Rattle.zre_journal.specs.Events.{chronicle}
use Rattle.zre_journal.specs.Happens.{has_stopped, at_input}
use Rattle.zre_journal.specs.Heard.{clock}
use Rattle.zre_journal.specs.Peers.{Life, lives, active}
use Rattle.zre_journal.specs.Ticks.{is_silent, is_evasive, is_stale, at_tick}
use Rattle.zre_journal.proofs.StopsLeaveNothing.{leaves_nothing}
use Rattle.zre_journal.proofs.JoinedEntries.{after-append, continues}
use Rattle.zre_journal.proofs.KnownPeers.{end_all}
use Rattle.zre_journal.proofs.NumberedLists.{eqb-comm, All-kept, All-map}
use Rattle.zre_journal.proofs.MarksOfTicks.{Ticks, AreTicks, E, F, C, all_tick, probes_tick, ends_tick, closes_tick}

-- ---- what the marks of a tick keep

tick_clock : (h : Mark) (H : List Mark) → Ticks h → clock (h ∷ H) ≡ clock H
tick_clock (Comes e) H c = absurd c
tick_clock _ H c = refl

tick_active : (l : ℕ) (h : Mark) (H : List Mark) → Ticks h → active l (h ∷ H) ≡ active l H
tick_active l (Closes d why) H c = refl
tick_active l (Ends k why) H c = refl
tick_active l (IsEvasive k) H c = refl
tick_active l (Puts k b) H c = refl
tick_active l (SendsBeacon port) H c = refl
tick_active l _ H c = absurd c

tick_lives : (P : Life → Type 0) (h : Mark) (H : List Mark) → Ticks h → AllByRecursion P (lives H) → AllByRecursion P (lives (h ∷ H))
tick_lives P (Closes d why) H c a = a
tick_lives P (Ends k why) H c a = All-kept P (λ (v : Life). not (eqb k v.link)) (lives H) a
tick_lives P (IsEvasive k) H c a = a
tick_lives P (Puts k b) H c a = a
tick_lives P (SendsBeacon port) H c a = a
tick_lives P _ H c a = absurd c

tick_open : (P : ℕ → Type 0) (h : Mark) (H : List Mark) → Ticks h → AllByRecursion P (open_ones H) → AllByRecursion P (open_ones (h ∷ H))
tick_open P (Closes d why) H c a = All-kept P (λ x. not (eqb d x)) (open_ones H) a
tick_open P (Ends k why) H c a = a
tick_open P (IsEvasive k) H c a = a
tick_open P (Puts k b) H c a = a
tick_open P (SendsBeacon port) H c a = a
tick_open P _ H c a = absurd c

all_clock : (hs H : List Mark) → AreTicks hs → clock (after hs H) ≡ clock H
all_clock [] H c = refl
all_clock (h ∷ hs) H c = all_clock hs (h ∷ H) c.1 ∙ tick_clock h H c.0

all_active : (l : ℕ) (hs H : List Mark) → AreTicks hs → active l (after hs H) ≡ active l H
all_active l [] H c = refl
all_active l (h ∷ hs) H c = all_active l hs (h ∷ H) c.1 ∙ tick_active l h H c.0

all_lives : (P : Life → Type 0) (hs H : List Mark) → AreTicks hs → AllByRecursion P (lives H) → AllByRecursion P (lives (after hs H))
all_lives P [] H c a = a
all_lives P (h ∷ hs) H c a = all_lives P hs (h ∷ H) c.1 (tick_lives P h H c.0 a)

all_open : (P : ℕ → Type 0) (hs H : List Mark) → AreTicks hs → AllByRecursion P (open_ones H) → AllByRecursion P (open_ones (after hs H))
all_open P [] H c a = a
all_open P (h ∷ hs) H c a = all_open P hs (h ∷ H) c.1 (tick_open P h H c.0 a)

-- ---- those of these numbers go

-- one that a test says is among these
abbrev Among : {A : Type 0} → (A → ℕ) → (A → Bool) → List A → A → Type 0
Among key t ys x = t x ≡ true → list_any (λ y. eqb (key y) (key x)) ys ≡ true

taken_out : {A : Type 0} (key : A → ℕ) (t : A → Bool) (y : A) (ys xs : List A) → AllByRecursion (Among key t (y ∷ ys)) xs → AllByRecursion (Among key t ys) (filter (λ x. not (eqb (key y) (key x))) xs)
taken_out key t y ys [] a = tt
taken_out {A} key t y ys (x ∷ xs) a = by (taken_out key t y ys xs a.1) (eqb (key y) (key x)) a.0
  where
    by : AllByRecursion (Among key t ys) (filter (λ z. not (eqb (key y) (key z))) xs) → (b : Bool) → (t x ≡ true → (b || list_any (λ z. eqb (key z) (key x)) ys) ≡ true)
        → AllByRecursion (Among key t ys) (cond (not b) (x ∷ filter (λ z. not (eqb (key y) (key z))) xs) (filter (λ z. not (eqb (key y) (key z))) xs))
    by r true f = r
    by r false f = (f, r)

-- all that pass the test are among those that do
all_among : {A : Type 0} (key : A → ℕ) (t : A → Bool) (xs : List A) → AllByRecursion (Among key t (filter t xs)) xs
all_among key t [] = tt
all_among {A} key t (x ∷ xs) = by (all_among key t xs) (t x) refl
  where
    by : AllByRecursion (Among key t (filter t xs)) xs → (b : Bool) → t x ≡ b → Among key t (cond b (x ∷ filter t xs) (filter t xs)) x × AllByRecursion (Among key t (cond b (x ∷ filter t xs) (filter t xs))) xs
    by r true e = (
      λ z. ap (λ c. c || list_any (λ y. eqb (key y) (key x)) (filter t xs)) (eq-eqb (key x) (key x) refl),
      All-map (Among key t (filter t xs)) (Among key t (x ∷ filter t xs)) (λ y f z. or_right (eqb (key x) (key y)) (list_any (λ w. eqb (key w) (key y)) (filter t xs)) (f z)) xs r,
    )
    by r false e = (λ z. absurd (true≢false (sym z ∙ e)), r)

none_passes : {A : Type 0} (key : A → ℕ) (t : A → Bool) (xs : List A) → AllByRecursion (Among key t []) xs → AllByRecursion (λ x. t x ≡ false) xs
none_passes {A} key t xs a = All-map (Among key t []) (λ x. t x ≡ false) (λ x f. by (t x) f) xs a
  where
    by : (b : Bool) → (b ≡ true → false ≡ true) → b ≡ false
    by true f = absurd (true≢false (sym (f refl)))
    by false f = refl

ends_clear : (t : Life → Bool) (why : Cause) (vs : List Life) (H : List Mark) → AllByRecursion (Among (λ (v : Life). v.link) t vs) (lives H) → AllByRecursion (λ v. t v ≡ false) (lives (after (end_all why vs) H))
ends_clear t why [] H a = none_passes (λ (v : Life). v.link) t (lives H) a
ends_clear t why (v ∷ vs) H a = ends_clear t why vs (Ends v.link why ∷ H) (taken_out (λ (u : Life). u.link) t v vs (lives H) a)

closes_clear : (t : ℕ → Bool) (why : CloseWhy) (cs : List ℕ) (H : List Mark) → AllByRecursion (Among (λ c. c) t cs) (open_ones H) → AllByRecursion (λ c. t c ≡ false) (open_ones (after (map (λ c. Closes c why) cs) H))
closes_clear t why [] H a = none_passes (λ c. c) t (open_ones H) a
closes_clear t why (c ∷ cs) H a = closes_clear t why cs (Closes c why ∷ H) (taken_out (λ x. x) t c cs (open_ones H) a)

-- ---- how long connections run no peer

-- one that runs no peer hasn't done so for long
abbrev IsFresh : Config → ℕ → List Mark → Type 0
IsFresh g c H = runs c H ≡ None → leb g.expired (clock H - since c H) ≡ false

unless_some : (t : ℕ → Bool) (o : Option ℕ) (k : ℕ) → option_and_then (λ l. cond (t l) None (Some l)) o ≡ Some k → (o ≡ Some k) × (t k ≡ false)
unless_some t None k e = cc
unless_some t (Some l) k e = by (t l) refl e
  where
    by : (b : Bool) → t l ≡ b → cond b None (Some l) ≡ Some k → (Some l ≡ Some k) × (t k ≡ false)
    by true f z = cc
    by false f z = (z, (let same : l ≡ k = cc in subst (λ m. t m ≡ false) same f))

module _ (g : Config) (waits : 1 ≤ g.expired) where
  just_now : (n : ℕ) → leb g.expired (n - n) ≡ false
  just_now n = by (leb g.expired (n - n)) refl
    where
      by : (b : Bool) → leb g.expired (n - n) ≡ b → b ≡ false
      by false e = refl
      by true e = let z : g.expired ≤ n - n = leb-true _ _ e in absurd (omega (arith, waits, z))

  ended_fresh : (c l : ℕ) (why : Cause) (H : List Mark) → IsFresh g c H → IsFresh g c (Ends l why ∷ H)
  ended_fresh c l why H f = by (runs c H) refl
    where
      by : (o : Option ℕ) → runs c H ≡ o → IsFresh g c (Ends l why ∷ H)
      by None e n = rw e (f e)
      by (Some k) e n = at (eqb l k) refl
        where
          at : (b : Bool) → eqb l k ≡ b → leb g.expired (clock H - since c (Ends l why ∷ H)) ≡ false
          at true z = rw (e, z) (just_now (clock H))
          at false z =
              let u = unless_some (λ m. has_ended m H) (started c H) k e in
              let still : has_ended k (Ends l why ∷ H) ≡ false = ap (λ b. cond b true (has_ended k H)) (eqb-comm k l ∙ z) ∙ u.1 in
              let w : Some k ≡ None = sym (ap (option_and_then (λ m. cond (has_ended m (Ends l why ∷ H)) None (Some m))) u.0 ∙ ap (λ b. cond b None (Some k)) still) ∙ n in
              cc

  tick_fresh : (c : ℕ) (h : Mark) (H : List Mark) → Ticks h → IsFresh g c H → IsFresh g c (h ∷ H)
  tick_fresh c (Closes d why) H z f = f
  tick_fresh c (Ends l why) H z f = ended_fresh c l why H f
  tick_fresh c (IsEvasive l) H z f = f
  tick_fresh c (Puts l b) H z f = f
  tick_fresh c (SendsBeacon port) H z f = f
  tick_fresh c _ H z f = absurd z

  all_fresh : (c : ℕ) (hs H : List Mark) → AreTicks hs → IsFresh g c H → IsFresh g c (after hs H)
  all_fresh c [] H z f = f
  all_fresh c (h ∷ hs) H z f = all_fresh c hs (h ∷ H) z.1 (tick_fresh c h H z.0 f)

  fresh_of : (c : ℕ) (H : List Mark) → is_stale g H c ≡ false → IsFresh g c H
  fresh_of c H s n = sym (ap (λ (o : Option ℕ). is_none o && leb g.expired (clock H - since c H)) n) ∙ s

  not_stale : (c : ℕ) (H : List Mark) → IsFresh g c H → is_stale g H c ≡ false
  not_stale c H f = by (runs c H) f
    where
      by : (o : Option ℕ) → (o ≡ None → leb g.expired (clock H - since c H) ≡ false) → (is_none o && leb g.expired (clock H - since c H)) ≡ false
      by None k = k refl
      by (Some l) k = refl

  -- ---- the tick

  module _ (K : List Mark) where
    abbrev Z : List Mark
    Z = SendsBeacon g.port ∷ []

    whole : after (at_tick g K) K ≡ SendsBeacon g.port ∷ after (C g K) (after (F g K) (after (E g K) K))
    whole = after-append (E g K ++ F g K ++ C g K) Z K ∙ ap (after Z) (after-append (E g K ++ F g K) (C g K) K ∙ ap (after (C g K)) (after-append (E g K) (F g K) K))

    abbrev H : List Mark
    H = after (at_tick g K) K

    as_before : (v : Life) → is_silent g g.expired H v ≡ is_silent g g.expired K v
    as_before v = ap (λ n. leb g.expired (n - active v.link H)) (all_clock (at_tick g K) K (all_tick g K)) ∙ ap (λ n. leb g.expired (clock K - n)) (all_active v.link (at_tick g K) K (all_tick g K))

    loud : AllByRecursion (λ (v : Life). is_silent g g.expired K v ≡ false) (lives H)
    loud = subst (λ X. AllByRecursion (λ (v : Life). is_silent g g.expired K v ≡ false) (lives X)) (sym whole)
        (all_lives (λ (v : Life). is_silent g g.expired K v ≡ false) (C g K) (after (F g K) (after (E g K) K)) (closes_tick close.Timeout (filter (is_stale g K) (open_ones K)))
        (all_lives (λ (v : Life). is_silent g g.expired K v ≡ false) (F g K) (after (E g K) K) (probes_tick g (filter (is_evasive g K) (lives K)) K)
        (ends_clear (is_silent g g.expired K) cause.Expired (filter (is_silent g g.expired K) (lives K)) K (all_among (λ (v : Life). v.link) (is_silent g g.expired K) (lives K)))))

    kept : AllByRecursion (λ c. is_stale g K c ≡ false) (open_ones H)
    kept = subst (λ X. AllByRecursion (λ c. is_stale g K c ≡ false) (open_ones X)) (sym whole)
        (closes_clear (is_stale g K) close.Timeout (filter (is_stale g K) (open_ones K)) (after (F g K) (after (E g K) K))
        (all_open (Among (λ c. c) (is_stale g K) (filter (is_stale g K) (open_ones K))) (F g K) (after (E g K) K) (probes_tick g (filter (is_evasive g K) (lives K)) K)
        (all_open (Among (λ c. c) (is_stale g K) (filter (is_stale g K) (open_ones K))) (E g K) K (ends_tick cause.Expired (filter (is_silent g g.expired K) (lives K)))
        (all_among (λ c. c) (is_stale g K) (open_ones K)))))

    clean : IsClean g H
    clean = record {
      none_silent = All-map (λ (v : Life). is_silent g g.expired K v ≡ false) (λ (v : Life). is_silent g g.expired H v ≡ false) (λ v e. as_before v ∙ e) (lives H) loud;
      none_stale = All-map (λ c. is_stale g K c ≡ false) (λ c. is_stale g H c ≡ false) (λ c e. not_stale c H (all_fresh c (at_tick g K) K (all_tick g K) (fresh_of c K e))) (open_ones H) kept;
    }

  pub cleans_up : (J : List Entry) (e : Entry) → e.input ≡ input.Tick → IsClean g (chronicle g (J ++ e ∷ []))
  cleans_up J e t = subst (IsClean g) (sym (continues g J (e ∷ [])).happened) (by (has_stopped H0) refl)
    where
      H0 : List Mark
      H0 = chronicle g J

      K : List Mark
      K = Comes e ∷ H0

      by : (b : Bool) → has_stopped H0 ≡ b → IsClean g (after (cond b [] (at_input g e.input H0 K)) K)
      by true s = let n = leaves_nothing g J s in record {
        none_silent = subst (λ vs. AllByRecursion (λ (v : Life). is_silent g g.expired K v ≡ false) vs) (sym n.none_known) tt;
        none_stale = subst (λ cs. AllByRecursion (λ c. is_stale g K c ≡ false) cs) (sym n.none_open) tt;
      }
      by false s = subst (λ i. IsClean g (after (at_input g i H0 K) K)) (sym t) (clean K)

-- in valid settings there is a time to wait
pub waits : (g : Config) → is_valid g ≡ true → 1 ≤ g.expired
waits g v =
    let first = leb (length g.name) 255 && leb (length g.headers) HEADERS && list_all is_fitting g.headers && are_apart g.headers && ltb 0 g.port in
    let one = and_parts (first && leb 1 g.evasive && leb g.evasive g.expired) (leb g.expired 86400000) v in
    let two = and_parts (first && leb 1 g.evasive) (leb g.evasive g.expired) one.0 in
    let three = and_parts first (leb 1 g.evasive) two.0 in
    omega (arith, leb-true 1 g.evasive three.1, leb-true g.evasive g.expired two.1)

-- Connections that run no peer, and the one that gives way to READY on another.
use Rattle.std.proofs.Common.{◌≡◌, ℕ, Bool, true, false, cond, not, ◌&&◌, ◌||◌, eqb, List, [], ◌∷◌, ◌++◌, Option, Some, None, find, refl, sym, ap, ◌∙◌, eq-eqb}
use Rattle.std.specs.Option.{option_and_then, option_or}
use Rattle.std.proofs.lemmas.Bool.{and_parts, not-true}
use Rattle.std.specs.List.{AllByRecursion, list_any}
use Rattle.zre_values.specs.declared.peer_id.PeerId.{PeerId}
use Rattle.zre_peer.specs.declared.causes.Cause.{Cause}
use Rattle.zre_peer.specs.declared.causes.Cause.TheVariants as cause
use Rattle.zre_peer.specs.declared.causes.CloseWhy.TheVariants as close
use Rattle.zre_values.specs.declared.settings.Settings.{Settings as Config}
use Rattle.zre_journal.specs.Chronicle.{Mark, Closes, Ends, after}
use Rattle.zre_journal.specs.Connections.{open_ones, is_open, identity, runs, started, start_at, has_ended, is_end_of, is_same, other_with, others}
use Rattle.zre_journal.specs.Peers.{Life, lives, life}
use Rattle.zre_journal.specs.Proper.{IsProper}
use Rattle.zre_journal.specs.Arrivals.{taken_over, end_of_run}
use Rattle.zre_journal.proofs.KnownPeers.{end_all, ends_keep, same_id}
use Rattle.zre_journal.proofs.NumberedLists.{eqb-comm, found_passes, found_any, some_is, any_other, each_there, found_there}
use Rattle.zre_journal.proofs.ProperPeers.{has_started, run_known}

-- ---- one that runs no peer runs none after marks that start nothing

stays_ended : (h : Mark) (H : List Mark) (l : ℕ) → has_ended l H ≡ true → has_ended l (h ∷ H) ≡ true
stays_ended h H l e = by (is_end_of l h)
  where
    by : (b : Bool) → cond b true (has_ended l H) ≡ true
    by true = refl
    by false = e

pub idle_stays : (h : Mark) (H : List Mark) (c : ℕ) → start_at c h ≡ None → runs c H ≡ None → runs c (h ∷ H) ≡ None
idle_stays h H c s r = ap (λ o. option_and_then (λ l. cond (has_ended l (h ∷ H)) None (Some l)) (option_or o (started c H))) s ∙ by (started c H) refl
  where
    by : (o : Option ℕ) → started c H ≡ o → option_and_then (λ l. cond (has_ended l (h ∷ H)) None (Some l)) o ≡ None
    by None e = refl
    by (Some l) e = ended (has_ended l H) refl
      where
        ended : (b : Bool) → has_ended l H ≡ b → option_and_then (λ k. cond (has_ended k (h ∷ H)) None (Some k)) (Some l) ≡ None
        ended true w = let x : has_ended l (h ∷ H) ≡ true = stays_ended h H l w in rw x refl
        ended false w = let z : Some l ≡ None = sym (rw (e, w) refl) ∙ r in cc

-- marks that start nothing
abbrev pub AreNoStarts : List Mark → Type 0
AreNoStarts hs = AllByRecursion (λ h. (c : ℕ) → start_at c h ≡ None) hs

pub idle_after : (hs H : List Mark) (c : ℕ) → AreNoStarts hs → runs c H ≡ None → runs c (after hs H) ≡ None
idle_after [] H c n r = r
idle_after (h ∷ hs) H c n r = idle_after hs (h ∷ H) c n.1 (idle_stays h H c (n.0 c) r)

pub ends_start_none : (why : Cause) (vs : List Life) → AreNoStarts (end_all why vs)
ends_start_none why [] = tt
ends_start_none why (v ∷ vs) = (λ c. refl, ends_start_none why vs)

pub none_and_none : (hs ks : List Mark) → AreNoStarts hs → AreNoStarts ks → AreNoStarts (hs ++ ks)
none_and_none [] ks a b = b
none_and_none (h ∷ hs) ks a b = (a.0, none_and_none hs ks a.1 b)

-- ---- the run of a connection ends

-- then it runs no peer
pub idle_then : (g : Config) (H : List Mark) → IsProper H → (c : ℕ) (why : Cause) → runs c (after (end_of_run g (runs c H) why) H) ≡ None
idle_then g H p c why = by (runs c H) refl
  where
    by : (o : Option ℕ) → runs c H ≡ o → runs c (after (end_of_run g o why) H) ≡ None
    by None e = e
    by (Some l) e = let s = has_started H p c l e in let me : eqb l l ≡ true = eq-eqb l l refl in rw (s.0, me) refl

-- all that is known ends, and then no connection runs a peer
pub all_idle : (H : List Mark) → IsProper H → (why : Cause) (c : ℕ) → runs c (after (end_all why (lives H)) H) ≡ None
all_idle H p why c = by (runs c H) refl
  where
    started_same : (vs : List Life) (K : List Mark) → started c (after (end_all why vs) K) ≡ started c K
    started_same vs K = ends_keep (λ J. started c J ≡ started c K) (λ l w J e. e) why vs K refl

    ended_before : (l : ℕ) (vs : List Life) (K : List Mark) → has_ended l K ≡ true → has_ended l (after (end_all why vs) K) ≡ true
    ended_before l vs K e = ends_keep (λ J. has_ended l J ≡ true) (λ k w J x. stays_ended (Ends k w) J l x) why vs K e

    ended_now : (l : ℕ) (vs : List Life) (K : List Mark) → list_any (λ (v : Life). eqb l v.link) vs ≡ true → has_ended l (after (end_all why vs) K) ≡ true
    ended_now l [] K e = cc
    ended_now l (v ∷ vs) K e = at (ended_now l vs (Ends v.link why ∷ K)) (eqb l v.link) refl e
      where
        at : (list_any (λ (u : Life). eqb l u.link) vs ≡ true → has_ended l (after (end_all why vs) (Ends v.link why ∷ K)) ≡ true) → (b : Bool) → eqb l v.link ≡ b → (b || list_any (λ (u : Life). eqb l u.link) vs) ≡ true → has_ended l (after (end_all why vs) (Ends v.link why ∷ K)) ≡ true
        at r true q z = ended_before l vs (Ends v.link why ∷ K) (rw q refl)
        at r false q z = r z

    by : (o : Option ℕ) → runs c H ≡ o → runs c (after (end_all why (lives H)) H) ≡ None
    by None e = idle_after (end_all why (lives H)) H c (ends_start_none why (lives H)) e
    by (Some l) e =
        let s = has_started H p c l e in
        let v = some_is (life l H) (run_known H p c l e) in
        let gone = ended_now l (lives H) H (found_any (λ (u : Life). eqb l u.link) (lives H) v.0 v.1) in
        rw (started_same (lives H) H ∙ s.0, gone) refl

-- ---- another of the same identity

-- what is found is open
pub other_open : (p : PeerId) (c d : ℕ) (H : List Mark) → other_with p c H ≡ Some d → is_open d H ≡ true
other_open p c d H e = found_there (λ x. not (eqb c x) && is_same p (identity x H)) d (open_ones H) e

-- one with the identity of p
is_its : (p : PeerId) (d : ℕ) (H : List Mark) → is_same p (identity d H) ≡ true → identity d H ≡ Some p
is_its p d H e = by (identity d H) refl e
  where
    by : (o : Option PeerId) → identity d H ≡ o → is_same p o ≡ true → o ≡ Some p
    by None q k = cc
    by (Some r) q k = ap (λ (x : PeerId). Some x) (same_id p r k)

-- nothing else is found where the one that is found goes
gone : (f : ℕ → Bool) (d : ℕ) (cs : List ℕ) → AllByRecursion (λ e. f e ≡ true → e ≡ d) cs → find f (others d cs) ≡ None
gone f d [] a = refl
gone f d (x ∷ cs) a = by (gone f d cs a.1) (eqb d x) refl
  where
    by : find f (others d cs) ≡ None → (b : Bool) → eqb d x ≡ b → find f (others d (x ∷ cs)) ≡ None
    by r true q = rw q r
    by r false q = rw q (passed (f x) refl)
      where
        passed : (b : Bool) → f x ≡ b → cond b (Some x) (find f (others d cs)) ≡ None
        passed true k = let same : x ≡ d = a.0 k in let z : true ≡ false = sym (eq-eqb d x (sym same)) ∙ q in cc
        passed false k = r

-- of these alone is the one that was found
all_that : (H : List Mark) → IsProper H → (p : PeerId) (c d : ℕ) → other_with p c H ≡ Some d → AllByRecursion (λ e. (not (eqb c e) && is_same p (identity e H)) ≡ true → e ≡ d) (open_ones H)
all_that H q p c d f =
    let t : ℕ → Bool = λ x. not (eqb c x) && is_same p (identity x H) in
    let passes = and_parts (not (eqb c d)) (is_same p (identity d H)) (found_passes t (open_ones H) d f) in
    each_there (λ e. t e ≡ true → e ≡ d) (open_ones H) (λ e o k. q.running.is_sole e d p o (other_open p c d H f) (is_its p e H (and_parts (not (eqb c e)) (is_same p (identity e H)) k).1) (is_its p d H passes.1))

-- then there is no other, and c is as before
pub record GaveWay (p : PeerId) (c : ℕ) (H K : List Mark) : Type 0 where
  pub alone : other_with p c K ≡ None
  pub same_open : is_open c K ≡ is_open c H
  pub same_identity : identity c K ≡ identity c H

pub gave_way : (g : Config) (H : List Mark) → IsProper H → (p : PeerId) (c : ℕ) (o : Option ℕ) → other_with p c H ≡ o → is_open c H ≡ true → GaveWay p c H (after (taken_over g o H) H)
gave_way g H q p c None e there = record { alone = e; same_open = refl; same_identity = refl }
gave_way g H q p c (Some d) e is_there = by (runs d H)
  where
    t : ℕ → Bool
    t = λ x. not (eqb c x) && is_same p (identity x H)

    far : eqb d c ≡ false
    far = eqb-comm d c ∙ not-true (eqb c d) (and_parts (not (eqb c d)) (is_same p (identity d H)) (found_passes t (open_ones H) d e)).0

    none : find t (others d (open_ones H)) ≡ None
    none = gone t d (open_ones H) (all_that H q p c d e)

    left : list_any (eqb c) (others d (open_ones H)) ≡ list_any (eqb c) (open_ones H)
    left = any_other d c far (open_ones H) is_there ∙ sym is_there

    by : (r : Option ℕ) → GaveWay p c H (after (end_of_run g r cause.Taken ++ Closes d close.Taken ∷ []) H)
    by None = record { alone = none; same_open = left; same_identity = refl }
    by (Some l) = record { alone = none; same_open = left; same_identity = refl }

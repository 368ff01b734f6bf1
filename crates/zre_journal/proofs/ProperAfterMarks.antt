-- What each mark leaves of a proper chronicle.
use Rattle.std.proofs.Common.{◌≡◌, ℕ, ◌+◌, ◌<◌, ◌≤◌, Bool, true, false, cond, not, ◌||◌, ◌&&◌, eqb, ltb, List, [], ◌∷◌, ◌++◌, Option, Some, None, IsSome, refl, sym, ap, ◌∙◌, arith, eqb-true, eq-eqb, ne_eqb, ltb-true, lt-ltb, subst, find}
use Rattle.std.proofs.lemmas.Bool.{and_parts, and_from}
use Rattle.std.specs.List.{AllByRecursion, list_any}
use Rattle.std.specs.Str.{bytes_eq}
use Rattle.zre_values.specs.declared.peer_id.PeerId.{PeerId}
use Rattle.zre_values.specs.declared.endpoint.Endpoint.{Endpoint}
use Rattle.zre_msg.specs.declared.message.Body.{Body}
use Rattle.zre_msg.specs.declared.message.Message.{Message}
use Rattle.zre_peer.specs.declared.causes.Cause.{Cause}
use Rattle.zre_peer.specs.declared.causes.CloseWhy.{CloseWhy}
use Rattle.zre_peer.specs.declared.causes.IgnoreWhy.{IgnoreWhy}
use Rattle.zre_values.proofs.Digits.{bytes_eq-same}
use Rattle.zre_journal.specs.Chronicle.{Mark, Opens, TurnsAway, Identifies, Starts, Counts, Ignores, Closes, IsShut, ClosesAtStop, Born, Ends, Puts}
use Rattle.zre_journal.specs.Heard.{was_opened}
use Rattle.zre_journal.specs.Connections.{open_ones, is_open, is_new, identity, started, has_ended, runs, other_with, is_same, others}
use Rattle.zre_journal.specs.Peers.{Life, lives, births, life, runner, counted, other_lives}
use Rattle.zre_journal.specs.Proper.{IsProper, AreOpen, AreRuns, IsUnused, IsUnheard}
use Rattle.zre_journal.proofs.NumberedLists.{eqb-comm, some_is, All-kept, All-append, All-map, found_before, Apart-append, Apart-kept, others_find, any_append, any_of_append, any_left, any_other}
use Rattle.zre_journal.proofs.ProperPeers.{living_still, opening_still}
pub use Rattle.zre_journal.proofs.ProperPeers.{known_lives, open_is_old, has_started, run_known, run_is, runner_runs, HearsBeacon-proper, Greets-proper, AnswersPing-proper, IsEvasive-proper, Joins-proper, Leaves-proper, Refuses-proper, SendsBeacon-proper, Stops-proper, Comes-proper, Puts-proper, PutsPong-proper, Links-proper, Sends-proper}

-- ---- an end

module _ (H : List Mark) (p : IsProper H) (l : ℕ) (why : Cause) (low : l ≤ births H) where
  -- the other lives haven't ended
  still : (vs : List Life) → AllByRecursion (λ (v : Life). has_ended v.link H ≡ false) vs → AllByRecursion (λ (v : Life). has_ended v.link (Ends l why ∷ H) ≡ false) (other_lives l vs)
  still [] h = tt
  still (v ∷ vs) h = by (still vs h.1) (eqb l v.link) refl
    where
      by : AllByRecursion (λ (v : Life). has_ended v.link (Ends l why ∷ H) ≡ false) (other_lives l vs) → (b : Bool) → eqb l v.link ≡ b → AllByRecursion (λ (v : Life). has_ended v.link (Ends l why ∷ H) ≡ false) (other_lives l (v ∷ vs))
      by r true q = rw q r
      by r false q = rw q (rw (eqb-comm v.link l, q) h.0, r)

  was : (k : ℕ) → has_ended k (Ends l why ∷ H) ≡ false → has_ended k H ≡ false
  was k n = by (eqb k l) n
    where
      by : (b : Bool) → cond b true (has_ended k H) ≡ false → has_ended k H ≡ false
      by true e = cc
      by false e = e

  other : (k : ℕ) → has_ended k (Ends l why ∷ H) ≡ false → eqb l k ≡ false
  other k n = by (eqb k l) refl n
    where
      by : (b : Bool) → eqb k l ≡ b → cond b true (has_ended k H) ≡ false → eqb l k ≡ false
      by true q e = cc
      by false q e = eqb-comm l k ∙ q

  same_life : (k : ℕ) → has_ended k (Ends l why ∷ H) ≡ false → life k (Ends l why ∷ H) ≡ life k H
  same_life k n = others_find (λ (v : Life). v.link) l k (other k n) (lives H)

  pub Ends-proper : IsProper (Ends l why ∷ H)
  Ends-proper = record {
    living = record {
      numbered = All-kept (λ (v : Life). v.link ≤ births H) (λ (v : Life). not (eqb l v.link)) (lives H) p.living.numbered;
      apart = Apart-kept (λ (v : Life). v.link) (λ (v : Life). not (eqb l v.link)) (lives H) p.living.apart;
      living = still (lives H) p.living.living;
      fresh = λ k h. let above : eqb k l ≡ false = ne_eqb k l (λ e. omega arith) in let u = p.living.fresh k h in
          record { no_end = rw above u.no_end; no_run = u.no_run; no_member = u.no_member; not_linked = u.not_linked; no_reply = u.no_reply; none_taken = u.none_taken };
    };
    opening = p.opening;
    running = record {
      one_run = λ c k s n. p.running.one_run c k s (was k n);
      in_life = λ c k s n. subst IsSome (sym (same_life k n)) (p.running.in_life c k s (was k n));
      its_run = λ c k s n. p.running.its_run c k s (was k n);
      is_introduced = p.running.is_introduced;
      is_silent = p.running.is_silent;
      is_its_own = λ c k v r n f. p.running.is_its_own c k v r (was k n) (sym (same_life k n) ∙ f);
      is_heard = λ c k r n. p.running.is_heard c k r (was k n);
      is_sole = p.running.is_sole;
    };
  }

-- ---- a birth, with HELLO

abbrev pub newborn : ℕ → PeerId → Endpoint → Life
newborn n p e = record { link = n; id = p; endpoint = e }

abbrev pub born : PeerId → Endpoint → Body → List Mark → List Mark
born p e b H = Puts (births H + 1) b ∷ Born (births H + 1) p e ∷ H

module _ (H : List Mark) (q : IsProper H) (p : PeerId) (e : Endpoint) (b : Body) where
  unused : (k : ℕ) → births H + 1 < k → IsUnused k H → IsUnused k (born p e b H)
  unused k h u = let above : eqb k (births H + 1) ≡ false = ne_eqb k (births H + 1) (λ z. omega arith) in
      record { no_end = u.no_end; no_run = u.no_run; no_member = rw above u.no_member; not_linked = u.not_linked; no_reply = u.no_reply; none_taken = u.none_taken }

  kept_life : (k : ℕ) (v : Life) → life k H ≡ Some v → life k (born p e b H) ≡ Some v
  kept_life k v f = found_before (λ (u : Life). eqb k u.link) (lives H) (newborn (births H + 1) p e ∷ []) v f

  pub born-proper : IsProper (born p e b H)
  born-proper = record {
    living = record {
      numbered = All-append (λ (v : Life). v.link ≤ births H + 1) (lives H) (newborn (births H + 1) p e)
          (All-map (λ (v : Life). v.link ≤ births H) (λ (v : Life). v.link ≤ births H + 1) (λ v h. omega arith) (lives H) q.living.numbered) (omega arith);
      apart = Apart-append (λ (v : Life). v.link) (newborn (births H + 1) p e) (lives H)
          (All-map (λ (v : Life). v.link ≤ births H) (λ (v : Life). v.link < births H + 1) (λ v h. omega arith) (lives H) q.living.numbered) q.living.apart;
      living = All-append (λ (v : Life). has_ended v.link H ≡ false) (lives H) (newborn (births H + 1) p e) q.living.living
          (q.living.fresh (births H + 1) (omega arith)).no_end;
      fresh = λ k h. unused k h (q.living.fresh k (omega arith));
    };
    opening = q.opening;
    running = record {
      one_run = q.running.one_run;
      in_life = λ c k s n. let v = some_is (life k H) (q.running.in_life c k s n) in rw (kept_life k v.0 v.1) refl;
      its_run = q.running.its_run;
      is_introduced = q.running.is_introduced;
      is_silent = q.running.is_silent;
      is_its_own = λ c k v r n f.
          let old = some_is (life k H) (q.running.in_life c k (q.running.its_run c k r n) n) in
          let z : Some old.0 ≡ Some v = sym (kept_life k old.0 old.1) ∙ f in
          let same : old.0 ≡ v = cc in
          q.running.is_its_own c k v r n (old.1 ∙ ap (λ (u : Life). Some u) same);
      is_heard = q.running.is_heard;
      is_sole = q.running.is_sole;
    };
  }

-- ---- connections open and close

module _ (H : List Mark) (p : IsProper H) (c : ℕ) where
  opened_at : (d : ℕ) → was_opened d H ≡ true → was_opened d (Opens c ∷ H) ≡ true
  opened_at d o = by (eqb d c)
    where
      by : (b : Bool) → cond b true (was_opened d H) ≡ true
      by true = refl
      by false = o

  -- the runs, where other connections are open: those that run, and of those with an identity none that was not
  still_run : (cs : List ℕ) → ((d l : ℕ) → runner l H ≡ Some d → has_ended l H ≡ false → list_any (eqb d) cs ≡ true) → ((d : ℕ) (q : PeerId) → list_any (eqb d) cs ≡ true → identity d H ≡ Some q → list_any (eqb d) (open_ones H) ≡ true)
      → AreRuns (lives H) cs (λ l. has_ended l H) (λ l. runner l H) (λ d. started d H) (λ d. identity d H) (λ l. counted l H)
  still_run cs heard there = record {
    one_run = p.running.one_run;
    in_life = p.running.in_life;
    its_run = p.running.its_run;
    is_introduced = p.running.is_introduced;
    is_silent = p.running.is_silent;
    is_its_own = p.running.is_its_own;
    is_heard = heard;
    is_sole = λ d e q a b x y. p.running.is_sole d e q (there d q a x) (there e q b y) x y;
  }

  pub Opens-proper : is_new c H ≡ true → IsProper (Opens c ∷ H)
  Opens-proper new = record {
    living = p.living;
    opening = record {
      open_apart = Apart-append (λ (d : ℕ). d) c (open_ones H) (p.opening.open_old c new) p.opening.open_apart;
      open_old = λ d n. let q = and_parts (ltb c d) (is_new d H) n in All-append (λ e. e < d) (open_ones H) c (p.opening.open_old d q.1) (ltb-true c d q.0);
      were_opened = All-append (λ d. was_opened d (Opens c ∷ H) ≡ true) (open_ones H) c
          (All-map (λ d. was_opened d H ≡ true) (λ d. was_opened d (Opens c ∷ H) ≡ true) opened_at (open_ones H) p.opening.were_opened)
          (let me : eqb c c ≡ true = eq-eqb c c refl in rw me refl);
      rises = λ d e n b. let q = and_parts (ltb c d) (is_new d H) n in let less : c < d = ltb-true c d q.0 in and_from (ltb c e) (is_new e H) (lt-ltb c e (omega arith)) (p.opening.rises d e q.1 b);
      unheard = λ d n. let q = and_parts (ltb c d) (is_new d H) n in let less : c < d = ltb-true c d q.0 in let far : eqb d c ≡ false = ne_eqb d c (λ e. omega arith) in
          let u = p.opening.unheard d q.1 in record { not_opened = rw far u.not_opened; not_refused = u.not_refused; not_started = u.not_started; unknown = u.unknown; no_octets = u.no_octets };
    };
    running = still_run (open_ones H ++ c ∷ []) (λ d l r n. any_append d c (open_ones H) (p.running.is_heard d l r n)) there;
  }
    where
      there : (d : ℕ) (q : PeerId) → list_any (eqb d) (open_ones H ++ c ∷ []) ≡ true → identity d H ≡ Some q → list_any (eqb d) (open_ones H) ≡ true
      there d q a x = by (eqb d c) refl
        where
          by : (b : Bool) → eqb d c ≡ b → list_any (eqb d) (open_ones H) ≡ true
          by true same = let u = p.opening.unheard c new in let z : None ≡ Some q = sym u.unknown ∙ ap (λ m. identity m H) (sym (eqb-true d c same)) ∙ x in cc
          by false another = any_of_append d c (open_ones H) another a

  pub TurnsAway-proper : IsProper (TurnsAway c ∷ H)
  TurnsAway-proper = record {
    living = p.living;
    opening = record {
      open_apart = p.opening.open_apart;
      open_old = λ d n. p.opening.open_old d (and_parts (ltb c d) (is_new d H) n).1;
      were_opened = p.opening.were_opened;
      rises = λ d e n b. let q = and_parts (ltb c d) (is_new d H) n in let less : c < d = ltb-true c d q.0 in and_from (ltb c e) (is_new e H) (lt-ltb c e (omega arith)) (p.opening.rises d e q.1 b);
      unheard = λ d n. p.opening.unheard d (and_parts (ltb c d) (is_new d H) n).1;
    };
    running = p.running;
  }

  -- the others, after a closing of one that runs no peer
  closing : runs c H ≡ None → AreOpen (others c (open_ones H)) (λ d. is_new d H) (λ d. was_opened d H) (λ d. IsUnheard d H)
      × AreRuns (lives H) (others c (open_ones H)) (λ l. has_ended l H) (λ l. runner l H) (λ d. started d H) (λ d. identity d H) (λ l. counted l H)
  closing idle = (
    record {
      open_apart = Apart-kept (λ (d : ℕ). d) (λ d. not (eqb c d)) (open_ones H) p.opening.open_apart;
      open_old = λ d n. All-kept (λ e. e < d) (λ e. not (eqb c e)) (open_ones H) (p.opening.open_old d n);
      were_opened = All-kept (λ d. was_opened d H ≡ true) (λ d. not (eqb c d)) (open_ones H) p.opening.were_opened;
      rises = p.opening.rises;
      unheard = p.opening.unheard;
    },
    still_run (others c (open_ones H)) (λ d l r n. any_other c d (another d l r n) (open_ones H) (p.running.is_heard d l r n)) (λ d q a x. any_left c d (open_ones H) a),
  )
    where
      another : (d l : ℕ) → runner l H ≡ Some d → has_ended l H ≡ false → eqb c d ≡ false
      another d l r n = ne_eqb c d (λ same. let z : Some l ≡ None = sym (runner_runs H p d l r n) ∙ ap (λ m. runs m H) (sym same) ∙ idle in cc)

  pub Closes-proper : (why : CloseWhy) → runs c H ≡ None → IsProper (Closes c why ∷ H)
  Closes-proper why idle = record { living = p.living; opening = (closing idle).0; running = (closing idle).1 }

  pub IsShut-proper : runs c H ≡ None → IsProper (IsShut c ∷ H)
  IsShut-proper idle = record { living = p.living; opening = (closing idle).0; running = (closing idle).1 }

  pub ClosesAtStop-proper : runs c H ≡ None → IsProper (ClosesAtStop c ∷ H)
  ClosesAtStop-proper idle = record { living = p.living; opening = (closing idle).0; running = (closing idle).1 }

  -- ---- a first message is refused

  pub Ignores-proper : (why : IgnoreWhy) → is_open c H ≡ true → IsProper (Ignores c why ∷ H)
  Ignores-proper why o = record {
    living = p.living;
    opening = opening_still H p (λ d. IsUnheard d (Ignores c why ∷ H)) (λ d n u. let far : eqb d c ≡ false = open_is_old H p c d o n in
        record { not_opened = u.not_opened; not_refused = rw far u.not_refused; not_started = u.not_started; unknown = u.unknown; no_octets = u.no_octets });
    running = p.running;
  }

-- ---- READY

none_with : (p : PeerId) (c : ℕ) (H : List Mark) (cs : List ℕ) → find (λ d. not (eqb c d) && is_same p (identity d H)) cs ≡ None
    → (d : ℕ) → list_any (eqb d) cs ≡ true → eqb c d ≡ false → identity d H ≡ Some p → bytes_eq p.0 p.0 ≡ true → ⊥
none_with p c H [] e d o f x me = cc
none_with p c H (y ∷ ys) e d o f x me = by (λ k q. none_with p c H ys k d q f x me) (eqb d y) refl o e
  where
    by : (find (λ d. not (eqb c d) && is_same p (identity d H)) ys ≡ None → list_any (eqb d) ys ≡ true → ⊥) → (b : Bool) → eqb d y ≡ b → (b || list_any (eqb d) ys) ≡ true
        → cond (not (eqb c y) && is_same p (identity y H)) (Some y) (find (λ d. not (eqb c d) && is_same p (identity d H)) ys) ≡ None → ⊥
    by r true q k z = let same : d ≡ y = eqb-true d y q in
        let far2 : eqb c y ≡ false = subst (λ m. eqb c m ≡ false) same f in
        let x2 : identity y H ≡ Some p = subst (λ m. identity m H ≡ Some p) same x in
        let w : Some y ≡ None = rw (far2, x2, me) at z in cc
    by r false q k z = rest (not (eqb c y) && is_same p (identity y H)) z
      where
        rest : (b : Bool) → cond b (Some y) (find (λ d. not (eqb c d) && is_same p (identity d H)) ys) ≡ None → ⊥
        rest true w = cc
        rest false w = r w k

module _ (H : List Mark) (q : IsProper H) (c : ℕ) (p : PeerId) (o : is_open c H ≡ true) (unknown : identity c H ≡ None) (alone : other_with p c H ≡ None) where
  -- it has started no run yet
  no_start : started c H ≡ None
  no_start = by (started c H) refl
    where
      by : (s : Option ℕ) → started c H ≡ s → s ≡ None
      by None e = refl
      by (Some l) e = let w = some_is (identity c H) (q.running.is_introduced c l e) in let z : None ≡ Some w.0 = sym unknown ∙ w.1 in cc

  not_started : (d l : ℕ) → started d H ≡ Some l → eqb d c ≡ false
  not_started d l s = ne_eqb d c (λ same. let z : Some l ≡ None = sym s ∙ ap (λ m. started m H) same ∙ no_start in cc)

  at_other : (d : ℕ) → eqb d c ≡ false → identity d (Identifies c p ∷ H) ≡ identity d H
  at_other d far = rw far refl

  -- who has the identity, here or elsewhere
  pub Identifies-proper : IsProper (Identifies c p ∷ H)
  Identifies-proper = record {
    living = q.living;
    opening = opening_still H q (λ d. IsUnheard d (Identifies c p ∷ H)) (λ d n u. record { not_opened = u.not_opened; not_refused = u.not_refused; not_started = u.not_started; unknown = at_other d (open_is_old H q c d o n) ∙ u.unknown; no_octets = u.no_octets });
    running = record {
      one_run = q.running.one_run;
      in_life = q.running.in_life;
      its_run = q.running.its_run;
      is_introduced = λ d l s. subst IsSome (sym (at_other d (not_started d l s))) (q.running.is_introduced d l s);
      is_silent = q.running.is_silent;
      is_its_own = λ d l v r n f. at_other d (not_started d l (q.running.its_run d l r n)) ∙ q.running.is_its_own d l v r n f;
      is_heard = q.running.is_heard;
      is_sole = sole;
    };
  }
    where
      me : bytes_eq p.0 p.0 ≡ true
      me = bytes_eq-same p.0 p.0 refl

      sole : (d e : ℕ) (r : PeerId) → list_any (eqb d) (open_ones H) ≡ true → list_any (eqb e) (open_ones H) ≡ true → identity d (Identifies c p ∷ H) ≡ Some r → identity e (Identifies c p ∷ H) ≡ Some r → d ≡ e
      sole d e r a b = by (eqb d c) refl (eqb e c) refl
        where
          clash : (y : ℕ) → eqb y c ≡ false → list_any (eqb y) (open_ones H) ≡ true → identity y H ≡ Some p → ⊥
          clash y far there x = none_with p c H (open_ones H) alone y there (eqb-comm c y ∙ far) x me

          by : (s : Bool) → eqb d c ≡ s → (t : Bool) → eqb e c ≡ t → identity d (Identifies c p ∷ H) ≡ Some r → identity e (Identifies c p ∷ H) ≡ Some r → d ≡ e
          by true s true t x y = eqb-true d c s ∙ sym (eqb-true e c t)
          by true s false t x y = let z : Some p ≡ Some r = rw s at x in let same : p ≡ r = cc in absurd (clash e t b (sym (at_other e t) ∙ y ∙ ap (λ (w : PeerId). Some w) (sym same)))
          by false s true t x y = let z : Some p ≡ Some r = rw t at y in let same : p ≡ r = cc in absurd (clash d s a (sym (at_other d s) ∙ x ∙ ap (λ (w : PeerId). Some w) (sym same)))
          by false s false t x y = q.running.is_sole d e r a b (sym (at_other d s) ∙ x) (sym (at_other e t) ∙ y)

-- ---- a run starts

module _ (H : List Mark) (q : IsProper H) (c l : ℕ) (m : Message) (v : Life) (o : is_open c H ≡ true) (idle : started c H ≡ None) (k : life l H ≡ Some v) (who : identity c H ≡ Some v.id) (free : runner l H ≡ None) where
  here : eqb c c ≡ true
  here = eq-eqb c c refl

  this : eqb l l ≡ true
  this = eq-eqb l l refl

  start_else : (d : ℕ) → eqb d c ≡ false → started d (Starts c l m ∷ H) ≡ started d H
  start_else d far = rw far refl

  run_else : (j : ℕ) → eqb j l ≡ false → runner j (Starts c l m ∷ H) ≡ runner j H
  run_else j far = rw far refl

  start_here : started c (Starts c l m ∷ H) ≡ Some l
  start_here = rw here refl

  run_here : runner l (Starts c l m ∷ H) ≡ Some c
  run_here = rw this refl

  -- a run of a peer is this one, or an older one of another connection
  pub data OfRun (d j : ℕ) : Type 0 where
    Here : d ≡ c → j ≡ l → OfRun d j
    Before : eqb d c ≡ false → eqb j l ≡ false → runner j H ≡ Some d → OfRun d j

  pub started_by : (d j : ℕ) → started d (Starts c l m ∷ H) ≡ Some j → has_ended j H ≡ false → OfRun d j
  started_by d j s n = by (eqb d c) refl
    where
      by : (b : Bool) → eqb d c ≡ b → OfRun d j
      by true e = let same : d ≡ c = eqb-true d c e in let z : Some l ≡ Some j = sym start_here ∙ ap (λ x. started x (Starts c l m ∷ H)) (sym same) ∙ s in Here same (let w : l ≡ j = cc in sym w)
      by false e = let r = q.running.one_run d j (sym (start_else d e) ∙ s) n in Before e (ne_eqb j l (λ same. let z : Some d ≡ None = sym r ∙ ap (λ x. runner x H) same ∙ free in cc)) r

  pub run_by : (d j : ℕ) → runner j (Starts c l m ∷ H) ≡ Some d → has_ended j H ≡ false → OfRun d j
  run_by d j r n = by (eqb j l) refl
    where
      by : (b : Bool) → eqb j l ≡ b → OfRun d j
      by true e = let same : j ≡ l = eqb-true j l e in let z : Some c ≡ Some d = sym run_here ∙ ap (λ x. runner x (Starts c l m ∷ H)) (sym same) ∙ r in Here (let w : c ≡ d = cc in sym w) same
      by false e = let old = sym (run_else j e) ∙ r in let s = q.running.its_run d j old n in
          Before (ne_eqb d c (λ same. let z : Some j ≡ None = sym s ∙ ap (λ x. started x H) same ∙ idle in cc)) e old

  pub Starts-proper : IsProper (Starts c l m ∷ H)
  Starts-proper = record {
    living = living_still H q (λ j. IsUnused j (Starts c l m ∷ H)) (λ j h u. let low = (known_lives H q l v k).1 in let far : eqb j l ≡ false = ne_eqb j l (λ e. omega arith) in
        record { no_end = u.no_end; no_run = run_else j far ∙ u.no_run; no_member = u.no_member; not_linked = u.not_linked; no_reply = u.no_reply; none_taken = u.none_taken });
    opening = opening_still H q (λ d. IsUnheard d (Starts c l m ∷ H)) (λ d n u. record { not_opened = u.not_opened; not_refused = u.not_refused; not_started = start_else d (open_is_old H q c d o n) ∙ u.not_started; unknown = u.unknown; no_octets = u.no_octets });
    running = record {
      one_run = λ d j s n. one d j (started_by d j s n);
      in_life = λ d j s n. life_of d j n s (started_by d j s n);
      its_run = λ d j r n. its d j n (run_by d j r n);
      is_introduced = introduced;
      is_silent = silent;
      is_its_own = λ d j u r n f. own d j u n f (run_by d j r n);
      is_heard = λ d j r n. heard d j n (run_by d j r n);
      is_sole = q.running.is_sole;
    };
  }
    where
      one : (d j : ℕ) → OfRun d j → runner j (Starts c l m ∷ H) ≡ Some d
      one d j (Here e f) = ap (λ x. runner x (Starts c l m ∷ H)) f ∙ run_here ∙ ap (λ x. Some x) (sym e)
      one d j (Before e f r) = run_else j f ∙ r

      life_of : (d j : ℕ) → has_ended j H ≡ false → started d (Starts c l m ∷ H) ≡ Some j → OfRun d j → IsSome (life j H)
      life_of d j n s (Here e f) = rw (ap (λ x. life x H) f ∙ k) refl
      life_of d j n s (Before e f r) = q.running.in_life d j (sym (start_else d e) ∙ s) n

      its : (d j : ℕ) → has_ended j H ≡ false → OfRun d j → started d (Starts c l m ∷ H) ≡ Some j
      its d j n (Here e f) = ap (λ x. started x (Starts c l m ∷ H)) e ∙ start_here ∙ ap (λ x. Some x) (sym f)
      its d j n (Before e f r) = start_else d e ∙ q.running.its_run d j r n

      introduced : (d j : ℕ) → started d (Starts c l m ∷ H) ≡ Some j → IsSome (identity d H)
      introduced d j s = by (eqb d c) refl
        where
          by : (b : Bool) → eqb d c ≡ b → IsSome (identity d H)
          by true e = rw (ap (λ x. identity x H) (eqb-true d c e) ∙ who) refl
          by false e = q.running.is_introduced d j (sym (start_else d e) ∙ s)

      silent : (j : ℕ) → runner j (Starts c l m ∷ H) ≡ None → counted j (Starts c l m ∷ H) ≡ []
      silent j r = by (eqb j l) refl
        where
          by : (b : Bool) → eqb j l ≡ b → counted j (Starts c l m ∷ H) ≡ []
          by true e = let z : Some c ≡ None = sym run_here ∙ ap (λ x. runner x (Starts c l m ∷ H)) (sym (eqb-true j l e)) ∙ r in cc
          by false e = rw e (q.running.is_silent j (sym (run_else j e) ∙ r))

      own : (d j : ℕ) (u : Life) → has_ended j H ≡ false → life j H ≡ Some u → OfRun d j → identity d H ≡ Some u.id
      own d j u n f (Here e g) = let z : Some v ≡ Some u = sym k ∙ ap (λ x. life x H) (sym g) ∙ f in let same : v ≡ u = cc in ap (λ x. identity x H) e ∙ who ∙ ap (λ (w : Life). Some w.id) same
      own d j u n f (Before e g r) = q.running.is_its_own d j u r n f

      heard : (d j : ℕ) → has_ended j H ≡ false → OfRun d j → list_any (eqb d) (open_ones H) ≡ true
      heard d j n (Here e f) = subst (λ x. list_any (eqb x) (open_ones H) ≡ true) (sym e) o
      heard d j n (Before e f r) = q.running.is_heard d j r n

-- ---- a message is counted

module _ (H : List Mark) (q : IsProper H) (c l : ℕ) (m : Message) (r : runs c H ≡ Some l) where
  pub Counts-proper : IsProper (Counts c l m ∷ H)
  Counts-proper = record {
    living = q.living;
    opening = q.opening;
    running = record {
      one_run = q.running.one_run;
      in_life = q.running.in_life;
      its_run = q.running.its_run;
      is_introduced = q.running.is_introduced;
      is_silent = λ j n. silent j n;
      is_its_own = q.running.is_its_own;
      is_heard = q.running.is_heard;
      is_sole = q.running.is_sole;
    };
  }
    where
      silent : (j : ℕ) → runner j H ≡ None → counted j (Counts c l m ∷ H) ≡ []
      silent j n = by (eqb j l) refl
        where
          by : (b : Bool) → eqb j l ≡ b → counted j (Counts c l m ∷ H) ≡ []
          by true e = let z : Some c ≡ None = sym (run_is H q c l r) ∙ ap (λ x. runner x H) (sym (eqb-true j l e)) ∙ n in cc
          by false e = rw e (q.running.is_silent j n)

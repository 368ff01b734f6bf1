-- Laws of every chronicle, from its being proper and from when marks may come.
use Rattle.std.proofs.Common.{◌≡◌, ℕ, ◌<◌, ◌≤◌, Bool, true, false, cond, eqb, List, [], ◌∷◌, ◌++◌, length, Some, None, filter, refl, sym, ap, ◌∙◌, arith, eqb-true, eq-eqb, subst}
use Rattle.std.specs.Option.{option_or}
use Rattle.zre_msg.specs.declared.message.Message.{Message}
use Rattle.zre_outside.specs.declared.entry.Entry.{Entry}
use Rattle.zre_peer.specs.Runs.{may_follow, is_hello, due, in_order}
use Rattle.zre_peer.specs.Views.{view_of, is_small}
use Rattle.zre_peer.proofs.RunsAfterMessages.{in_order-push}
use Rattle.zre_values.specs.declared.settings.Settings.{Settings as Config}
use Rattle.zre_journal.specs.Chronicle.{Mark, Starts, Counts, Ends, ever, followed}
use Rattle.zre_journal.specs.Connections.{is_end_of, has_ended, started}
use Rattle.zre_journal.specs.Peers.{life, runner, counted}
use Rattle.zre_journal.specs.Events.{chronicle}
use Rattle.zre_journal.specs.Proper.{IsProper}
use Rattle.zre_journal.specs.Laws.{RunsAlone, AreStrangers, EndsOnce, counted_on, ShowsItsMessages}
use Rattle.zre_journal.proofs.ProperChronicles.{always, is_proper}
use Rattle.zre_journal.proofs.ProperAfterMarks.{known_lives, has_started, run_known, run_is, runner_runs}
use Rattle.zre_journal.proofs.NumberedLists.{some_is}
use Rattle.zre_journal.proofs.WhenMarksCome.{May}

-- ---- runs and identities

pub runs_alone : (H : List Mark) → IsProper H → RunsAlone H
runs_alone H p = record {
  no_other = λ c d l r s. let z : Some c ≡ Some d = sym (run_is H p c l r) ∙ run_is H p d l s in cc;
  is_there = λ c l r. p.running.is_heard c l (run_is H p c l r) (has_started H p c l r).1;
  its_own = λ c l r. let v = some_is (life l H) (run_known H p c l r) in (v.0, v.1, p.running.is_its_own c l v.0 (run_is H p c l r) (has_started H p c l r).1 v.1);
}

pub are_strangers : (H : List Mark) → IsProper H → AreStrangers H
are_strangers H p c d i a b x y = p.running.is_sole c d i a b x y

-- ---- ends

never : (t : Mark → Bool) (H : List Mark) → ever t H ≡ false → filter t H ≡ []
never t [] e = refl
never t (h ∷ H) e = by (never t H) (t h) e
  where
    by : (ever t H ≡ false → filter t H ≡ []) → (b : Bool) → cond b true (ever t H) ≡ false → cond b (h ∷ filter t H) (filter t H) ≡ []
    by r true z = cc
    by r false z = r z

abbrev AtMostOnce : List Mark → Type 0
AtMostOnce H = (l : ℕ) → length (filter (is_end_of l) H) ≤ 1

once_more : (h : Mark) (H : List Mark) → IsProper H → May h H → AtMostOnce H → AtMostOnce (h ∷ H)
once_more (Ends k why) H p m o = λ l. by l (eqb l k) refl
  where
    alive : has_ended k H ≡ false
    alive = let v = some_is (life k H) m in (known_lives H p k v.0 v.1).0

    by : (l : ℕ) (b : Bool) → eqb l k ≡ b → length (cond b (Ends k why ∷ filter (is_end_of l) H) (filter (is_end_of l) H)) ≤ 1
    by l true e = let none : filter (is_end_of l) H ≡ [] = never (is_end_of l) H (ap (λ x. has_ended x H) (eqb-true l k e) ∙ alive) in rw none (omega arith)
    by l false e = o l
once_more _ H p m o = o

pub ends_once : (g : Config) (journal : List Entry) → EndsOnce (chronicle g journal)
ends_once g journal = record {
  one_end = always g AtMostOnce once_more (λ l. omega arith) journal;
  is_gone = λ l k. let v = some_is (life l (chronicle g journal)) k in (known_lives (chronicle g journal) (is_proper g journal) l v.0 v.1).0;
}

-- ---- messages, by connection

pub record IsTold (H : List Mark) : Type 0 where
  pub ordered : (c : ℕ) → in_order (counted_on c H) ≡ true
  pub unbegun : (c : ℕ) → started c H ≡ None → counted_on c H ≡ []
  pub begun : (c l : ℕ) → started c H ≡ Some l → 0 < length (counted_on c H)
  pub whose : (c l : ℕ) → runner l H ≡ Some c → started c H ≡ Some l
  pub same : (c l : ℕ) → runner l H ≡ Some c → counted l H ≡ counted_on c H

-- one that may come after others: not HELLO, of the due number, within the limits
follows : (ms : List Message) (m : Message) → 0 < length ms → is_hello m.body ≡ false → eqb m.sequence (due ms) ≡ true → is_small (view_of (ms ++ m ∷ [])) ≡ true → may_follow ms m ≡ true
follows [] m n h d s = absurd (omega (arith, n))
follows (x ∷ xs) m n h d s = rw (h, d, s) refl

longer : (ms : List Message) (m : Message) → 0 < length (ms ++ m ∷ [])
longer [] m = omega arith
longer (x ∷ ms) m = omega arith

starting : (c l : ℕ) (m : Message) (H : List Mark) → IsTold H → started c H ≡ None → runner l H ≡ None → counted l H ≡ [] → may_follow [] m ≡ true → IsTold (Starts c l m ∷ H)
starting c l m H o idle free silent first = record {
  ordered = λ d. ordered d (eqb d c) refl;
  unbegun = λ d. unbegun d (eqb d c);
  begun = λ d k. begun d k (eqb d c) refl;
  whose = λ d k. whose d k (eqb k l) refl (eqb d c) refl;
  same = λ d k. same d k (eqb k l) refl (eqb d c) refl;
}
  where
    none : (d : ℕ) → eqb d c ≡ true → counted_on d H ≡ []
    none d e = o.unbegun d (ap (λ x. started x H) (eqb-true d c e) ∙ idle)

    clash : (d k : ℕ) → eqb d c ≡ true → runner k H ≡ Some d → ⊥
    clash d k e r = let z : Some k ≡ None = sym (o.whose d k r) ∙ ap (λ x. started x H) (eqb-true d c e) ∙ idle in cc

    ordered : (d : ℕ) (b : Bool) → eqb d c ≡ b → in_order (followed (counted_on d H) (cond b (Some m) None)) ≡ true
    ordered d true e = rw (none d e, first) refl
    ordered d false e = o.ordered d

    unbegun : (d : ℕ) (b : Bool) → option_or (cond b (Some l) None) (started d H) ≡ None → followed (counted_on d H) (cond b (Some m) None) ≡ []
    unbegun d true s = cc
    unbegun d false s = o.unbegun d s

    begun : (d k : ℕ) (b : Bool) → eqb d c ≡ b → option_or (cond b (Some l) None) (started d H) ≡ Some k → 0 < length (followed (counted_on d H) (cond b (Some m) None))
    begun d k true e s = longer (counted_on d H) m
    begun d k false e s = o.begun d k s

    whose : (d k : ℕ) (b : Bool) → eqb k l ≡ b → (t : Bool) → eqb d c ≡ t → option_or (cond b (Some c) None) (runner k H) ≡ Some d → option_or (cond t (Some l) None) (started d H) ≡ Some k
    whose d k true e true f r = ap (λ x. Some x) (sym (eqb-true k l e))
    whose d k true e false f r = let same : c ≡ d = cc in let z : true ≡ false = sym (eq-eqb d c (sym same)) ∙ f in cc
    whose d k false e true f r = absurd (clash d k f r)
    whose d k false e false f r = o.whose d k r

    same : (d k : ℕ) (b : Bool) → eqb k l ≡ b → (t : Bool) → eqb d c ≡ t → option_or (cond b (Some c) None) (runner k H) ≡ Some d
        → followed (counted k H) (cond b (Some m) None) ≡ followed (counted_on d H) (cond t (Some m) None)
    same d k true e true f r = rw (ap (λ x. counted x H) (eqb-true k l e) ∙ silent, none d f) refl
    same d k true e false f r = let is : c ≡ d = cc in let z : true ≡ false = sym (eq-eqb d c (sym is)) ∙ f in cc
    same d k false e true f r = absurd (clash d k f r)
    same d k false e false f r = o.same d k r

counting : (c l : ℕ) (m : Message) (H : List Mark) → IsTold H → started c H ≡ Some l → runner l H ≡ Some c → may_follow (counted_on c H) m ≡ true → IsTold (Counts c l m ∷ H)
counting c l m H o s r may = record {
  ordered = λ d. ordered d (eqb d c) refl;
  unbegun = λ d. unbegun d (eqb d c) refl;
  begun = λ d k. begun d k (eqb d c);
  whose = o.whose;
  same = λ d k. same d k (eqb k l) refl (eqb d c) refl;
}
  where
    ordered : (d : ℕ) (b : Bool) → eqb d c ≡ b → in_order (followed (counted_on d H) (cond b (Some m) None)) ≡ true
    ordered d true e = in_order-push [] (counted_on d H) m (o.ordered d) (ap (λ x. may_follow (counted_on x H) m) (eqb-true d c e) ∙ may)
    ordered d false e = o.ordered d

    unbegun : (d : ℕ) (b : Bool) → eqb d c ≡ b → started d H ≡ None → followed (counted_on d H) (cond b (Some m) None) ≡ []
    unbegun d true e n = let z : Some l ≡ None = sym s ∙ ap (λ x. started x H) (sym (eqb-true d c e)) ∙ n in cc
    unbegun d false e n = o.unbegun d n

    begun : (d k : ℕ) (b : Bool) → started d H ≡ Some k → 0 < length (followed (counted_on d H) (cond b (Some m) None))
    begun d k true n = longer (counted_on d H) m
    begun d k false n = o.begun d k n

    same : (d k : ℕ) (b : Bool) → eqb k l ≡ b → (t : Bool) → eqb d c ≡ t → runner k H ≡ Some d
        → followed (counted k H) (cond b (Some m) None) ≡ followed (counted_on d H) (cond t (Some m) None)
    same d k true e true f n = ap (λ ms. ms ++ m ∷ []) (o.same d k n)
    same d k true e false f n = let z : Some c ≡ Some d = sym r ∙ ap (λ x. runner x H) (sym (eqb-true k l e)) ∙ n in let is : c ≡ d = cc in let y : true ≡ false = sym (eq-eqb d c (sym is)) ∙ f in cc
    same d k false e true f n = let z : Some l ≡ Some k = sym s ∙ ap (λ x. started x H) (sym (eqb-true d c f)) ∙ o.whose d k n in let is : l ≡ k = cc in let y : true ≡ false = sym (eq-eqb k l (sym is)) ∙ e in cc
    same d k false e false f n = o.same d k n

pub told_more : (h : Mark) (H : List Mark) → IsProper H → May h H → IsTold H → IsTold (h ∷ H)
told_more (Starts c l m) H p y o = starting c l m H o y.idle y.free (p.running.is_silent l y.free) y.first
told_more (Counts c l m) H p y o =
    let s = (has_started H p c l y.running).0 in
    let r = run_is H p c l y.running in
    let is = o.same c l r in
    counting c l m H o s r (follows (counted_on c H) m (o.begun c l s) y.later (subst (λ ms. eqb m.sequence (due ms) ≡ true) is y.next) (subst (λ ms. is_small (view_of (ms ++ m ∷ [])) ≡ true) is y.small))
told_more _ H p y o = record { ordered = o.ordered; unbegun = o.unbegun; begun = o.begun; whose = o.whose; same = o.same }

pub none_told : IsTold []
none_told = record { ordered = λ c. refl; unbegun = λ c e. refl; begun = λ c l e. cc; whose = λ c l r. cc; same = λ c l r. cc }

pub told_of : (g : Config) (journal : List Entry) → IsTold (chronicle g journal)
told_of g journal = always g IsTold told_more none_told journal

pub shows_messages : (g : Config) (journal : List Entry) → ShowsItsMessages (chronicle g journal)
shows_messages g journal = record {
  are_ordered = told.ordered;
  still_runs = λ c l k r. let v = some_is (life l (chronicle g journal)) k in runner_runs (chronicle g journal) p c l r (known_lives (chronicle g journal) p l v.0 v.1).0;
  are_its_own = λ c l k r. told.same c l r;
  shows = λ c l k r. ap view_of (told.same c l r);
}
  where
    p : IsProper (chronicle g journal)
    p = is_proper g journal

    told : IsTold (chronicle g journal)
    told = told_of g journal

-- Looks at a node's links, one after the other.
use Rattle.std.proofs.Common.{◌≡◌, ◌⊎◌, ℕ, zero, suc, ◌+◌, ◌≤◌, ◌<◌, Bool, true, false, cond, ◌||◌, eqb, List, [], ◌∷◌, ◌++◌, length, drop, map, Option, Some, None, is_some, find, refl, sym, ap, ◌∙◌, subst, inl, inr, arith, length-append, true≢false, eqb-true, take_all}
use Rattle.std.specs.Prelude.{slice_get, get_or, take}
use Rattle.std.proofs.lemmas.List.{take_more}
use Rattle.zre_net.proofs.ListsCountedFromOne.{some_one, in_reach, got_same, kept, apart, set_length}
use Rattle.std.specs.List.{list_any}
use Rattle.zre_values.specs.declared.settings.Settings.{Settings as Config}
use Rattle.zre_journal.specs.Chronicle.{Mark}
use Rattle.zre_journal.specs.Events.{chronicle}
use Rattle.zre_outside.specs.declared.entry.Entry.{Entry}
use Rattle.zre_node.specs.Asked.{sent_after, waiting_after, links_after}
use Rattle.std.specs.Option.{option_map}
use Rattle.zre_journal.specs.Links.{bodies, text, taken}
use Rattle.zre_journal.specs.Peers.{Life, lives, life}
use Rattle.zre_journal.proofs.NumberedLists.{eqb-comm, any_found}
use Rattle.zre_net.specs.Lines.{Line}
use Rattle.zre_net.specs.Lists.{nth}
use Rattle.zre_net.specs.Lines.{IsNoted, IsNotedAt}
use Rattle.zre_net.specs.Sender.{IsSeen, IsLookedAt, IsLooked}

module _ (g : Config) (K : List Mark) where
  abbrev waits : ℕ → List ℕ
  waits l = drop (taken l K) (text g l K)

  pub looked_at : (l i : ℕ) (xs ys : List Line) → l ≡ i + 1 → IsNotedAt (length (bodies l K)) (waits l) i xs ys → taken l K ≤ length (text g l K) → IsLookedAt g K l xs ys
  looked_at zero i xs ys e n b = absurd (omega (arith, e))
  looked_at (suc l) i xs ys e n b =
      let same : l ≡ i = omega (arith, e) in record {
        count = ap (λ ws. length ws) n.is ∙ set_length xs i n.now;
        seen = record {
          before = n.before;
          now = n.now;
          was = ap (slice_get xs) same ∙ n.was;
          is = ap (slice_get ys) same ∙ ap (λ ws. slice_get ws i) n.is ∙ got_same xs i n.now (in_reach xs i n.before n.was);
          noted = n.noted;
          within = b;
        };
        others = λ k far. other k (subst (λ j. eqb (suc j) k ≡ false) same far);
      }
    where
      other : (k : ℕ) → eqb (suc i) k ≡ false → nth k ys ≡ nth k xs
      other zero far = refl
      other (suc k) far = ap (λ ws. slice_get ws k) n.is ∙ kept xs i k n.now (λ q. apart (suc i) (suc k) far (ap suc q))

  -- ---- many looks

  pub record Progress (done : List ℕ) (xs ys : List Line) : Type 0 where
    pub count : length ys ≡ length xs
    pub seen : (l : ℕ) → list_any (eqb l) done ≡ true → IsSeen g K l xs ys
    pub others : (l : ℕ) → list_any (eqb l) done ≡ false → nth l ys ≡ nth l xs

  pub none_yet : (xs : List Line) → Progress [] xs xs
  none_yet xs = record { count = refl; seen = λ l z. absurd (true≢false (sym z)); others = λ l z. refl }

  abbrev More : ℕ → List ℕ → Line → Line → Type 0
  More sent w s t = ((sent ≡ length s.messages) × (t.messages ≡ s.messages)) ⊎ ((sent ≡ length s.messages + 1) × (t.messages ≡ s.messages ++ drop s.waited w ∷ []))

  noted_twice : (sent : ℕ) (w : List ℕ) (x y z : Line) → IsNoted sent w x y → IsNoted sent w y z → IsNoted sent w x z
  noted_twice sent w x y z a b = record { waited = b.waited; messages = by a.messages b.messages }
    where
      by : More sent w x y → More sent w y z → More sent w x z
      by (inl p) (inl q) = inl (p.0, q.1 ∙ p.1)
      by (inr p) (inl q) = inr (p.0, q.1 ∙ p.1)
      by (inl p) (inr q) = absurd (let c = ap (λ ms. length ms) p.1 in omega (arith, p.0, q.0, c))
      by (inr p) (inr q) = absurd (let c = ap (λ ms. length ms) p.1 in let d = length-append x.messages (drop x.waited w ∷ []) in omega (arith, p.0, q.0, c, d))

  any-last : (k l : ℕ) (done : List ℕ) → list_any (eqb k) (done ++ l ∷ []) ≡ (list_any (eqb k) done || eqb k l)
  any-last k l [] = by (eqb k l)
    where
      by : (b : Bool) → (b || false) ≡ b
      by true = refl
      by false = refl
  any-last k l (d ∷ done) = ap (λ b. eqb k d || b) (any-last k l done) ∙ by (eqb k d) (list_any (eqb k) done) (eqb k l)
    where
      by : (a b c : Bool) → (a || (b || c)) ≡ ((a || b) || c)
      by true b c = refl
      by false b c = refl

  pub one_look : (done : List ℕ) (l : ℕ) (xs ys zs : List Line) → Progress done xs ys → IsLookedAt g K l ys zs → Progress (done ++ l ∷ []) xs zs
  one_look done l xs ys zs p a = record {
    count = a.count ∙ p.count;
    seen = λ k z. seen_by k (eqb l k) refl (list_any (eqb k) done) refl (sym (any-last k l done) ∙ z);
    others = λ k z. others_by k (eqb l k) refl (list_any (eqb k) done) refl (sym (any-last k l done) ∙ z);
  }
    where
      again : IsSeen g K l xs ys → IsSeen g K l ys zs → IsSeen g K l xs zs
      again s t = record {
        before = s.before;
        now = t.now;
        was = s.was;
        is = t.is;
        noted = noted_twice (length (bodies l K)) (waits l) s.before s.now t.now s.noted (subst (λ v. IsNoted (length (bodies l K)) (waits l) v t.now) (some_one (sym t.was ∙ s.is)) t.noted);
        within = t.within;
      }

      at_it : (b : Bool) → list_any (eqb l) done ≡ b → IsSeen g K l xs zs
      at_it true z = again (p.seen l z) a.seen
      at_it false z = record { before = a.seen.before; now = a.seen.now; was = sym (p.others l z) ∙ a.seen.was; is = a.seen.is; noted = a.seen.noted; within = a.seen.within }

      seen_by : (k : ℕ) (b : Bool) → eqb l k ≡ b → (d : Bool) → list_any (eqb k) done ≡ d → (list_any (eqb k) done || eqb k l) ≡ true → IsSeen g K k xs zs
      seen_by k true e d f z = subst (λ j. IsSeen g K j xs zs) (eqb-true l k e) (at_it (list_any (eqb l) done) refl)
      seen_by k false e true f z = let s = p.seen k f in record { before = s.before; now = s.now; was = s.was; is = a.others k e ∙ s.is; noted = s.noted; within = s.within }
      seen_by k false e false f z = absurd (true≢false (sym z ∙ ap (λ b. b || eqb k l) f ∙ eqb-comm k l ∙ e))

      others_by : (k : ℕ) (b : Bool) → eqb l k ≡ b → (d : Bool) → list_any (eqb k) done ≡ d → (list_any (eqb k) done || eqb k l) ≡ false → nth k zs ≡ nth k xs
      others_by k true e d f z = absurd (true≢false (sym (tr d (eqb k l) (eqb-comm k l ∙ e)) ∙ ap (λ b. b || eqb k l) (sym f) ∙ z))
        where
          tr : (s t : Bool) → t ≡ true → (s || t) ≡ true
          tr true t y = refl
          tr false t y = y
      others_by k false e true f z = absurd (true≢false (ap (λ b. b || eqb k l) (sym f) ∙ z))
      others_by k false e false f z = a.others k e ∙ p.others k f

  -- when all known peers' links have been
  pub all_looked : (xs ys : List Line) → Progress (map (λ (v : Life). v.link) (lives K)) xs ys → IsLooked g K xs ys
  all_looked xs ys p = record {
    count = p.count;
    seen = λ l s. p.seen l (known l ∙ s);
    others = λ l n. p.others l (known l ∙ ap is_some n);
  }
    where
      known : (l : ℕ) → list_any (eqb l) (map (λ (v : Life). v.link) (lives K)) ≡ is_some (life l K)
      known l = any_found (λ (v : Life). v.link) l (lives K)

-- ---- what a node answers of a link

found : (l : ℕ) (vs : List Life) (v : Life) → find (λ (u : Life). eqb l u.link) vs ≡ Some v → l ≡ v.link
found l [] v e = absurd cc
found l (u ∷ vs) v e = by (eqb l u.link) refl e (λ s. found l vs v s)
  where
    by : (b : Bool) → eqb l u.link ≡ b → cond b (Some u) (find (λ (w : Life). eqb l w.link) vs) ≡ Some v → (find (λ (w : Life). eqb l w.link) vs ≡ Some v → l ≡ v.link) → l ≡ v.link
    by true z s f = eqb-true l u.link z ∙ ap (λ (w : Life). w.link) (some_one s)
    by false z s f = f s

pub sent_is : (g : Config) (J : List Entry) (l n : ℕ) → Some n ≡ sent_after g J l → n ≡ length (bodies l (chronicle g J))
sent_is g J l n e = by (life l (chronicle g J)) refl e
  where
    by : (o : Option Life) → life l (chronicle g J) ≡ o → Some n ≡ option_map (λ (v : Life). length (bodies v.link (chronicle g J))) o → n ≡ length (bodies l (chronicle g J))
    by None z s = absurd cc
    by (Some v) z s = some_one s ∙ ap (λ k. length (bodies k (chronicle g J))) (sym (found l (lives (chronicle g J)) v z))

pub waiting_is : (g : Config) (J : List Entry) (l : ℕ) (w : List ℕ) → Some w ≡ waiting_after g J l → w ≡ drop (taken l (chronicle g J)) (text g l (chronicle g J))
waiting_is g J l w e = by (life l (chronicle g J)) refl e
  where
    by : (o : Option Life) → life l (chronicle g J) ≡ o → Some w ≡ option_map (λ (v : Life). drop (taken v.link (chronicle g J)) (text g v.link (chronicle g J))) o → w ≡ drop (taken l (chronicle g J)) (text g l (chronicle g J))
    by None z s = absurd cc
    by (Some v) z s = some_one s ∙ ap (λ k. drop (taken k (chronicle g J)) (text g k (chronicle g J))) (sym (found l (lives (chronicle g J)) v z))

-- one look
pub look_seen : (g : Config) (J : List Entry) (l place n : ℕ) (w : List ℕ) (xs ys : List Line) → l ≡ place + 1 → Some n ≡ sent_after g J l → Some w ≡ waiting_after g J l → taken l (chronicle g J) ≤ length (text g l (chronicle g J)) → IsNotedAt n w place xs ys → IsLookedAt g (chronicle g J) l xs ys
look_seen g J l place n w xs ys under sent waits within noted =
    looked_at g (chronicle g J) l place xs ys under
    (subst (λ k. IsNotedAt k (drop (taken l (chronicle g J)) (text g l (chronicle g J))) place xs ys) (sent_is g J l n sent) (subst (λ v. IsNotedAt n v place xs ys) (waiting_is g J l w waits) noted)) within

-- all looks
pub looks_end : (g : Config) (J : List Entry) (n : ℕ) (items : List ℕ) (xs ys : List Line) → items ≡ links_after g J → length items ≤ n → Progress g (chronicle g J) (take n items) xs ys → IsLooked g (chronicle g J) xs ys
looks_end g J n items xs ys e z p = all_looked g (chronicle g J) xs ys (subst (λ ls. Progress g (chronicle g J) ls xs ys) (take_all n items z ∙ e) p)

pub looks_more : (g : Config) (K : List Mark) (n : ℕ) (items : List ℕ) (xs ys zs : List Line) → n < length items → Progress g K (take n items) xs ys → IsLookedAt g K (get_or items n 0) ys zs → Progress g K (take (n + 1) items) xs zs
looks_more g K n items xs ys zs lt p l = subst (λ ls. Progress g K ls xs zs) (sym (take_more items n 0 lt)) (one_look g K (take n items) (get_or items n 0) xs ys zs p l)

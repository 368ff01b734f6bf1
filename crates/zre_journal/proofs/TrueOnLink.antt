-- What a node says of itself on a link: true, where it was, after a birth, after marks that say nothing of it, and after a group is joined or left.
use Rattle.std.proofs.Common.{◌≡◌, ℕ, ◌+◌, Bool, true, false, true≢false, cond, not, ◌&&◌, ◌||◌, eqb, List, [], ◌∷◌, ◌++◌, Some, None, IsSome, find, refl, sym, ap, ◌∙◌, subst, arith, eqb-true, ne_eqb, inl, inr, append_assoc, append-nil}
use Rattle.std.specs.Prelude.{◌⊎◌}
use Rattle.std.proofs.lemmas.List.Sums.{fold-append}
use Rattle.std.proofs.lemmas.Slice.Eq.{bytes_eq-Decides}
use Rattle.std.specs.List.{AllByRecursion, fold, list_any}
use Rattle.std.specs.Str.{bytes_eq}
use Rattle.zre_values.specs.Lists.{without}
use Rattle.zre_values.specs.declared.peer_id.PeerId.{PeerId}
use Rattle.zre_values.specs.declared.endpoint.Endpoint.{Endpoint}
use Rattle.zre_link.specs.Text.{bodies_in, numbered_from}
use Rattle.zre_msg.specs.declared.message.Body.{Body}
use Rattle.zre_peer.specs.Members.{with_group, distinct, first_named}
use Rattle.zre_peer.specs.Runs.{is_hello}
use Rattle.zre_peer.specs.Views.{blank}
use Rattle.zre_peer.specs.Views.{after as reading}
use Rattle.zre_peer.specs.declared.view.View.{View}
use Rattle.zre_peer.specs.declared.causes.Cause.{Cause}
use Rattle.zre_values.specs.declared.settings.Settings.{Settings as Config}
use Rattle.zre_journal.specs.Chronicle.{Mark, Comes, Born, Ends, Puts, Joins, Leaves, after, followed}
use Rattle.zre_journal.specs.Config.{own_endpoint}
use Rattle.zre_journal.specs.Peers.{Life, lives, life, births}
use Rattle.zre_journal.specs.Links.{groups, status}
use Rattle.zre_journal.specs.Proper.{IsProper, Apart}
use Rattle.zre_journal.specs.Pushes.{hello, push, push_all, birth}
use Rattle.zre_journal.specs.Commands.{has_group}
use Rattle.zre_journal.specs.Truth.{own_view, only_begins_with_hello}
use Rattle.zre_journal.proofs.WithinCounts.{AtEnd, Front, Back, at_end}
use Rattle.zre_journal.proofs.JoinedEntries.{after-append}
use Rattle.zre_journal.proofs.KnownPeers.{life_stays}
use Rattle.zre_journal.proofs.BodiesOnLinks.{bodies_on, are_bodies}
use Rattle.zre_journal.proofs.NumberedLists.{eqb-comm, some_is, All-without}
use Rattle.zre_journal.proofs.KnownAreBorn.{none_left}
use Rattle.zre_journal.proofs.ProperPeers.{known_lives}
use Rattle.zre_journal.proofs.EachMarkOfEntries.{Plain, ArePlain}
use Rattle.zre_journal.proofs.MarksOfEntries.{pushed}

-- ---- groups, each once

-- no group of these stands twice
abbrev pub Once : List (List ℕ) → Type 0
Once [] = Unit {0}
Once (x ∷ xs) = AllByRecursion (λ y. bytes_eq x y ≡ false) xs × Once xs

alike : (x y : List ℕ) → bytes_eq x y ≡ true → x ≡ y
alike x y e = (bytes_eq-Decides x y).0 e

pub apart_of : (group : List ℕ) (gs : List (List ℕ)) → has_group group gs ≡ false → AllByRecursion (λ x. bytes_eq x group ≡ false) gs
apart_of group [] e = tt
apart_of group (x ∷ gs) e = by (apart_of group gs) (bytes_eq x group) refl e
  where
    by : (has_group group gs ≡ false → AllByRecursion (λ x. bytes_eq x group ≡ false) gs) → (b : Bool) → bytes_eq x group ≡ b → (b || has_group group gs) ≡ false → (bytes_eq x group ≡ false) × AllByRecursion (λ x. bytes_eq x group ≡ false) gs
    by r true q k = cc
    by r false q k = (q, r k)

pub once_more : (group : List ℕ) (gs : List (List ℕ)) → AllByRecursion (λ x. bytes_eq x group ≡ false) gs → Once gs → Once (gs ++ group ∷ [])
once_more group [] a o = (tt, tt)
once_more group (x ∷ gs) a o = (far gs o.0, once_more group gs a.1 o.1)
  where
    far : (ys : List (List ℕ)) → AllByRecursion (λ y. bytes_eq x y ≡ false) ys → AllByRecursion (λ y. bytes_eq x y ≡ false) (ys ++ group ∷ [])
    far [] h = (a.0, tt)
    far (y ∷ ys) h = (h.0, far ys h.1)

pub once_less : (group : List ℕ) (gs : List (List ℕ)) → Once gs → Once (without group gs)
once_less group [] o = tt
once_less group (x ∷ gs) o = by (once_less group gs o.1) (bytes_eq x group)
  where
    by : Once (without group gs) → (b : Bool) → Once (cond b gs (x ∷ without group gs))
    by r true = o.1
    by r false = (All-without (λ y. bytes_eq x y ≡ false) group gs o.0, r)

none_has : (group : List ℕ) (gs : List (List ℕ)) → AllByRecursion (λ x. bytes_eq x group ≡ false) gs → has_group group gs ≡ false
none_has group [] h = refl
none_has group (x ∷ gs) h = rw h.0 (none_has group gs h.1)

-- groups that each stand once are as they are
distinct_on : (front gs : List (List ℕ)) → AllByRecursion (λ y. AllByRecursion (λ x. bytes_eq x y ≡ false) front) gs → Once gs → fold with_group front gs ≡ front ++ gs
distinct_on front [] a o = sym (append-nil front)
distinct_on front (y ∷ gs) a o =
    ap (λ xs. fold with_group xs gs) (ap (λ b. cond b front (front ++ y ∷ [])) (none_has y front a.0))
    ∙ distinct_on (front ++ y ∷ []) gs (both gs a.1 o.0) o.1 ∙ append_assoc front (y ∷ []) gs
  where
    more : (z : List ℕ) (xs : List (List ℕ)) → AllByRecursion (λ x. bytes_eq x z ≡ false) xs → bytes_eq y z ≡ false → AllByRecursion (λ x. bytes_eq x z ≡ false) (xs ++ y ∷ [])
    more z [] h k = (k, tt)
    more z (x ∷ xs) h k = (h.0, more z xs h.1 k)

    both : (zs : List (List ℕ)) → AllByRecursion (λ z. AllByRecursion (λ x. bytes_eq x z ≡ false) front) zs → AllByRecursion (λ z. bytes_eq y z ≡ false) zs → AllByRecursion (λ z. AllByRecursion (λ x. bytes_eq x z ≡ false) (front ++ y ∷ [])) zs
    both [] h k = tt
    both (z ∷ zs) h k = (more z front h.0 k.0, both zs h.1 k.1)

distinct_same : (gs : List (List ℕ)) → Once gs → distinct gs ≡ gs
distinct_same gs o = distinct_on [] gs (all gs) o
  where
    all : (zs : List (List ℕ)) → AllByRecursion (λ z. AllByRecursion (λ x. bytes_eq x z ≡ false) []) zs
    all [] = tt
    all (z ∷ zs) = (tt, all zs)

-- ---- what bodies tell

abbrev pub told : List Body → View
told bs = fold reading blank bs

pub told_more : (bs : List Body) (b : Body) → told (bs ++ b ∷ []) ≡ reading (told bs) b
told_more bs b = fold-append reading blank bs (b ∷ [])

pub view_told : (n : ℕ) (v : View) (bs : List Body) → fold (λ w m. reading w m.body) v (numbered_from n bs) ≡ fold reading v bs
view_told n v [] = refl
view_told n v (b ∷ bs) = view_told (n + 1) (reading v b) bs

none_of : (bs : List Body) (b : Body) → is_hello b ≡ false → list_any is_hello (bs ++ b ∷ []) ≡ list_any is_hello bs
none_of [] b n = rw n refl
none_of (x ∷ bs) b n = ap (λ t. is_hello x || t) (none_of bs b n)

pub still_begins : (bs : List Body) (b : Body) → is_hello b ≡ false → only_begins_with_hello bs ≡ true → only_begins_with_hello (bs ++ b ∷ []) ≡ true
still_begins [] b n e = cc
still_begins (x ∷ bs) b n e = ap (λ t. is_hello x && not t) (none_of bs b n) ∙ e

-- ---- after each entry

module _ (g : Config) where
  pub record Truth (H : List Mark) : Type 0 where
    pub once : Once (groups H)
    pub first : (l : ℕ) → IsSome (life l H) → only_begins_with_hello (bodies_on l H) ≡ true
    pub true_ : (l : ℕ) → IsSome (life l H) → told (bodies_on l H) ≡ own_view g H

  known_before : (l k : ℕ) (why : Cause) (H : List Mark) → IsSome (life k (Ends l why ∷ H)) → (eqb l k ≡ false) × IsSome (life k H)
  known_before l k why H s = by (eqb l k) refl
    where
      by : (b : Bool) → eqb l k ≡ b → (eqb l k ≡ false) × IsSome (life k H)
      by true e = let v = some_is (life k (Ends l why ∷ H)) s in let z : None ≡ Some v.0 = sym (none_left l k e (lives H)) ∙ v.1 in absurd cc
      by false e = (e, subst IsSome (life_stays H l k why e) s)

  pub plain_step : (h : Mark) (H : List Mark) → Plain h → Truth H → Truth (h ∷ H)
  plain_step (Comes e) H p t = absurd p
  plain_step (Joins group) H p t = absurd p
  plain_step (Leaves group) H p t = absurd p
  plain_step (Born l i to) H p t = absurd p
  plain_step (Ends l why) H p t = record { once = t.once; first = λ k s. t.first k (known_before l k why H s).1; true_ = λ k s. t.true_ k (known_before l k why H s).1 }
  plain_step (Puts l b) H p t = record { once = t.once; first = λ k s. first k s (eqb k l); true_ = λ k s. truth k s (eqb k l) }
    where
      first : (k : ℕ) → IsSome (life k H) → (c : Bool) → only_begins_with_hello (followed (bodies_on k H) (cond c (Some b) None)) ≡ true
      first k s true = still_begins (bodies_on k H) b p.later (t.first k s)
      first k s false = t.first k s

      truth : (k : ℕ) → IsSome (life k H) → (c : Bool) → told (followed (bodies_on k H) (cond c (Some b) None)) ≡ own_view g H
      truth k s true = told_more (bodies_on k H) b ∙ p.leaves (told (bodies_on k H)) ∙ t.true_ k s
      truth k s false = t.true_ k s
  plain_step _ H p t = record { once = t.once; first = t.first; true_ = t.true_ }

  pub plain_steps : (hs H : List Mark) → ArePlain hs → Truth H → Truth (after hs H)
  plain_steps [] H p t = t
  plain_steps (h ∷ hs) H p t = plain_steps hs (h ∷ H) p.1 (plain_step h H p.0 t)

  -- ---- a birth

  -- one that was known before, or the newborn
  abbrev Which : ℕ → List Mark → Type 0
  Which l K = ((eqb l (births K + 1) ≡ false) × IsSome (life l K)) ⊎ (eqb l (births K + 1) ≡ true)

  pub born : (K : List Mark) → IsProper K → (p : PeerId) (to : Endpoint) → Truth K → Truth (after (birth g p to K) K)
  born K q p to t = record { once = t.once; first = λ l s. let v = some_is (life l (Born (births K + 1) p to ∷ K)) s in first l (sort l v.0 v.1); true_ = λ l s. let v = some_is (life l (Born (births K + 1) p to ∷ K)) s in truth l (sort l v.0 v.1) }
    where
      n : ℕ
      n = births K + 1

      sort : (l : ℕ) (v : Life) → life l (Born n p to ∷ K) ≡ Some v → Which l K
      sort l v e = by (at_end (λ (u : Life). eqb l u.link) (lives K) (record { link = n; id = p; endpoint = to }) v e)
        where
          by : AtEnd (λ (u : Life). eqb l u.link) (lives K) (record { link = n; id = p; endpoint = to }) v → Which l K
          by (Front f) = let low = (known_lives K q l v f).1 in inl (ne_eqb l n (λ z. omega (arith, z, low)), rw f refl)
          by (Back x same w) = inr w

      new : bodies_on n K ≡ []
      new = sym (are_bodies n K) ∙ ap bodies_in (q.living.fresh n (omega arith)).no_member

      first : (l : ℕ) → Which l K → only_begins_with_hello (followed (bodies_on l K) (cond (eqb l n) (Some (hello g K)) None)) ≡ true
      first l (inl w) = rw w.0 (t.first l w.1)
      first l (inr w) = rw (w, ap (λ m. bodies_on m K) (eqb-true l n w) ∙ new) refl

      truth : (l : ℕ) → Which l K → told (followed (bodies_on l K) (cond (eqb l n) (Some (hello g K)) None)) ≡ own_view g K
      truth l (inl w) = rw w.0 (t.true_ l w.1)
      truth l (inr w) = rw (w, ap (λ m. bodies_on m K) (eqb-true l n w) ∙ new) (ap (λ gs. own_with gs) (distinct_same (groups K) t.once))
        where
          own_with : List (List ℕ) → View
          own_with gs = record { name = g.name; endpoint = own_endpoint g; headers = first_named g.headers; groups = gs; status = status K }

  -- ---- the node joins or leaves a group

  -- a body turns one view into another, and is put on the link of each of these
  module _ (b : Body) (old new : View) (turns : reading old b ≡ new) (later : is_hello b ≡ false) where
    record Stage (vs : List Life) (H : List Mark) : Type 0 where
      begins : (l : ℕ) → IsSome (life l H) → only_begins_with_hello (bodies_on l H) ≡ true
      due : (l : ℕ) → IsSome (life l H) → list_any (λ (v : Life). eqb l v.link) vs ≡ true → told (bodies_on l H) ≡ old
      done : (l : ℕ) → IsSome (life l H) → list_any (λ (v : Life). eqb l v.link) vs ≡ false → told (bodies_on l H) ≡ new

    not_among : (l : ℕ) (vs : List Life) → AllByRecursion (λ (v : Life). eqb l v.link ≡ false) vs → list_any (λ (v : Life). eqb l v.link) vs ≡ false
    not_among l [] h = refl
    not_among l (v ∷ vs) h = rw h.0 (not_among l vs h.1)

    one_stage : (v : Life) (vs : List Life) (I H : List Mark) → AllByRecursion (λ (u : Life). eqb v.link u.link ≡ false) vs → Stage (v ∷ vs) H → Stage vs (after (push g v.link b I) H)
    one_stage v vs I H far s = pushed g (Stage vs) v.link b I H ended put
      where
        -- another is among these as it was
        other : (l : ℕ) (t : Bool) → eqb l v.link ≡ false → list_any (λ (u : Life). eqb l u.link) vs ≡ t → list_any (λ (u : Life). eqb l u.link) (v ∷ vs) ≡ t
        other l t e a = rw e a

        ended : (why : Cause) → Stage vs (Ends v.link why ∷ H)
        ended why = record {
          begins = λ l k. s.begins l (known_before v.link l why H k).1;
          due = λ l k a. let w = known_before v.link l why H k in s.due l w.1 (other l true (eqb-comm l v.link ∙ w.0) a);
          done = λ l k a. let w = known_before v.link l why H k in s.done l w.1 (other l false (eqb-comm l v.link ∙ w.0) a);
        }

        put : Stage vs (Puts v.link b ∷ H)
        put = record {
          begins = λ l k. begins l k (eqb l v.link);
          due = λ l k a. due l k a (eqb l v.link) refl;
          done = λ l k a. done l k a (eqb l v.link) refl;
        }
          where
            begins : (l : ℕ) → IsSome (life l H) → (c : Bool) → only_begins_with_hello (followed (bodies_on l H) (cond c (Some b) None)) ≡ true
            begins l k true = still_begins (bodies_on l H) b later (s.begins l k)
            begins l k false = s.begins l k

            due : (l : ℕ) → IsSome (life l H) → list_any (λ (u : Life). eqb l u.link) vs ≡ true → (c : Bool) → eqb l v.link ≡ c → told (followed (bodies_on l H) (cond c (Some b) None)) ≡ old
            due l k a true e = absurd (true≢false (sym a ∙ ap (λ m. list_any (λ (u : Life). eqb m u.link) vs) (eqb-true l v.link e) ∙ not_among v.link vs far))
            due l k a false e = s.due l k (other l true e a)

            done : (l : ℕ) → IsSome (life l H) → list_any (λ (u : Life). eqb l u.link) vs ≡ false → (c : Bool) → eqb l v.link ≡ c → told (followed (bodies_on l H) (cond c (Some b) None)) ≡ new
            done l k a true e = told_more (bodies_on l H) b ∙ ap (λ w. reading w b) (s.due l k (ap (λ c. c || list_any (λ (u : Life). eqb l u.link) vs) e)) ∙ turns
            done l k a false e = s.done l k (other l false e a)

    all_stages : (vs : List Life) (I H : List Mark) → Apart (λ (v : Life). v.link) vs → Stage vs H → Stage [] (after (push_all g vs b I) H)
    all_stages [] I H a s = s
    all_stages (v ∷ vs) I H a s =
        let p = push g v.link b I in
        subst (Stage []) (sym (after-append p (push_all g vs b (after p I)) H)) (all_stages vs (after p I) (after p H) a.1 (one_stage v vs I H a.0 s))

  -- pushes leave the groups and the status
  push_groups : (l : ℕ) (b : Body) (I H : List Mark) → (groups (after (push g l b I) H) ≡ groups H) × (status (after (push g l b I) H) ≡ status H)
  push_groups l b I H = pushed g (λ J. (groups J ≡ groups H) × (status J ≡ status H)) l b I H (λ why. (refl, refl)) (refl, refl)

  pushes_groups : (b : Body) (vs : List Life) (I H : List Mark) → (groups (after (push_all g vs b I) H) ≡ groups H) × (status (after (push_all g vs b I) H) ≡ status H)
  pushes_groups b [] I H = (refl, refl)
  pushes_groups b (v ∷ vs) I H =
      let p = push g v.link b I in
      let r = pushes_groups b vs (after p I) (after p H) in
      let o = push_groups v.link b I H in
      let w = after-append p (push_all g vs b (after p I)) H in
      (ap groups w ∙ r.0 ∙ o.0, ap status w ∙ r.1 ∙ o.1)

  -- all that are known are among the known
  among : (l : ℕ) (vs : List Life) → IsSome (find (λ (v : Life). eqb l v.link) vs) → list_any (λ (v : Life). eqb l v.link) vs ≡ true
  among l [] s = cc
  among l (v ∷ vs) s = by (among l vs) (eqb l v.link) s
    where
      by : (IsSome (find (λ (u : Life). eqb l u.link) vs) → list_any (λ (u : Life). eqb l u.link) vs ≡ true) → (c : Bool) → IsSome (cond c (Some v) (find (λ (u : Life). eqb l u.link) vs)) → (c || list_any (λ (u : Life). eqb l u.link) vs) ≡ true
      by r true k = refl
      by r false k = r k

  pub changes : (h : Mark) (b : Body) (K : List Mark) → IsProper K → Truth K → ((l : ℕ) → life l (h ∷ K) ≡ life l K) → ((l : ℕ) → bodies_on l (h ∷ K) ≡ bodies_on l K) → reading (own_view g K) b ≡ own_view g (h ∷ K) → is_hello b ≡ false
      → Once (groups (h ∷ K)) → Truth (after (push_all g (lives K) b K) (h ∷ K))
  changes h b K q t same put turns later once =
      let x = pushes_groups b (lives K) K (h ∷ K) in
      let s = all_stages b (own_view g K) (own_view g (h ∷ K)) turns later (lives K) K (h ∷ K) q.living.apart (record {
        begins = λ l k. ap only_begins_with_hello (put l) ∙ t.first l (subst IsSome (same l) k);
        due = λ l k a. ap told (put l) ∙ t.true_ l (subst IsSome (same l) k);
        done = λ l k a. absurd (true≢false (sym (among l (lives K) (subst IsSome (same l) k)) ∙ a));
      }) in
      record {
        once = subst Once (sym x.0) once;
        first = s.begins;
        true_ = λ l k. s.done l k refl ∙ ap (λ gs. own_with gs (status (h ∷ K))) (sym x.0) ∙ ap (λ n. own_with (groups (after (push_all g (lives K) b K) (h ∷ K))) n) (sym x.1);
      }
    where
      own_with : List (List ℕ) → ℕ → View
      own_with gs n = record { name = g.name; endpoint = own_endpoint g; headers = first_named g.headers; groups = gs; status = n }

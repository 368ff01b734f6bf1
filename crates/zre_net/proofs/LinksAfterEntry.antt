-- The table of a node's links, after an entry.
use Rattle.std.proofs.Common.{◌≡◌, ◌⊎◌, ℕ, zero, suc, ◌+◌, ◌≤◌, ◌<◌, Bool, true, false, cond, not, eqb, List, [], ◌∷◌, ◌++◌, length, drop, map, filter, replicate, Option, Some, None, IsSome, is_some, find, refl, sym, ap, ◌∙◌, inl, inr, arith, append_assoc, append-nil, length-append, eqb-true}
use Rattle.std.proofs.lemmas.List.{length-drop, take_more}
use Rattle.std.specs.Prelude.{slice_get, get_or, take}
use Rattle.std.specs.Option.{option_map_or}
use Rattle.zre_zmtp.specs.Laws.{handshake}
use Rattle.zre_zmtp.specs.declared.writing.SocketType.TheVariants.{Dealer}
use Rattle.zre_outside.specs.declared.act.Act.{Act}
use Rattle.zre_outside.specs.declared.act.Act.TheVariants as act
use Rattle.zre_outside.specs.declared.entry.Entry.{Entry}
use Rattle.zre_link.specs.Text.{text_of}
use Rattle.zre_values.specs.declared.settings.Settings.{Settings as Config}
use Rattle.zre_journal.specs.Chronicle.{Mark, Comes, Born, Ends, after}
use Rattle.zre_journal.specs.Done.{done, done_at, close_link, offers, is_offered, acts_at}
use Rattle.zre_journal.specs.Events.{chronicle}
use Rattle.zre_journal.specs.Happens.{has_stopped, at_input, with_entry}
use Rattle.zre_journal.specs.Links.{bodies, text, taken, unsent}
use Rattle.zre_journal.specs.Peers.{Life, lives, life, births, other_lives}
use Rattle.zre_journal.specs.Proper.{IsProper}
use Rattle.zre_values.specs.declared.peer_id.PeerId.{PeerId}
use Rattle.zre_peer.specs.declared.causes.Cause.{Cause}
use Rattle.zre_peer.specs.declared.causes.Cause.TheVariants as cause
use Rattle.zre_journal.proofs.ProperChronicles.{is_proper}
use Rattle.zre_journal.proofs.SaidOnConnections.{input_allowed}
use Rattle.zre_journal.proofs.ProperPeers.{Comes-proper}
use Rattle.zre_journal.proofs.WhenMarksCome.{May, Allowed}
use Rattle.zre_net.specs.Lines.{Line}
use Rattle.zre_net.specs.Lines.{connects, fresh, messages_at, waited_at}
use Rattle.zre_net.specs.Sender.{spelled, is_slight, Keeps, IsSeen, IsLooked}
use Rattle.zre_net.proofs.PutOnLinks.{Put, put_by, as_many, when_gone, one_more}

-- ---- links that are made

connects-both : (xs ys : List Act) → connects (xs ++ ys) ≡ connects xs + connects ys
connects-both [] ys = omega arith
connects-both (act.Connect l to ∷ xs) ys = let r = connects-both xs ys in omega (arith, r)
connects-both (_ ∷ xs) ys = connects-both xs ys

replicate-both : (n m : ℕ) (x : Line) → replicate n x ++ replicate m x ≡ replicate (n + m) x
replicate-both zero m x = let z : m ≡ 0 + m = omega arith in ap (λ k. replicate k x) z
replicate-both (suc n) m x = let z : suc (n + m) ≡ suc n + m = omega arith in ap (λ xs. x ∷ xs) (replicate-both n m x) ∙ ap (λ k. replicate k x) z

-- what one act more adds
pub one_line : (h : ℕ) (xs ys zs : List Line) (acts : List Act) (i : ℕ) (a : Act) → i < length acts → a ≡ get_or acts i a → ys ≡ xs ++ replicate (connects (take i acts)) (fresh h) → zs ≡ ys ++ replicate (connects (a ∷ [])) (fresh h)
    → zs ≡ xs ++ replicate (connects (take (i + 1) acts)) (fresh h)
one_line h xs ys zs acts i a lt is e f =
    let n = connects (take i acts) in
    let m = connects (a ∷ []) in
    f ∙ ap (λ ws. ws ++ replicate m (fresh h)) e ∙ append_assoc xs (replicate n (fresh h)) (replicate m (fresh h)) ∙ ap (λ ws. xs ++ ws) (replicate-both n m (fresh h))
    ∙ ap (λ k. xs ++ replicate k (fresh h)) (sym (connects-both (take i acts) (a ∷ []))) ∙ ap (λ as_. xs ++ replicate (connects as_) (fresh h)) (sym (take_more acts i a lt ∙ ap (λ x. take i acts ++ x ∷ []) (sym is)))

module _ (h : ℕ) where
  fresh_messages : (n k : ℕ) → option_map_or (λ (x : Line). x.messages) (slice_get (replicate n (fresh h)) k) [] ≡ []
  fresh_messages zero k = refl
  fresh_messages (suc n) zero = refl
  fresh_messages (suc n) (suc k) = fresh_messages n k

  fresh_waits : (n k : ℕ) → option_map_or (λ (x : Line). x.waited) (slice_get (replicate n (fresh h)) k) h ≡ h
  fresh_waits zero k = refl
  fresh_waits (suc n) zero = refl
  fresh_waits (suc n) (suc k) = fresh_waits n k

  pub same_messages : (n l : ℕ) (xs : List Line) → messages_at l (xs ++ replicate n (fresh h)) ≡ messages_at l xs
  same_messages n zero xs = refl
  same_messages n (suc k) [] = fresh_messages n k
  same_messages n (suc zero) (x ∷ xs) = refl
  same_messages n (suc (suc k)) (x ∷ xs) = same_messages n (suc k) xs

  pub same_waits : (n l : ℕ) (xs : List Line) → waited_at h l (xs ++ replicate n (fresh h)) ≡ waited_at h l xs
  same_waits n zero xs = refl
  same_waits n (suc k) [] = fresh_waits n k
  same_waits n (suc zero) (x ∷ xs) = refl
  same_waits n (suc (suc k)) (x ∷ xs) = same_waits n (suc k) xs

-- ---- births

no_connects : (g : Config) (vs : List Life) → connects (map (λ (v : Life). act.Offer v.link) vs) ≡ 0
no_connects g [] = refl
no_connects g (v ∷ vs) = no_connects g vs

closes_none : (l : ℕ) (why : Cause) → connects (close_link l why) ≡ 0
closes_none l cause.Link = refl
closes_none l _ = refl

births_done : (own : PeerId) (hs H : List Mark) → births (after hs H) ≡ births H + connects (done own hs)
births_done own [] H = omega arith
births_done own (h ∷ hs) H =
    let r = births_done own hs (h ∷ H) in
    let s = connects-both (done_at own h) (done own hs) in
    let o = one h in
    omega (arith, r, s, o)
  where
    one : (h : Mark) → births (h ∷ H) ≡ births H + connects (done_at own h)
    one (Born l p e) = refl
    one (Ends l why) = let z = closes_none l why in omega (arith, z)
    one _ = omega arith

pub births_are : (g : Config) (e : Entry) (H : List Mark) → births (with_entry g e H) ≡ births H + connects (acts_at g e H)
births_are g e H = by (has_stopped H)
  where
    by : (b : Bool) → let hs = cond b [] (at_input g e.input H (Comes e ∷ H)) in births (after hs (Comes e ∷ H)) ≡ births H + connects (cond b [] (done g.id hs ++ offers g e hs (with_entry g e H)))
    by true = omega arith
    by false =
        let hs = at_input g e.input H (Comes e ∷ H) in
        let r = births_done g.id hs (Comes e ∷ H) in
        let s = connects-both (done g.id hs) (offers g e hs (with_entry g e H)) in
        let o = no_connects g (filter (is_offered g e hs (with_entry g e H)) (lives (with_entry g e H))) in
        omega (arith, r, s, o)

-- ---- who is known was known, or is born

module _ (l : ℕ) where
  in_kept : (k : ℕ) (vs : List Life) → IsSome (find (λ (v : Life). eqb l v.link) (other_lives k vs)) → IsSome (find (λ (v : Life). eqb l v.link) vs)
  in_kept k [] s = s
  in_kept k (v ∷ vs) s = by (not (eqb k v.link)) (eqb l v.link) refl s (in_kept k vs)
    where
      by : (b d : Bool) → eqb l v.link ≡ d → IsSome (find (λ (u : Life). eqb l u.link) (cond b (v ∷ other_lives k vs) (other_lives k vs)))
          → (IsSome (find (λ (u : Life). eqb l u.link) (other_lives k vs)) → IsSome (find (λ (u : Life). eqb l u.link) vs)) → IsSome (cond d (Some v) (find (λ (u : Life). eqb l u.link) vs))
      by b true q z r = refl
      by true false q z r = r (rw q at z)
      by false false q z r = r z

  in_more : (n : ℕ) (v : Life) (vs : List Life) → v.link ≡ n + 1 → IsSome (find (λ (u : Life). eqb l u.link) (vs ++ v ∷ [])) → IsSome (find (λ (u : Life). eqb l u.link) vs) ⊎ (n < l)
  in_more n v [] e s = by (eqb l v.link) refl s
    where
      by : (b : Bool) → eqb l v.link ≡ b → IsSome (cond b (Some v) None) → IsSome (find (λ (u : Life). eqb l u.link) []) ⊎ (n < l)
      by true q z = let same = eqb-true l v.link q in inr (omega (arith, same, e))
      by false q z = absurd cc
  in_more n v (u ∷ vs) e s = by (eqb l u.link) s (in_more n v vs e)
    where
      by : (b : Bool) → IsSome (cond b (Some u) (find (λ (w : Life). eqb l w.link) (vs ++ v ∷ []))) → (IsSome (find (λ (w : Life). eqb l w.link) (vs ++ v ∷ [])) → IsSome (find (λ (w : Life). eqb l w.link) vs) ⊎ (n < l))
          → IsSome (cond b (Some u) (find (λ (w : Life). eqb l w.link) vs)) ⊎ (n < l)
      by true z r = inl refl
      by false z r = r z

  one_before : (h : Mark) (H : List Mark) → May h H → IsSome (life l (h ∷ H)) → IsSome (life l H) ⊎ (births H < l)
  one_before (Born k p to) H m s = in_more (births H) (record { link = k; id = p; endpoint = to }) (lives H) m.next_link s
  one_before (Ends k why) H m s = inl (in_kept k (lives H) s)
  one_before _ H m s = inl s

  no_fewer : (h : Mark) (H : List Mark) → births H ≤ births (h ∷ H)
  no_fewer (Born k p to) H = omega arith
  no_fewer _ H = omega arith

  pub was_known : (hs H : List Mark) → Allowed hs H → IsSome (life l (after hs H)) → IsSome (life l H) ⊎ (births H < l)
  was_known [] H a s = inl s
  was_known (h ∷ hs) H a s = by (was_known hs (h ∷ H) a.1 s)
    where
      by : IsSome (life l (h ∷ H)) ⊎ (births (h ∷ H) < l) → IsSome (life l H) ⊎ (births H < l)
      by (inl z) = one_before h H a.0 z
      by (inr z) = let f = no_fewer h H in inr (omega (arith, f, z))

-- ---- after an entry

module _ (g : Config) (J : List Entry) (e : Entry) (h : ℕ) (base : h ≡ length (handshake Dealer (Some g.id))) where
  abbrev H : List Mark
  H = chronicle g J

  abbrev K : List Mark
  K = with_entry g e H

  q : IsProper (Comes e ∷ H)
  q = Comes-proper H (is_proper g J) e

  known_before : (l : ℕ) → IsSome (life l K) → IsSome (life l H) ⊎ (births H < l)
  known_before l s = by (has_stopped H) s
    where
      by : (b : Bool) → IsSome (life l (after (cond b [] (at_input g e.input H (Comes e ∷ H))) (Comes e ∷ H))) → IsSome (life l H) ⊎ (births H < l)
      by true z = inl z
      by false z = was_known l (at_input g e.input H (Comes e ∷ H)) (Comes e ∷ H) (input_allowed g e.input H (Comes e ∷ H) q) z

  module _ (slight : is_slight g e.input H (Comes e ∷ H)) (xs ys : List Line) (kept : Keeps g H h xs) (looked : IsLooked g K (xs ++ replicate (connects (acts_at g e H)) (fresh h)) ys) where
    abbrev n : ℕ
    n = connects (acts_at g e H)

    abbrev zs : List Line
    zs = xs ++ replicate n (fresh h)

    put : (l : ℕ) → Put l H K
    put l = put_by g J e l slight

    were : (l : ℕ) → messages_at l zs ≡ spelled l H
    were l = same_messages h n l xs ∙ kept.messages_are l

    -- the links that are known now: what waited on them, and how much had gone out
    had : (l : ℕ) → IsSome (life l K) → (waited_at h l zs ≡ unsent g l H) × (taken l H ≤ length (text g l H))
    had l s = by (known_before l s)
      where
        by : IsSome (life l H) ⊎ (births H < l) → (waited_at h l zs ≡ unsent g l H) × (taken l H ≤ length (text g l H))
        by (inl k) = (same_waits h n l xs ∙ kept.waits l k, kept.within l k)
        by (inr z) =
            let f = (is_proper g J).living.fresh l z in
            let t : text g l H ≡ handshake Dealer (Some g.id) = ap (text_of g.id) f.no_member ∙ append-nil (handshake Dealer (Some g.id)) in
            let o : taken l H ≡ 0 = f.none_taken in
            let m = ap (λ o. length o) t in
            (same_waits h n l xs ∙ beyond l z ∙ base ∙ (omega (arith, m, o)), omega (arith, o))
          where
            beyond : (l : ℕ) → births H < l → waited_at h l xs ≡ h
            beyond l y = past l xs (let c = kept.count in omega (arith, c, y))
              where
                past : (k : ℕ) (ws : List Line) → length ws < k → waited_at h k ws ≡ h
                past zero ws y = refl
                past (suc k) [] y = refl
                past (suc zero) (w ∷ ws) y = absurd (omega (arith, y))
                past (suc (suc k)) (w ∷ ws) y = past (suc k) ws (omega (arith, y))

    now_at : (l : ℕ) (s : IsSeen g K l zs ys) → messages_at l ys ≡ s.now.messages
    now_at l s = ap (λ o. option_map_or (λ (x : Line). x.messages) o []) s.is

    messages_now : (l : ℕ) → messages_at l ys ≡ spelled l K
    messages_now l = by (life l K) refl
      where
        by : (o : Option Life) → life l K ≡ o → messages_at l ys ≡ spelled l K
        by None z = ap (λ o. option_map_or (λ (x : Line). x.messages) o []) (looked.others l z) ∙ were l ∙ sym (when_gone g l H K (put l) z)
        by (Some v) z = at (looked.seen l (ap is_some z)) (had l (ap is_some z))
          where
            at : IsSeen g K l zs ys → (waited_at h l zs ≡ unsent g l H) × (taken l H ≤ length (text g l H)) → messages_at l ys ≡ spelled l K
            at s w = now_at l s ∙ on s.noted.messages
              where
                before : s.before.messages ≡ spelled l H
                before = sym (ap (λ o. option_map_or (λ (x : Line). x.messages) o []) s.was) ∙ were l

                waited : s.before.waited ≡ unsent g l H
                waited = sym (ap (λ o. option_map_or (λ (x : Line). x.waited) o h) s.was) ∙ w.0

                on : ((length (bodies l K) ≡ length s.before.messages) × (s.now.messages ≡ s.before.messages))
                    ⊎ ((length (bodies l K) ≡ length s.before.messages + 1) × (s.now.messages ≡ s.before.messages ++ drop s.before.waited (drop (taken l K) (text g l K)) ∷ [])) → s.now.messages ≡ spelled l K
                on (inl p) = p.1 ∙ before ∙ sym (as_many g l H K (put l) (p.0 ∙ ap (λ ms. length ms) before))
                on (inr p) = p.1 ∙ ap (λ ms. ms ++ drop s.before.waited (drop (taken l K) (text g l K)) ∷ []) before
                    ∙ sym (one_more g l H K s.before.waited (drop (taken l K) (text g l K)) (put l) (p.0 ∙ ap (λ ms. length ms + 1) before) waited w.1 refl)

    pub keeps : Keeps g K h ys
    keeps = record {
      count = let a = looked.count in let b = kept.count in let c = births_are g e H in let d = length-append xs (replicate n (fresh h)) in let f = many n in omega (arith, a, b, c, d, f);
      messages_are = messages_now;
      waits = λ l s. let t = looked.seen l s in ap (λ o. option_map_or (λ (x : Line). x.waited) o h) t.is ∙ t.noted.waited ∙ length-drop (taken l K) (text g l K);
      within = λ l s. (looked.seen l s).within;
    }
      where
        many : (k : ℕ) → length (replicate k (fresh h)) ≡ k
        many zero = refl
        many (suc k) = let r = many k in omega (arith, r)

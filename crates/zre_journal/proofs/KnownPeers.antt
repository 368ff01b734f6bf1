-- Known peers, found and kept: what marks on other links leave of them.
use Rattle.std.proofs.Common.{◌≡◌, ℕ, ◌+◌, ◌≤◌, Bool, true, false, cond, eqb, List, [], ◌∷◌, ◌++◌, map, Option, Some, IsSome, find, filter, refl, sym, ap, ◌∙◌, arith, eq-eqb, ne_eqb, subst}
use Rattle.std.proofs.lemmas.Slice.Eq.{bytes_eq-Decides}
use Rattle.std.specs.List.{AllByRecursion}
use Rattle.std.specs.Str.{bytes_eq}
use Rattle.zre_values.specs.declared.peer_id.PeerId.{PeerId}
use Rattle.zre_values.specs.declared.endpoint.Endpoint.{Endpoint}
use Rattle.zre_peer.specs.declared.causes.Cause.{Cause}
use Rattle.zre_journal.specs.Chronicle.{Mark, Ends, Born, after}
use Rattle.zre_journal.specs.Peers.{Life, lives, life, life_of, births, runner}
use Rattle.zre_journal.specs.Proper.{IsProper, Apart}
use Rattle.zre_journal.proofs.NumberedLists.{eqb-comm, All-map, All-kept, others_find, found_passes}
use Rattle.zre_journal.specs.Connections.{open_ones}

-- ---- lives, by number

-- what one test finds, a search by its number finds too
by_number : (t : Life → Bool) (vs : List Life) (v : Life) → Apart (λ (u : Life). u.link) vs → find t vs ≡ Some v → find (λ (u : Life). eqb v.link u.link) vs ≡ Some v
by_number t [] v a e = cc
by_number t (u ∷ us) v a e = by (by_number t us v a.1) (t u) refl e
  where
    later : (ws : List Life) (w : Life) → find t ws ≡ Some w → AllByRecursion (λ (x : Life). eqb u.link x.link ≡ false) ws → eqb u.link w.link ≡ false
    later [] w k h = cc
    later (x ∷ ws) w k h = at (later ws w) (t x) k
      where
        at : (find t ws ≡ Some w → AllByRecursion (λ (y : Life). eqb u.link y.link ≡ false) ws → eqb u.link w.link ≡ false) → (b : Bool) → cond b (Some x) (find t ws) ≡ Some w → eqb u.link w.link ≡ false
        at r true q = let same : x ≡ w = cc in subst (λ (y : Life). eqb u.link y.link ≡ false) same h.0
        at r false q = r q h.1

    by : (find t us ≡ Some v → find (λ (w : Life). eqb v.link w.link) us ≡ Some v) → (b : Bool) → t u ≡ b → cond b (Some u) (find t us) ≡ Some v → find (λ (w : Life). eqb v.link w.link) (u ∷ us) ≡ Some v
    by r true q k = let same : u ≡ v = cc in let yes : eqb v.link u.link ≡ true = eq-eqb v.link u.link (ap (λ (w : Life). w.link) (sym same)) in rw yes k
    by r false q k = let far : eqb v.link u.link ≡ false = eqb-comm v.link u.link ∙ later us v k a.0 in rw far (r k)

pub known_of : (H : List Mark) → IsProper H → (p : PeerId) (v : Life) → life_of p H ≡ Some v → life v.link H ≡ Some v
known_of H q p v e = by_number (λ (u : Life). bytes_eq p.0 u.id.0) (lives H) v q.living.apart e

pub same_id : (p q : PeerId) → bytes_eq p.0 q.0 ≡ true → q ≡ p
same_id p q e = let same : p.0 ≡ q.0 = (bytes_eq-Decides p.0 q.0).0 e in let back : q ≡ p = ap (λ (xs : List ℕ). record { 0 = xs }) (sym same) in back

pub id_of : (H : List Mark) (p : PeerId) (v : Life) → life_of p H ≡ Some v → v.id ≡ p
id_of H p v e = same_id p v.id (found_passes (λ (u : Life). bytes_eq p.0 u.id.0) (lives H) v e)

-- each of these is known
abbrev pub AreKnown : List Mark → List Life → Type 0
AreKnown H vs = AllByRecursion (λ (v : Life). IsSome (life v.link H)) vs

pub each_known : (H : List Mark) → AreKnown H (lives H)
each_known H = each_found (lives H)
  where
    further : (b : Bool) (v : Life) (o : Option Life) → IsSome o → IsSome (cond b (Some v) o)
    further true v o h = refl
    further false v o h = h

    each_found : (vs : List Life) → AllByRecursion (λ (v : Life). IsSome (find (λ (u : Life). eqb v.link u.link) vs)) vs
    each_found [] = tt
    each_found (v ∷ vs) = (
      let me : eqb v.link v.link ≡ true = eq-eqb v.link v.link refl in rw me refl,
      All-map (λ (u : Life). IsSome (find (λ (w : Life). eqb u.link w.link) vs)) (λ (u : Life). IsSome (find (λ (w : Life). eqb u.link w.link) (v ∷ vs)))
          (λ u h. further (eqb u.link v.link) v (find (λ (w : Life). eqb u.link w.link) vs) h) vs (each_found vs),
    )

-- the newborn is known
pub newborn_known : (H : List Mark) → IsProper H → (p : PeerId) (e : Endpoint) → life (births H + 1) (Born (births H + 1) p e ∷ H) ≡ Some (record { link = births H + 1; id = p; endpoint = e })
newborn_known H q p e = last (lives H) q.living.numbered
  where
    n : ℕ
    n = births H + 1

    last : (vs : List Life) → AllByRecursion (λ (v : Life). v.link ≤ births H) vs
        → find (λ (u : Life). eqb (births H + 1) u.link) (vs ++ record { link = births H + 1; id = p; endpoint = e } ∷ []) ≡ Some (record { link = births H + 1; id = p; endpoint = e })
    last [] h = let me : eqb (births H + 1) (births H + 1) ≡ true = eq-eqb (births H + 1) (births H + 1) refl in rw me refl
    last (v ∷ vs) h = let below : v.link ≤ births H = h.0 in let far : eqb (births H + 1) v.link ≡ false = ne_eqb (births H + 1) v.link (λ z. omega arith) in rw far (last vs h.1)

-- ---- the end of another

pub life_stays : (H : List Mark) (l k : ℕ) (why : Cause) → eqb l k ≡ false → life k (Ends l why ∷ H) ≡ life k H
life_stays H l k why far = others_find (λ (v : Life). v.link) l k far (lives H)

pub still_known : (H : List Mark) (l : ℕ) (why : Cause) (vs : List Life) → AllByRecursion (λ (v : Life). eqb l v.link ≡ false) vs → AreKnown H vs → AreKnown (Ends l why ∷ H) vs
still_known H l why [] far k = tt
still_known H l why (v ∷ vs) far k = (subst IsSome (sym (life_stays H l v.link why far.0)) k.0, still_known H l why vs far.1 k.1)

-- the ends of these lives
abbrev pub end_all : Cause → List Life → List Mark
end_all why vs = map (λ (v : Life). Ends v.link why) vs

-- what no end changes
pub ends_keep : (Q : List Mark → Type 0) → ((l : ℕ) (why : Cause) (H : List Mark) → Q H → Q (Ends l why ∷ H)) → (why : Cause) (vs : List Life) (H : List Mark) → Q H → Q (after (end_all why vs) H)
ends_keep Q f why [] H q = q
ends_keep Q f why (v ∷ vs) H q = ends_keep Q f why vs (Ends v.link why ∷ H) (f v.link why H q)

pub ends_open : (why : Cause) (vs : List Life) (H : List Mark) → open_ones (after (end_all why vs) H) ≡ open_ones H
ends_open why vs H = ends_keep (λ J. open_ones J ≡ open_ones H) (λ l w J e. e) why vs H refl

pub ends_run : (why : Cause) (vs : List Life) (l : ℕ) (H : List Mark) → runner l (after (end_all why vs) H) ≡ runner l H
ends_run why vs l H = ends_keep (λ J. runner l J ≡ runner l H) (λ k w J e. e) why vs H refl

-- others than these are known after their ends
abbrev pub AreFar : List Life → List Life → Type 0
AreFar vs ws = AllByRecursion (λ (v : Life). AllByRecursion (λ (w : Life). eqb v.link w.link ≡ false) ws) vs

pub ends_known : (why : Cause) (vs ws : List Life) (H : List Mark) → AreFar vs ws → AreKnown H ws → AreKnown (after (end_all why vs) H) ws
ends_known why [] ws H far k = k
ends_known why (v ∷ vs) ws H far k = ends_known why vs ws (Ends v.link why ∷ H) far.1 (still_known H v.link why ws far.0 k)

-- those that pass one test are others than those that pass one that excludes it
pub kept_far : (s t : Life → Bool) → ((v : Life) → s v ≡ true → t v ≡ false) → (vs : List Life) → Apart (λ (v : Life). v.link) vs → AreFar (filter s vs) (filter t vs)
kept_far s t x [] a = tt
kept_far s t x (v ∷ vs) a = by (kept_far s t x vs a.1) (s v) refl (t v) refl
  where
    here : AllByRecursion (λ (w : Life). eqb v.link w.link ≡ false) (filter t vs)
    here = All-kept (λ (w : Life). eqb v.link w.link ≡ false) t vs a.0

    with_one : (us : List Life) → AllByRecursion (λ (u : Life). eqb v.link u.link ≡ false) us → AreFar us (filter t vs) → AreFar us (v ∷ filter t vs)
    with_one [] h f = tt
    with_one (u ∷ us) h f = ((eqb-comm u.link v.link ∙ h.0, f.0), with_one us h.1 f.1)

    by : AreFar (filter s vs) (filter t vs) → (b : Bool) → s v ≡ b → (d : Bool) → t v ≡ d → AreFar (cond b (v ∷ filter s vs) (filter s vs)) (cond d (v ∷ filter t vs) (filter t vs))
    by r true e true f = let z : true ≡ false = sym f ∙ x v e in cc
    by r true e false f = (here, r)
    by r false e true f = with_one (filter s vs) (All-kept (λ (u : Life). eqb v.link u.link ≡ false) s vs a.0) r
    by r false e false f = r

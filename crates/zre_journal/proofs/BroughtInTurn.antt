-- What is brought for each known peer in turn, as it is read of one of them; and who is found by an id.
use Rattle.std.proofs.Common.{◌≡◌, ℕ, ◌+◌, Bool, true, false, true≢false, cond, eqb, ltb, List, [], ◌∷◌, ◌++◌, Some, None, find, filter, refl, sym, ap, ◌∙◌, subst, eqb-true, append-nil}
use Rattle.std.specs.List.{AllByRecursion}
use Rattle.std.specs.Str.{bytes_eq}
use Rattle.zre_values.proofs.Digits.{bytes_eq-same}
use Rattle.zre_values.specs.declared.limits.TheConstants.{UNSENT_OCTETS}
use Rattle.zre_values.specs.declared.peer_id.PeerId.{PeerId}
use Rattle.zre_msg.specs.declared.message.Body.{Body}
use Rattle.zre_link.specs.Link.{unsent_of}
use Rattle.zre_link.specs.Text.{Member, size_of}
use Rattle.zre_peer.specs.declared.causes.Cause.TheVariants as cause
use Rattle.zre_values.specs.declared.settings.Settings.{Settings as Config}
use Rattle.zre_journal.specs.Chronicle.{Mark, Ends, Puts, after, in_turn}
use Rattle.zre_journal.specs.Links.{line, taken, unsent}
use Rattle.zre_journal.specs.Peers.{Life, lives, life, life_of}
use Rattle.zre_journal.specs.Proper.{IsProper, Apart}
use Rattle.zre_journal.specs.Pushes.{push}
use Rattle.zre_journal.proofs.WithinCounts.{AreNamed, found_kept, none_kept}
use Rattle.zre_journal.proofs.KnownPeers.{known_of, same_id, id_of}
use Rattle.zre_journal.proofs.NumberedLists.{Apart-kept}
use Rattle.zre_journal.proofs.WhenMarksCome.{choice}

abbrev pub is_at : ℕ → Life → Bool
is_at l u = eqb l u.link

pub none_there : (l : ℕ) (us : List Life) → AllByRecursion (λ (w : Life). eqb l w.link ≡ false) us → find (is_at l) us ≡ None
none_there l [] far = refl
none_there l (u ∷ us) far = rw far.0 (none_there l us far.1)

-- the only one of its link isn't among those that are kept, where it is not kept
pub dropped : (t : Life → Bool) (us : List Life) (v : Life) → find (is_at v.link) us ≡ Some v → t v ≡ false → Apart (λ (u : Life). u.link) us → find (is_at v.link) (filter t us) ≡ None
dropped t [] v e n a = refl
dropped t (u ∷ us) v e n a = by (λ f. dropped t us v f n a.1) (is_at v.link u) refl (t u) refl e
  where
    by : (find (is_at v.link) us ≡ Some v → find (is_at v.link) (filter t us) ≡ None) → (b : Bool) → is_at v.link u ≡ b → (d : Bool) → t u ≡ d → cond b (Some u) (find (is_at v.link) us) ≡ Some v
        → find (is_at v.link) (cond d (u ∷ filter t us) (filter t us)) ≡ None
    by r true q d z f = same (let is : u ≡ v = cc in is) d z
      where
        same : u ≡ v → (d : Bool) → t u ≡ d → find (is_at v.link) (cond d (u ∷ filter t us) (filter t us)) ≡ None
        same is true z = let w : true ≡ false = sym z ∙ ap t is ∙ n in cc
        same is false z = none_kept (is_at v.link) t us (none_there v.link us (subst (λ (x : Life). AllByRecursion (λ (w : Life). eqb x.link w.link ≡ false) us) is a.0))
    by r false q true z f = rw q (r f)
    by r false q false z f = r f

-- ---- a push

-- a body that is put where these stand on the link and so many octets have gone out
abbrev pushed : Config → ℕ → Body → List Member → ℕ → List Mark
pushed g l b ms n =
    let size = size_of ms b in
    cond (ltb UNSENT_OCTETS (unsent_of g.id ms n + size)) (Ends l (cause.Slow (unsent_of g.id ms n) size) ∷ []) (Puts l b ∷ [])

pub same_push : (g : Config) (l : ℕ) (b : Body) (J K : List Mark) → line l J ≡ line l K → taken l J ≡ taken l K → push g l b J ≡ push g l b K
same_push g l b J K x y = ap (λ ms. pushed g l b ms (taken l J)) x ∙ ap (λ n. pushed g l b (line l K) n) y

-- on another link it leaves this one as it is
pub far_stays : (g : Config) (l k : ℕ) (b : Body) (I J : List Mark) → eqb l k ≡ false → (line l (after (push g k b I) J) ≡ line l J) × (taken l (after (push g k b I) J) ≡ taken l J)
far_stays g l k b I J far = choice (λ hs. (line l (after hs J) ≡ line l J) × (taken l (after hs J) ≡ taken l J)) (ltb UNSENT_OCTETS (unsent g k I + size_of (line k I) b)) _ _ (λ z. (refl, refl)) (λ z. (rw far refl, refl))

-- ---- what is brought for each in turn

module _ {A : Type 0} (read : List Mark → List A) (none : read [] ≡ []) (joins : (hs ks : List Mark) → read (hs ++ ks) ≡ read hs ++ read ks) where
  -- for others alone
  module _ (l : ℕ) (f : Life → List Mark → List Mark) (far : (u : Life) (J : List Mark) → eqb l u.link ≡ false → read (f u J) ≡ []) where
    pub absent : (us : List Life) (J : List Mark) → find (is_at l) us ≡ None → read (in_turn f us J) ≡ []
    absent [] J e = none
    absent (u ∷ us) J e = by (absent us (after (f u J) J)) (is_at l u) refl e
      where
        by : (find (is_at l) us ≡ None → read (in_turn f us (after (f u J) J)) ≡ []) → (t : Bool) → is_at l u ≡ t → cond t (Some u) (find (is_at l) us) ≡ None
            → read (f u J ++ in_turn f us (after (f u J) J)) ≡ []
        by r true q e = cc
        by r false q e = joins (f u J) (in_turn f us (after (f u J) J)) ∙ ap (λ xs. xs ++ read (in_turn f us (after (f u J) J))) (far u J q) ∙ r e

  -- for v too, where what is brought for others leaves its link as it was
  module _ (v : Life) (K : List Mark) (out : Bool → List A) (nothing : out false ≡ []) (f : Life → List Mark → List Mark) (far : (u : Life) (J : List Mark) → eqb v.link u.link ≡ false → read (f u J) ≡ [])
      (own : (J : List Mark) → line v.link J ≡ line v.link K → taken v.link J ≡ taken v.link K → read (f v J) ≡ out true)
      (stays : (u : Life) (J : List Mark) → eqb v.link u.link ≡ false → (line v.link (after (f u J) J) ≡ line v.link J) × (taken v.link (after (f u J) J) ≡ taken v.link J)) where
    present : (us : List Life) (J : List Mark) → line v.link J ≡ line v.link K → taken v.link J ≡ taken v.link K → find (is_at v.link) us ≡ Some v → Apart (λ (u : Life). u.link) us
        → read (in_turn f us J) ≡ out true
    present [] J x y e a = cc
    present (u ∷ us) J x y e a = by (λ s z. present us (after (f u J) J) (s.0 ∙ x) (s.1 ∙ y) z a.1) (is_at v.link u) refl e
      where
        M : List Mark
        M = after (f u J) J

        by : ((line v.link M ≡ line v.link J) × (taken v.link M ≡ taken v.link J) → find (is_at v.link) us ≡ Some v → read (in_turn f us M) ≡ out true)
            → (t : Bool) → is_at v.link u ≡ t → cond t (Some u) (find (is_at v.link) us) ≡ Some v → read (f u J ++ in_turn f us M) ≡ out true
        by r true q e =
            let is : u ≡ v = cc in
            let others = subst (λ (w : Life). AllByRecursion (λ (z : Life). eqb w.link z.link ≡ false) us) is a.0 in
            joins (f u J) (in_turn f us M)
            ∙ ap (λ xs. read (f u J) ++ xs) (absent v.link f far us M (none_there v.link us others)) ∙ append-nil (read (f u J))
            ∙ subst (λ (w : Life). read (f w J) ≡ out true) (sym is) (own J x y)
        by r false q e =
            joins (f u J) (in_turn f us M) ∙ ap (λ xs. xs ++ read (in_turn f us M)) (far u J q) ∙ r (stays u J q) e

    -- for all, and for those of them that a test chooses
    module _ (apart : Apart (λ (u : Life). u.link) (lives K)) (known : life v.link K ≡ Some v) where
      pub all_turns : read (in_turn f (lives K) K) ≡ out true
      all_turns = present (lives K) K refl refl known apart

      pub some_turns : (t : Life → Bool) → read (in_turn f (filter t (lives K)) K) ≡ out (t v)
      some_turns t = by (t v) refl
        where
          by : (d : Bool) → t v ≡ d → read (in_turn f (filter t (lives K)) K) ≡ out d
          by true z = present (filter t (lives K)) K refl refl (found_kept (is_at v.link) t (lives K) v known z) (Apart-kept (λ (u : Life). u.link) t (lives K) apart)
          by false z = absent v.link f far (filter t (lives K)) K (dropped t (lives K) v known z apart) ∙ sym nothing

-- ---- who is found by an id

-- a peer that is found so is v, or another one
pub data Meets (v : Life) (p : PeerId) (u : Life) : Type 0 where
  Same : bytes_eq p.0 v.id.0 ≡ true → u ≡ v → Meets v p u
  Other : bytes_eq p.0 v.id.0 ≡ false → eqb v.link u.link ≡ false → Meets v p u

pub meets : (K : List Mark) → IsProper K → AreNamed K → (v : Life) → life v.link K ≡ Some v → (p : PeerId) (u : Life) → life_of p K ≡ Some u → Meets v p u
meets K q names v known p u e = by (bytes_eq p.0 v.id.0) refl (eqb v.link u.link) refl
  where
    by : (t : Bool) → bytes_eq p.0 v.id.0 ≡ t → (d : Bool) → eqb v.link u.link ≡ d → Meets v p u
    by true z d y = Same z (let both : Some u ≡ Some v = sym e ∙ ap (λ i. life_of i K) (sym (same_id p v.id z)) ∙ names v.link v known in cc)
    by false z false y = Other z y
    by false z true y =
        let one : Some u ≡ Some v = sym (known_of K q p u e) ∙ ap (λ k. life k K) (sym (eqb-true v.link u.link y)) ∙ known in
        let is : u ≡ v = cc in
        let hers : v.id ≡ p = ap (λ (w : Life). w.id) (sym is) ∙ id_of K p u e in
        absurd (true≢false (sym (bytes_eq-same p.0 v.id.0 (ap (λ (i : PeerId). i.0) (sym hers))) ∙ z))

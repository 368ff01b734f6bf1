-- Known peers have ids of their own, and neither they nor the open connections pass their limits.
use Rattle.std.proofs.Common.{◌≡◌, ℕ, ◌+◌, ◌≤◌, Bool, true, false, cond, not, eqb, List, [], ◌∷◌, ◌++◌, length, Some, None, find, filter, refl, sym, ap, ◌∙◌, arith, subst, eq-eqb}
use Rattle.std.specs.Str.{bytes_eq}
use Rattle.zre_values.specs.declared.peer_id.PeerId.{PeerId}
use Rattle.zre_values.specs.declared.limits.TheConstants.{PEERS, CONNECTIONS}
use Rattle.zre_values.proofs.Digits.{bytes_eq-same}
use Rattle.zre_outside.specs.declared.entry.Entry.{Entry}
use Rattle.zre_peer.specs.declared.causes.Cause.{Cause}
use Rattle.zre_values.specs.declared.settings.Settings.{Settings as Config}
use Rattle.zre_journal.specs.Chronicle.{Mark, Opens, Closes, IsShut, ClosesAtStop, Born, Ends}
use Rattle.zre_journal.specs.Connections.{open_ones, has_ended, others}
use Rattle.zre_journal.specs.Peers.{Life, lives, life, life_of, other_lives}
use Rattle.zre_journal.specs.Events.{chronicle}
use Rattle.zre_journal.specs.Proper.{IsProper}
use Rattle.zre_journal.specs.Laws.{AreFew}
use Rattle.zre_journal.proofs.ProperChronicles.{always}
use Rattle.zre_journal.proofs.KnownPeers.{same_id, life_stays}
use Rattle.zre_journal.proofs.NumberedLists.{eqb-comm, found_before}
use Rattle.zre_journal.proofs.WhenMarksCome.{May, step}
use Rattle.zre_journal.proofs.ProperPeers.{known_lives}
use Rattle.std.proofs.lemmas.List.{length-append}

-- ---- lists

pub kept-length : {A : Type 0} (t : A → Bool) (xs : List A) → length (filter t xs) ≤ length xs
kept-length t [] = omega arith
kept-length t (x ∷ xs) = by (kept-length t xs) (t x)
  where
    by : length (filter t xs) ≤ length xs → (b : Bool) → length (cond b (x ∷ filter t xs) (filter t xs)) ≤ length (x ∷ xs)
    by r true = omega (arith, r)
    by r false = omega (arith, r)

-- what is found and kept is found among those that are kept
pub found_kept : {A : Type 0} (t s : A → Bool) (xs : List A) (y : A) → find t xs ≡ Some y → s y ≡ true → find t (filter s xs) ≡ Some y
found_kept t s [] y e k = cc
found_kept t s (x ∷ xs) y e k = by (λ f. found_kept t s xs y f k) (t x) refl (s x) refl e
  where
    by : (find t xs ≡ Some y → find t (filter s xs) ≡ Some y) → (b : Bool) → t x ≡ b → (d : Bool) → s x ≡ d → cond b (Some x) (find t xs) ≡ Some y → find t (cond d (x ∷ filter s xs) (filter s xs)) ≡ Some y
    by r true q true z f = rw q f
    by r true q false z f = let same : x ≡ y = cc in let w : false ≡ true = sym z ∙ ap s same ∙ k in cc
    by r false q true z f = rw q (r f)
    by r false q false z f = r f

-- where none is found, none is among those that are kept
pub none_kept : {A : Type 0} (t s : A → Bool) (xs : List A) → find t xs ≡ None → find t (filter s xs) ≡ None
none_kept t s [] e = refl
none_kept t s (x ∷ xs) e = by (none_kept t s xs) (t x) refl (s x) e
  where
    by : (find t xs ≡ None → find t (filter s xs) ≡ None) → (b : Bool) → t x ≡ b → (d : Bool) → cond b (Some x) (find t xs) ≡ None → find t (cond d (x ∷ filter s xs) (filter s xs)) ≡ None
    by r true q d f = cc
    by r false q true f = rw q (r f)
    by r false q false f = r f

-- what is found with one more at the end is found before it, or is that one, where none is found before it
pub data AtEnd {A : Type 0} (t : A → Bool) (xs : List A) (y z : A) : Type 0 where
  Front : find t xs ≡ Some z → AtEnd t xs y z
  Back : find t xs ≡ None → y ≡ z → t y ≡ true → AtEnd t xs y z

pub at_end : {A : Type 0} (t : A → Bool) (xs : List A) (y z : A) → find t (xs ++ y ∷ []) ≡ Some z → AtEnd t xs y z
at_end t [] y z e = by (t y) refl e
  where
    by : (b : Bool) → t y ≡ b → cond b (Some y) None ≡ Some z → AtEnd t [] y z
    by true q f = Back refl (let same : y ≡ z = cc in same) q
    by false q f = absurd (let w : None ≡ Some z = f in cc)
at_end t (x ∷ xs) y z e = by (at_end t xs y z) (t x) refl e
  where
    by : (find t (xs ++ y ∷ []) ≡ Some z → AtEnd t xs y z) → (b : Bool) → t x ≡ b → cond b (Some x) (find t (xs ++ y ∷ [])) ≡ Some z → AtEnd t (x ∷ xs) y z
    by r true q f = Front (rw q f)
    by r false q f = next (r f)
      where
        next : AtEnd t xs y z → AtEnd t (x ∷ xs) y z
        next (Front g) = Front (rw q g)
        next (Back n s w) = Back (rw q n) s w

pub none_end : {A : Type 0} (t : A → Bool) (xs : List A) (y : A) → find t xs ≡ None → t y ≡ true → find t (xs ++ y ∷ []) ≡ Some y
none_end t [] y e k = rw k refl
none_end t (x ∷ xs) y e k = by (λ f. none_end t xs y f k) (t x) e
  where
    by : (find t xs ≡ None → find t (xs ++ y ∷ []) ≡ Some y) → (b : Bool) → cond b (Some x) (find t xs) ≡ None → cond b (Some x) (find t (xs ++ y ∷ [])) ≡ Some y
    by r true f = cc
    by r false f = r f

-- ---- ids

-- what is found by its link is found by its id
abbrev pub AreNamed : List Mark → Type 0
AreNamed H = (l : ℕ) (v : Life) → life l H ≡ Some v → life_of v.id H ≡ Some v

-- peers on two links have two ids
pub ids_apart : (H : List Mark) → IsProper H → AreNamed H → (l k : ℕ) (v w : Life) → life l H ≡ Some v → life k H ≡ Some w → eqb l k ≡ false → bytes_eq v.id.0 w.id.0 ≡ false
ids_apart H q n l k v w e f far = by (bytes_eq v.id.0 w.id.0) refl
  where
    by : (b : Bool) → bytes_eq v.id.0 w.id.0 ≡ b → b ≡ false
    by false s = refl
    by true s =
        let z : Some v ≡ Some w = sym (n l v e) ∙ ap (λ (i : PeerId). life_of i H) (sym (same_id v.id w.id s)) ∙ n k w f in
        let same : v ≡ w = cc in
        let link : l ≡ k = (known_lives H q l v e).2 ∙ ap (λ (x : Life). x.link) same ∙ sym (known_lives H q k w f).2 in
        let y : true ≡ false = sym (eq-eqb l k link) ∙ far in
        cc

-- of another link than one that ended
pub another : (H : List Mark) (l k : ℕ) (why : Cause) (v : Life) → IsProper (Ends l why ∷ H) → life k (Ends l why ∷ H) ≡ Some v → eqb l k ≡ false
another H l k why v p e = by (eqb k l) refl (known_lives (Ends l why ∷ H) p k v e).0
  where
    by : (b : Bool) → eqb k l ≡ b → cond b true (has_ended k H) ≡ false → eqb l k ≡ false
    by true q z = cc
    by false q z = eqb-comm l k ∙ q

pub named_more : (h : Mark) (H : List Mark) → IsProper H → May h H → IsProper (h ∷ H) → AreNamed H → AreNamed (h ∷ H)
named_more (Born n p e) H q m r o = λ l v f. by l v (at_end (λ (u : Life). eqb l u.link) (lives H) (record { link = n; id = p; endpoint = e }) v f) (o l v)
  where
    by : (l : ℕ) (v : Life) → AtEnd (λ (u : Life). eqb l u.link) (lives H) (record { link = n; id = p; endpoint = e }) v → (life l H ≡ Some v → life_of v.id H ≡ Some v) → life_of v.id (Born n p e ∷ H) ≡ Some v
    by l v (Front f) s = found_before (λ (u : Life). bytes_eq v.id.0 u.id.0) (lives H) (record { link = n; id = p; endpoint = e } ∷ []) v (s f)
    by l v (Back f same w) s = subst (λ (u : Life). life_of u.id (Born n p e ∷ H) ≡ Some u) same
        (none_end (λ (u : Life). bytes_eq p.0 u.id.0) (lives H) (record { link = n; id = p; endpoint = e }) m.is_unknown (bytes_eq-same p.0 p.0 refl))
named_more (Ends n why) H q m r o = λ l v f.
    let far = another H n l why v r f in
    let old : life l H ≡ Some v = sym (life_stays H n l why far) ∙ f in
    let link : l ≡ v.link = (known_lives H q l v old).2 in
    let off : eqb n v.link ≡ false = subst (λ k. eqb n k ≡ false) link far in
    found_kept (λ (u : Life). bytes_eq v.id.0 u.id.0) (λ (u : Life). not (eqb n u.link)) (lives H) v (o l v old) (rw off refl)
named_more _ H q m r o = o

pub named : (g : Config) (journal : List Entry) → AreNamed (chronicle g journal)
named g journal = always g AreNamed (λ h H q m o. named_more h H q m (step h H q m) o) (λ l v e. cc) journal

-- ---- limits

pub record IsWithin (H : List Mark) : Type 0 where
  pub peers : length (lives H) ≤ PEERS
  pub connections : length (open_ones H) ≤ CONNECTIONS

pub within_more : (h : Mark) (H : List Mark) → IsProper H → May h H → IsWithin H → IsWithin (h ∷ H)
within_more (Born n p e) H q m o = record {
  peers = let r : length (lives H ++ record { link = n; id = p; endpoint = e } ∷ []) ≡ length (lives H) + 1 = length-append (lives H) (record { link = n; id = p; endpoint = e } ∷ []) in omega (arith, r, m.has_room);
  connections = o.connections;
}
within_more (Ends n why) H q m o = record {
  peers = let r : length (other_lives n (lives H)) ≤ length (lives H) = kept-length (λ (v : Life). not (eqb n v.link)) (lives H) in omega (arith, r, o.peers);
  connections = o.connections;
}
within_more (Opens c) H q m o = record {
  peers = o.peers;
  connections = let r : length (open_ones H ++ c ∷ []) ≡ length (open_ones H) + 1 = length-append (open_ones H) (c ∷ []) in omega (arith, r, m.has_place);
}
within_more (Closes c why) H q m o = record { peers = o.peers; connections = let r : length (others c (open_ones H)) ≤ length (open_ones H) = kept-length (λ d. not (eqb c d)) (open_ones H) in omega (arith, r, o.connections) }
within_more (IsShut c) H q m o = record { peers = o.peers; connections = let r : length (others c (open_ones H)) ≤ length (open_ones H) = kept-length (λ d. not (eqb c d)) (open_ones H) in omega (arith, r, o.connections) }
within_more (ClosesAtStop c) H q m o = record { peers = o.peers; connections = let r : length (others c (open_ones H)) ≤ length (open_ones H) = kept-length (λ d. not (eqb c d)) (open_ones H) in omega (arith, r, o.connections) }
within_more _ H q m o = record { peers = o.peers; connections = o.connections }

pub are_few : (g : Config) (journal : List Entry) → AreFew (chronicle g journal)
are_few g journal = record {
  each_once = λ l k v w e f same.
      let one : life_of v.id H ≡ Some v = named g journal l v e in
      let z : Some v ≡ Some w = sym one ∙ ap (λ (i : PeerId). life_of i H) same ∙ named g journal k w f in
      cc;
  few_peers = within.peers;
  few_connections = within.connections;
}
  where
    H : List Mark
    H = chronicle g journal

    within : IsWithin (chronicle g journal)
    within = always g IsWithin within_more (record { peers = omega arith; connections = omega arith }) journal

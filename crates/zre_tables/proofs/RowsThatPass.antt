-- Rows that pass a test, found one by one.
use Rattle.std.proofs.Common.{◌≡◌, ℕ, Bool, true, false, cond, List, [], ◌∷◌, ◌++◌, map, filter, is_some, refl, ap, ◌∙◌, append_assoc}
use Rattle.zre_values.specs.declared.peer_id.PeerId.{PeerId}
use Rattle.zre_tables.specs.declared.peer.Peer.{Peer}
use Rattle.zre_tables.specs.Rows.{numbers_of}
use Rattle.zre_tables.specs.Tabled.{Tabled}
use Rattle.zre_tables.specs.Views.{ids_entered}

-- one row more
pub one_row : {V : Type 0} (test : V → Bool) (n : ℕ) (k : V) (es : List (ℕ × V)) (found found' start : List ℕ) → test k ≡ true → found' ≡ found ++ n ∷ [] → found ++ numbers_of test ((n, k) ∷ es) ≡ start → found' ++ numbers_of test es ≡ start
one_row test n k es found found' start t f e =
    let whole : found ++ n ∷ numbers_of test es ≡ start = rw t at e in
    ap (λ (ns : List ℕ). ns ++ numbers_of test es) f ∙ append_assoc found (n ∷ []) (numbers_of test es) ∙ whole

-- one row that doesn't pass
pub no_row_more : {V : Type 0} (test : V → Bool) (n : ℕ) (k : V) (es : List (ℕ × V)) (found start : List ℕ) → test k ≡ false → found ++ numbers_of test ((n, k) ∷ es) ≡ start → found ++ numbers_of test es ≡ start
no_row_more test n k es found start t e = rw t at e

-- the rows that pass are those of the things that pass
pub numbers_are : {A V : Type 0} (key : A → ℕ) (P : A → V → Type 0) (s : V → Bool) (t : A → Bool) → ((x : A) (w : V) → P x w → s w ≡ t x) → (xs : List A) (es : List (ℕ × V)) → Tabled key P xs es → numbers_of s es ≡ map key (filter t xs)
numbers_are key P s t same [] [] h = refl
numbers_are key P s t same [] (e ∷ es) h = absurd h
numbers_are key P s t same (x ∷ xs) [] h = absurd h
numbers_are key P s t same (x ∷ xs) (e ∷ es) h = rw (h.0, same x e.1 h.1) (by (numbers_are key P s t same xs es h.2) (t x))
  where
    by : numbers_of s es ≡ map key (filter t xs) → (b : Bool) → cond b (key x ∷ numbers_of s es) (numbers_of s es) ≡ map key (cond b (x ∷ filter t xs) (filter t xs))
    by r true = ap (λ ns. key x ∷ ns) r
    by r false = r

-- ---- those that are entered

-- one row more, entered or not
pub one_entered : (k : Peer) (l : ℕ) (es : List (ℕ × Peer)) (ids ids' all : List PeerId) → is_some k.run ≡ true → ids' ≡ ids ++ k.id ∷ [] → ids ++ ids_entered ((l, k) ∷ es) ≡ all → ids' ++ ids_entered es ≡ all
one_entered k l es ids ids' all b p e =
    let whole : ids ++ k.id ∷ ids_entered es ≡ all = rw b at e in
    rw p (append_assoc ids (k.id ∷ []) (ids_entered es) ∙ whole)

pub none_entered : (k : Peer) (l : ℕ) (es : List (ℕ × Peer)) (ids all : List PeerId) → is_some k.run ≡ false → ids ++ ids_entered ((l, k) ∷ es) ≡ all → ids ++ ids_entered es ≡ all
none_entered k l es ids all b e = rw b at e

-- What is known was born and hasn't ended, and what is open was opened and hasn't been closed.
use Rattle.std.proofs.Common.{◌≡◌, ℕ, ◌+◌, Bool, true, false, cond, not, ◌||◌, eqb, List, [], ◌∷◌, ◌++◌, Some, None, find, refl, sym, ap, ◌∙◌, subst, eqb-true, eq-eqb}
use Rattle.std.specs.List.{list_any}
use Rattle.zre_values.specs.declared.peer_id.PeerId.{PeerId}
use Rattle.zre_values.specs.declared.endpoint.Endpoint.{Endpoint}
use Rattle.zre_outside.specs.declared.entry.Entry.{Entry}
use Rattle.zre_values.specs.declared.settings.Settings.{Settings as Config}
use Rattle.zre_journal.specs.Chronicle.{Mark, Opens, Closes, IsShut, ClosesAtStop, Born, Ends}
use Rattle.zre_journal.specs.Connections.{open_ones, is_open, has_ended, others}
use Rattle.zre_journal.specs.Events.{chronicle}
use Rattle.zre_journal.specs.Peers.{Life, lives, life, other_lives, births}
use Rattle.zre_journal.specs.Proper.{IsProper}
use Rattle.zre_journal.specs.Standing.{WasBorn, KnownIsBorn, has_closed, WasOpened, OpenIsOpened}
use Rattle.zre_journal.proofs.ProperChronicles.{always}
use Rattle.zre_journal.proofs.WithinCounts.{AtEnd, Front, Back, at_end}
use Rattle.zre_journal.proofs.KnownPeers.{life_stays, newborn_known}
use Rattle.zre_journal.proofs.NumberedLists.{eqb-comm, found_before, any_append, any_of_append, any_left, any_other}
use Rattle.zre_journal.proofs.WhenMarksCome.{May}

pub either_or : (b c : Bool) → cond b true c ≡ false → (b ≡ false) × (c ≡ false)
either_or true c e = cc
either_or false c e = (refl, e)

-- ---- what came before a mark of the chronicle

abbrev CameRight : List Mark → Type 0
CameRight H = (later before : List Mark) (h : Mark) → H ≡ later ++ h ∷ before → IsProper before × May h before

right_more : (h : Mark) (H : List Mark) → IsProper H → May h H → CameRight H → CameRight (h ∷ H)
right_more h H p m r [] before k e = let same : h ≡ k = cc in let rest : H ≡ before = cc in subst (λ X. IsProper X × May k X) rest (subst (λ x. IsProper H × May x H) same (p, m))
right_more h H p m r (x ∷ later) before k e = r later before k (let rest : H ≡ later ++ k ∷ before = cc in rest)

none_right : CameRight []
none_right [] before k e = cc
none_right (x ∷ later) before k e = cc

pub came_right : (g : Config) (journal : List Entry) → CameRight (chronicle g journal)
came_right g journal = always g CameRight right_more none_right journal

-- ---- peers

-- none is of the number that is taken out
pub none_left : (n l : ℕ) → eqb n l ≡ true → (vs : List Life) → find (λ (v : Life). eqb l v.link) (other_lives n vs) ≡ None
none_left n l e [] = refl
none_left n l e (v ∷ vs) = by (eqb n v.link) refl (none_left n l e vs)
  where
    by : (b : Bool) → eqb n v.link ≡ b → find (λ (v : Life). eqb l v.link) (other_lives n vs) ≡ None → find (λ (v : Life). eqb l v.link) (cond (not b) (v ∷ other_lives n vs) (other_lives n vs)) ≡ None
    by true q r = r
    by false q r = let far : eqb l v.link ≡ false = ap (λ m. eqb m v.link) (sym (eqb-true n l e)) ∙ q in rw far r

born_with : (h : Mark) (H : List Mark) (l : ℕ) (p : PeerId) (to : Endpoint) → ((K : List Mark) → has_ended l (h ∷ K) ≡ has_ended l K) → WasBorn l p to H → WasBorn l p to (h ∷ H)
born_with h H l p to s w = record { later = h ∷ w.later; before = w.before; stands = ap (λ X. h ∷ X) w.stands; not_ended = s w.later ∙ w.not_ended }

born : (H : List Mark) (l : ℕ) (v : Life) → life l H ≡ Some v → WasBorn l v.id v.endpoint H
born [] l v e = cc
born (Born k p to ∷ H) l v e = by (born H l v) (at_end (λ (u : Life). eqb l u.link) (lives H) (record { link = k; id = p; endpoint = to }) v e)
  where
    new : Life
    new = record { link = k; id = p; endpoint = to }

    by : (life l H ≡ Some v → WasBorn l v.id v.endpoint H) → AtEnd (λ (u : Life). eqb l u.link) (lives H) new v → WasBorn l v.id v.endpoint (Born k p to ∷ H)
    by r (Front f) = born_with (Born k p to) H l v.id v.endpoint (λ K. refl) (r f)
    by r (Back n same t) = subst (λ (u : Life). WasBorn l u.id u.endpoint (Born k p to ∷ H)) same
        (subst (λ m. WasBorn m p to (Born k p to ∷ H)) (sym (eqb-true l k t)) (record { later = []; before = H; stands = refl; not_ended = refl }))
born (Ends k why ∷ H) l v e = by (born H l v) (eqb k l) refl
  where
    by : (life l H ≡ Some v → WasBorn l v.id v.endpoint H) → (b : Bool) → eqb k l ≡ b → WasBorn l v.id v.endpoint (Ends k why ∷ H)
    by r true q = let z : None ≡ Some v = sym (none_left k l q (lives H)) ∙ e in cc
    by r false q = born_with (Ends k why) H l v.id v.endpoint (λ K. ap (λ b. cond b true (has_ended l K)) (eqb-comm l k ∙ q)) (r (sym (life_stays H k l why q) ∙ e))
born (_ ∷ H) l v e = born_with _ H l v.id v.endpoint (λ K. refl) (born H l v e)

-- one that is known stays so where its end doesn't come
stays : (later H : List Mark) (l : ℕ) (v : Life) → has_ended l later ≡ false → life l H ≡ Some v → life l (later ++ H) ≡ Some v
stays [] H l v n e = e
stays (Born k p to ∷ later) H l v n e = found_before (λ (u : Life). eqb l u.link) (lives (later ++ H)) (record { link = k; id = p; endpoint = to } ∷ []) v (stays later H l v n e)
stays (Ends k why ∷ later) H l v n e = let r = either_or (eqb l k) (has_ended l later) n in life_stays (later ++ H) k l why (eqb-comm k l ∙ r.0) ∙ stays later H l v r.1 e
stays (_ ∷ later) H l v n e = stays later H l v n e

-- the newborn is known
known_now : (H : List Mark) (l : ℕ) (p : PeerId) (to : Endpoint) → IsProper H → l ≡ births H + 1 → life l (Born l p to ∷ H) ≡ Some (record { link = l; id = p; endpoint = to })
known_now H l p to q e = subst (λ m. life m (Born m p to ∷ H) ≡ Some (record { link = m; id = p; endpoint = to })) (sym e) (newborn_known H q p to)

pub known_is_born : (g : Config) (journal : List Entry) → KnownIsBorn (chronicle g journal)
known_is_born g journal = record {
  was_born = born (chronicle g journal);
  is_known = λ l p to w.
      let r = came_right g journal w.later w.before (Born l p to) w.stands in
      ap (life l) w.stands ∙ stays w.later (Born l p to ∷ w.before) l (record { link = l; id = p; endpoint = to }) w.not_ended (known_now w.before l p to r.0 r.1.next_link);
}

-- ---- connections

pub none_open : (n c : ℕ) → eqb n c ≡ true → (cs : List ℕ) → list_any (eqb c) (others n cs) ≡ false
none_open n c e [] = refl
none_open n c e (d ∷ cs) = by (eqb n d) refl (none_open n c e cs)
  where
    by : (b : Bool) → eqb n d ≡ b → list_any (eqb c) (others n cs) ≡ false → list_any (eqb c) (cond (not b) (d ∷ others n cs) (others n cs)) ≡ false
    by true q r = r
    by false q r = let far : eqb c d ≡ false = ap (λ m. eqb m d) (sym (eqb-true n c e)) ∙ q in rw far r

pub last_open : (c : ℕ) (cs : List ℕ) → list_any (eqb c) (cs ++ c ∷ []) ≡ true
last_open c [] = let me : eqb c c ≡ true = eq-eqb c c refl in rw me refl
last_open c (d ∷ cs) = by (eqb c d) (last_open c cs)
  where
    by : (b : Bool) → list_any (eqb c) (cs ++ c ∷ []) ≡ true → (b || list_any (eqb c) (cs ++ c ∷ [])) ≡ true
    by true r = refl
    by false r = r

opened_with : (h : Mark) (H : List Mark) (c : ℕ) → ((K : List Mark) → has_closed c (h ∷ K) ≡ has_closed c K) → WasOpened c H → WasOpened c (h ∷ H)
opened_with h H c s w = record { later = h ∷ w.later; before = w.before; stands = ap (λ X. h ∷ X) w.stands; not_closed = s w.later ∙ w.not_closed }

-- one that is open after another closing was so before
closing : (h : Mark) (H : List Mark) (c d : ℕ) → ((b : Bool) → eqb c d ≡ b → (K : List Mark) → has_closed c (h ∷ K) ≡ cond b true (has_closed c K)) → (list_any (eqb c) (open_ones H) ≡ true → WasOpened c H)
    → list_any (eqb c) (others d (open_ones H)) ≡ true → WasOpened c (h ∷ H)
closing h H c d s r e = by (eqb d c) refl
  where
    by : (b : Bool) → eqb d c ≡ b → WasOpened c (h ∷ H)
    by true q = let z : false ≡ true = sym (none_open d c q (open_ones H)) ∙ e in cc
    by false q = opened_with h H c (s false (eqb-comm c d ∙ q)) (r (any_left d c (open_ones H) e))

opened : (H : List Mark) (c : ℕ) → is_open c H ≡ true → WasOpened c H
opened [] c e = cc
opened (Opens d ∷ H) c e = by (opened H c) (eqb c d) refl
  where
    by : (is_open c H ≡ true → WasOpened c H) → (b : Bool) → eqb c d ≡ b → WasOpened c (Opens d ∷ H)
    by r true q = subst (λ m. WasOpened m (Opens d ∷ H)) (sym (eqb-true c d q)) (record { later = []; before = H; stands = refl; not_closed = refl })
    by r false q = opened_with (Opens d) H c (λ K. refl) (r (any_of_append c d (open_ones H) q e))
opened (Closes d why ∷ H) c e = closing (Closes d why) H c d (λ b q K. ap (λ t. cond t true (has_closed c K)) q) (opened H c) e
opened (IsShut d ∷ H) c e = closing (IsShut d) H c d (λ b q K. ap (λ t. cond t true (has_closed c K)) q) (opened H c) e
opened (ClosesAtStop d ∷ H) c e = closing (ClosesAtStop d) H c d (λ b q K. ap (λ t. cond t true (has_closed c K)) q) (opened H c) e
opened (_ ∷ H) c e = opened_with _ H c (λ K. refl) (opened H c e)

-- one that is open stays so where no closing of it comes
past : (later H : List Mark) (c d : ℕ) → (eqb c d ≡ false) × (has_closed c later ≡ false) → (has_closed c later ≡ false → is_open c (later ++ H) ≡ true) → list_any (eqb c) (others d (open_ones (later ++ H))) ≡ true
past later H c d n r = any_other d c (eqb-comm d c ∙ n.0) (open_ones (later ++ H)) (r n.1)

stays_open : (later H : List Mark) (c : ℕ) → has_closed c later ≡ false → is_open c H ≡ true → is_open c (later ++ H) ≡ true
stays_open [] H c n e = e
stays_open (Opens d ∷ later) H c n e = any_append c d (open_ones (later ++ H)) (stays_open later H c n e)
stays_open (Closes d why ∷ later) H c n e = past later H c d (either_or (eqb c d) (has_closed c later) n) (λ m. stays_open later H c m e)
stays_open (IsShut d ∷ later) H c n e = past later H c d (either_or (eqb c d) (has_closed c later) n) (λ m. stays_open later H c m e)
stays_open (ClosesAtStop d ∷ later) H c n e = past later H c d (either_or (eqb c d) (has_closed c later) n) (λ m. stays_open later H c m e)
stays_open (_ ∷ later) H c n e = stays_open later H c n e

pub open_is_opened : (H : List Mark) → OpenIsOpened H
open_is_opened H = record {
  was_opened = opened H;
  stays_open = λ c w. ap (is_open c) w.stands ∙ stays_open w.later (Opens c ∷ w.before) c w.not_closed (last_open c (open_ones w.before));
}

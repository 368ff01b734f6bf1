-- The lines of links, entry by entry.
use Rattle.std.proofs.Common.{◌≡◌, ◌⊎◌, ℕ, zero, suc, ◌+◌, ◌<◌, ◌≤◌, Bool, true, false, cond, ◌&&◌, ◌||◌, eqb, ltb, List, [], ◌∷◌, ◌++◌, length, map, filter, Option, Some, None, IsSome, is_some, refl, sym, ap, ◌∙◌, subst, inl, inr, arith, append-nil, true≢false, eqb-true, eq-eqb, ne_eqb, ltb-true, lt-ltb, option_map, bytes_eq, slice_get, slice_set, slice_index_or}
use Rattle.std.proofs.lemmas.List.{length-append}
use Rattle.std.proofs.lemmas.List.Concat.{flat_map-cons, flat_map-append}
use Rattle.std.proofs.lemmas.List.Elements.{filter-append}
use Rattle.std.specs.List.{AllByRecursion, list_any, range_with_len}
use Rattle.std.specs.Option.{option_or, option_map_or}
use Rattle.zre_values.specs.declared.peer_id.PeerId.{PeerId}
use Rattle.zre_outside.specs.declared.entry.Entry.{Entry}
use Rattle.zre_msg.specs.declared.message.Body.{Body}
use Rattle.zre_link.specs.Text.{bodies_in}
use Rattle.zre_values.specs.declared.settings.Settings.{Settings as Config}
use Rattle.zre_journal.specs.Chronicle.{Mark, Born, followed}
use Rattle.zre_journal.specs.Connections.{is_same}
use Rattle.zre_journal.specs.Events.{chronicle}
use Rattle.zre_journal.specs.Links.{bodies}
use Rattle.zre_journal.specs.Peers.{Life, lives, life, births}
use Rattle.zre_journal.specs.Proper.{IsProper, Apart}
use Rattle.zre_journal.proofs.ProperChronicles.{always}
use Rattle.zre_journal.proofs.NumberedLists.{eqb-comm, some_is}
use Rattle.zre_journal.proofs.ProperPeers.{known_lives}
use Rattle.zre_journal.proofs.WhenMarksCome.{May}
use Rattle.zre_audit.specs.Coding.{octets_of, code}
use Rattle.zre_audit.specs.Exchanged.{said, peer_on, links_of, put}
use Rattle.zre_audit.specs.Kept.{octets_at, with_place, with_place_at, noted, all_noted, risen, lines_with, lines_of, IsLine, ArePut}
use Rattle.zre_audit.specs.declared.put.Count.{Count}
use Rattle.zre_audit.specs.declared.put.PutLine.{PutLine}
use Rattle.zre_audit.proofs.BirthsSeenOutside.{Added, NoneIs, OneIs}
use Rattle.zre_audit.proofs.PushesOfEntries.{PutOn, Nothing, Once, Says}
use Rattle.zre_audit.proofs.ToldIsSaid.{Lacks, same-kept, same_as, code-said, code-last}

-- ---- places in lists

got_last : {A : Type 0} (xs : List A) (y x : A) (i : ℕ) → slice_get (xs ++ y ∷ []) i ≡ Some x → (slice_get xs i ≡ Some x) × (i < length xs) ⊎ ((i ≡ length xs) × (y ≡ x))
got_last [] y x zero e = inr (refl, let same : y ≡ x = cc in same)
got_last [] y x (suc i) e = absurd (let z : None ≡ Some x = e in cc)
got_last (w ∷ xs) y x zero e = inl (e, omega arith)
got_last (w ∷ xs) y x (suc i) e = by (got_last xs y x i e)
  where
    by : (slice_get xs i ≡ Some x) × (i < length xs) ⊎ ((i ≡ length xs) × (y ≡ x)) → (slice_get xs i ≡ Some x) × (suc i < length (w ∷ xs)) ⊎ ((suc i ≡ length (w ∷ xs)) × (y ≡ x))
    by (inl p) = inl (p.0, omega (arith, p.1))
    by (inr p) = inr (omega (arith, p.0), p.1)

below : {A : Type 0} (xs : List A) (x : A) (i : ℕ) → slice_get xs i ≡ Some x → i < length xs
below [] x i e = absurd (let z : None ≡ Some x = e in cc)
below (y ∷ xs) x zero e = omega arith
below (y ∷ xs) x (suc i) e = let r = below xs x i e in omega (arith, r)

kept_at : (messages : List (List ℕ)) (octets : List ℕ) (i : ℕ) → i < length messages → slice_index_or (messages ++ octets ∷ []) i [] ≡ slice_index_or messages i []
kept_at [] octets i lt = absurd (omega (arith, lt))
kept_at (m ∷ messages) octets zero lt = refl
kept_at (m ∷ messages) octets (suc i) lt = kept_at messages octets i (omega (arith, lt))

new_at : (messages : List (List ℕ)) (octets : List ℕ) → slice_index_or (messages ++ octets ∷ []) (length messages) [] ≡ octets
new_at [] octets = refl
new_at (m ∷ messages) octets = new_at messages octets

kept_octets : (messages : List (List ℕ)) (octets : List ℕ) (places : List ℕ) → AllByRecursion (λ i. i < length messages) places → octets_at (messages ++ octets ∷ []) places ≡ octets_at messages places
kept_octets messages octets [] a = refl
kept_octets messages octets (i ∷ places) a =
    flat_map-cons (λ j. slice_index_or (messages ++ octets ∷ []) j []) i places
    ∙ (λ k. kept_at messages octets i a.0 k ++ kept_octets messages octets places a.1 k)
    ∙ sym (flat_map-cons (λ j. slice_index_or messages j []) i places)

more_octets : (messages : List (List ℕ)) (octets : List ℕ) (places : List ℕ) → AllByRecursion (λ i. i < length messages) places → octets_at (messages ++ octets ∷ []) (places ++ length messages ∷ []) ≡ octets_at messages places ++ octets
more_octets messages octets places a =
    flat_map-append (λ j. slice_index_or (messages ++ octets ∷ []) j []) places (length messages ∷ [])
    ∙ (λ k. kept_octets messages octets places a k ++ (flat_map-cons (λ j. slice_index_or (messages ++ octets ∷ []) j []) (length messages) [] ∙ append-nil (slice_index_or (messages ++ octets ∷ []) (length messages) []) ∙ new_at messages octets) k)

wider : (n : ℕ) (places : List ℕ) → AllByRecursion (λ i. i < n) places → AllByRecursion (λ i. i < n + 1) places
wider n [] a = tt
wider n (i ∷ places) a = let lt = a.0 in (omega (arith, lt), wider n places a.1)

wider_last : (n : ℕ) (places : List ℕ) → AllByRecursion (λ i. i < n) places → AllByRecursion (λ i. i < n + 1) (places ++ n ∷ [])
wider_last n [] a = (omega arith, tt)
wider_last n (i ∷ places) a = let lt = a.0 in (omega (arith, lt), wider_last n places a.1)

-- ---- places that are noted

eqb-suc : (i m : ℕ) → eqb (suc i) (suc m) ≡ eqb i m
eqb-suc i m = by (eqb i m) refl
  where
    by : (b : Bool) → eqb i m ≡ b → eqb (suc i) (suc m) ≡ eqb i m
    by true e = eq-eqb (suc i) (suc m) (ap suc (eqb-true i m e)) ∙ sym e
    by false e = ne_eqb (suc i) (suc m) (λ z. let y : i ≡ m = omega (arith, z) in absurd (true≢false (sym (eq-eqb i m y) ∙ e))) ∙ sym e

above-zero : (i : ℕ) → eqb (suc i) zero ≡ false
above-zero i = ne_eqb (suc i) zero (λ z. omega (arith, z))

below-suc : (m : ℕ) → eqb zero (suc m) ≡ false
below-suc m = ne_eqb zero (suc m) (λ z. omega (arith, z))

abbrev either : ℕ → Bool → PutLine → PutLine
either place b x = cond b (with_place place x) x

same_option : (place : ℕ) (o : Option PutLine) → o ≡ option_map (λ x. either place false x) o
same_option place None = refl
same_option place (Some x) = refl

placed_get : (place : ℕ) (xs : List PutLine) (m i : ℕ) → slice_get (with_place_at place xs m) i ≡ option_map (λ x. either place (eqb i m) x) (slice_get xs i)
placed_get place [] m i = refl
placed_get place (x ∷ xs) zero zero = refl
placed_get place (x ∷ xs) zero (suc i) = same_option place (slice_get xs i) ∙ ap (λ b. option_map (λ y. either place b y) (slice_get xs i)) (sym (above-zero i))
placed_get place (x ∷ xs) (suc m) zero = ap (λ b. Some (either place b x)) (sym (below-suc m))
placed_get place (x ∷ xs) (suc m) (suc i) = placed_get place xs m i ∙ ap (λ b. option_map (λ y. either place b y) (slice_get xs i)) (sym (eqb-suc i m))

noted_get : (place : ℕ) (xs : List PutLine) (l i : ℕ) → slice_get (noted place xs l) i ≡ option_map (λ x. either place (eqb (suc i) l) x) (slice_get xs i)
noted_get place xs zero i = same_option place (slice_get xs i) ∙ ap (λ b. option_map (λ y. either place b y) (slice_get xs i)) (sym (above-zero i))
noted_get place xs (suc m) i = placed_get place xs m i ∙ ap (λ b. option_map (λ y. either place b y) (slice_get xs i)) (sym (eqb-suc i m))

all_noted_get : (place : ℕ) (links : List ℕ) → Apart (λ (k : ℕ). k) links → (xs : List PutLine) (i : ℕ) → slice_get (all_noted place xs links) i ≡ option_map (λ x. either place (list_any (eqb (suc i)) links) x) (slice_get xs i)
all_noted_get place [] a xs i = same_option place (slice_get xs i)
all_noted_get place (l ∷ links) a xs i =
    all_noted_get place links a.1 (noted place xs l) i
    ∙ ap (option_map (λ x. either place (list_any (eqb (suc i)) links) x)) (noted_get place xs l i)
    ∙ by (eqb (suc i) l) refl (slice_get xs i)
  where
    absent : (ls : List ℕ) → AllByRecursion (λ k. eqb l k ≡ false) ls → suc i ≡ l → list_any (eqb (suc i)) ls ≡ false
    absent [] n e = refl
    absent (k ∷ ls) n e = ap (λ b. b || list_any (eqb (suc i)) ls) (ap (λ j. eqb j k) e ∙ n.0) ∙ absent ls n.1 e

    by : (b : Bool) → eqb (suc i) l ≡ b → (o : Option PutLine) → option_map (λ x. either place (list_any (eqb (suc i)) links) x) (option_map (λ x. either place b x) o) ≡ option_map (λ x. either place (b || list_any (eqb (suc i)) links) x) o
    by true e None = refl
    by true e (Some x) = ap (λ b. Some (either place b (with_place place x))) (absent links a.0 (eqb-true (suc i) l e))
    by false e None = refl
    by false e (Some x) = refl

placed_length : (place : ℕ) (xs : List PutLine) (m : ℕ) → length (with_place_at place xs m) ≡ length xs
placed_length place [] m = refl
placed_length place (x ∷ xs) zero = refl
placed_length place (x ∷ xs) (suc m) = let r = placed_length place xs m in omega (arith, r)

all_noted_length : (place : ℕ) (links : List ℕ) (xs : List PutLine) → length (all_noted place xs links) ≡ length xs
all_noted_length place [] xs = refl
all_noted_length place (zero ∷ links) xs = all_noted_length place links xs
all_noted_length place (suc l ∷ links) xs = all_noted_length place links (with_place_at place xs l) ∙ placed_length place xs l

-- ---- links that have risen

module _ (sent : ℕ → Option ℕ) (count : ℕ → ℕ) where
  abbrev counted_at : Life → Count
  counted_at v = record { link = v.link; count = count v.link }

  abbrev has_risen : ℕ → Bool
  has_risen l = option_map_or (ltb (count l)) (sent l) false

  abbrev risen_of : List Life → List ℕ
  risen_of vs = risen sent (map counted_at vs)

  risen_lacks : (l : ℕ) (vs : List Life) → AllByRecursion (λ (w : Life). eqb l w.link ≡ false) vs → Lacks l (risen_of vs)
  risen_lacks l [] a = tt
  risen_lacks l (v ∷ vs) a = by (has_risen v.link) (risen_lacks l vs a.1)
    where
      by : (b : Bool) → Lacks l (risen_of vs) → Lacks l (map (λ (s : Count). s.link) (cond b (counted_at v ∷ filter (λ (s : Count). option_map_or (ltb s.count) (sent s.link) false) (map counted_at vs)) (filter (λ (s : Count). option_map_or (ltb s.count) (sent s.link) false) (map counted_at vs))))
      by true r = (a.0, r)
      by false r = r

  risen_apart : (vs : List Life) → Apart (λ (v : Life). v.link) vs → Apart (λ (k : ℕ). k) (risen_of vs)
  risen_apart [] a = tt
  risen_apart (v ∷ vs) a = by (has_risen v.link) (risen_apart vs a.1)
    where
      by : (b : Bool) → Apart (λ (k : ℕ). k) (risen_of vs) → Apart (λ (k : ℕ). k) (map (λ (s : Count). s.link) (cond b (counted_at v ∷ filter (λ (s : Count). option_map_or (ltb s.count) (sent s.link) false) (map counted_at vs)) (filter (λ (s : Count). option_map_or (ltb s.count) (sent s.link) false) (map counted_at vs))))
      by true r = (risen_lacks v.link vs a.0, r)
      by false r = r

  risen_any : (l : ℕ) (vs : List Life) → list_any (eqb l) (risen_of vs) ≡ (list_any (eqb l) (map (λ (v : Life). v.link) vs) && has_risen l)
  risen_any l [] = refl
  risen_any l (v ∷ vs) = by (eqb l v.link) refl (has_risen v.link) refl (risen_any l vs)
    where
      rest : List ℕ
      rest = map (λ (s : Count). s.link) (filter (λ (s : Count). option_map_or (ltb s.count) (sent s.link) false) (map counted_at vs))

      by : (b : Bool) → eqb l v.link ≡ b → (d : Bool) → has_risen v.link ≡ d → list_any (eqb l) rest ≡ (list_any (eqb l) (map (λ (u : Life). u.link) vs) && has_risen l)
          → list_any (eqb l) (map (λ (s : Count). s.link) (cond d (counted_at v ∷ filter (λ (s : Count). option_map_or (ltb s.count) (sent s.link) false) (map counted_at vs)) (filter (λ (s : Count). option_map_or (ltb s.count) (sent s.link) false) (map counted_at vs))))
          ≡ ((b || list_any (eqb l) (map (λ (u : Life). u.link) vs)) && has_risen l)
      by true e true f r = ap (λ z. z || list_any (eqb l) rest) e ∙ sym (ap has_risen (eqb-true l v.link e) ∙ f)
      by true e false f r = r ∙ ap (λ z. list_any (eqb l) (map (λ (u : Life). u.link) vs) && z) (ap has_risen (eqb-true l v.link e) ∙ f) ∙ off (list_any (eqb l) (map (λ (u : Life). u.link) vs)) ∙ sym (ap has_risen (eqb-true l v.link e) ∙ f)
        where
          off : (z : Bool) → (z && false) ≡ false
          off true = refl
          off false = refl
      by false e true f r = ap (λ z. z || list_any (eqb l) rest) e ∙ r
      by false e false f r = r

-- ---- the lines after an entry

line_stays : (messages : List (List ℕ)) (H K : List Mark) (l : ℕ) (x : PutLine) → peer_on l K ≡ peer_on l H → code (bodies l K) ≡ code (bodies l H) → IsLine messages H l x → IsLine messages K l x
line_stays messages H K l x p c r = record { of = p ∙ r.of; said_is = r.said_is ∙ sym c; within = r.within }

-- where nobody asks for anything to be said
pub lines_added : (H K : List Mark) → IsProper H → (b : Option PeerId) → Added H K b → (messages : List (List ℕ)) (xs : List PutLine) → ArePut H messages xs → ArePut K messages (lines_with xs b)
lines_added H K q b (NoneIs z l s) messages xs r = subst (λ c. ArePut K messages (lines_with xs c)) (sym z) (record {
  count = r.count ∙ sym l.same_births;
  lines_are = λ i x e. line_stays messages H K (i + 1) x (l.same_peers (i + 1)) (s (i + 1)) (r.lines_are i x e);
})
lines_added H K q b (OneIs p z c o w s) messages xs r = subst (λ d. ArePut K messages (lines_with xs d)) (sym z) (record {
  count = let n = length-append xs (new ∷ []) in let m = r.count in omega (arith, n, m, c);
  lines_are = λ i x e. by i x (got_last xs new x i e);
})
  where
    new : PutLine
    new = record { id = p; said = [] }

    fresh : code (bodies (births H + 1) K) ≡ []
    fresh = s (births H + 1) ∙ ap (λ ms. code (bodies_in ms)) (q.living.fresh (births H + 1) (omega arith)).no_member

    by : (i : ℕ) (x : PutLine) → (slice_get xs i ≡ Some x) × (i < length xs) ⊎ ((i ≡ length xs) × (new ≡ x)) → IsLine messages K (i + 1) x
    by i x (inl t) =
        let m = r.count in
        let lt = t.1 in
        let off : eqb (i + 1) (births H + 1) ≡ false = ne_eqb (i + 1) (births H + 1) (λ y. omega (arith, y, m, lt)) in
        line_stays messages H K (i + 1) x (o (i + 1) off) (s (i + 1)) (r.lines_are i x t.0)
    by i x (inr t) =
        let here : i + 1 ≡ births H + 1 = ap (λ n. n + 1) (t.0 ∙ r.count) in
        subst (λ n. IsLine messages K n x) (sym here) (subst (IsLine messages K (births H + 1)) t.1 (record { of = w; said_is = sym fresh; within = tt }))

-- where this message is asked to be said
-- on links of these peers alone
module _ (H K : List Mark) (n : IsProper K) (b : Body) (says : Says b H K) (sent : ℕ → Option ℕ) (is_sent : (l : ℕ) → sent l ≡ option_map (λ (v : Life). length (bodies v.link K)) (life l K))
    (vs : List Life) (apart : Apart (λ (v : Life). v.link) vs) (only : (l : ℕ) → list_any (eqb l) (map (λ (v : Life). v.link) vs) ≡ false → bodies l K ≡ bodies l H) where
  abbrev count_of : ℕ → ℕ
  count_of l = length (bodies l H)

  -- so much has been put by then
  by_now : (l : ℕ) (o : Option Life) → life l K ≡ o → has_risen sent count_of l ≡ option_map_or (λ (v : Life). ltb (count_of l) (length (bodies l K))) o false
  by_now l None e = ap (λ s. option_map_or (ltb (count_of l)) s false) (is_sent l ∙ ap (option_map (λ (v : Life). length (bodies v.link K))) e)
  by_now l (Some v) e =
      ap (λ s. option_map_or (ltb (count_of l)) s false) (is_sent l ∙ ap (option_map (λ (u : Life). length (bodies u.link K))) e)
      ∙ ap (λ k. ltb (count_of l) (length (bodies k K))) (sym (known_lives K n l v e).2)

  less_itself : (m : ℕ) → ltb m m ≡ false
  less_itself m = by (ltb m m) refl
    where
      by : (t : Bool) → ltb m m ≡ t → t ≡ false
      by false e = refl
      by true e = let lt = ltb-true m m e in absurd (omega (arith, lt))

  abbrev is_reached : ℕ → Bool
  is_reached l = list_any (eqb l) (map (λ (v : Life). v.link) vs)

  risen_here : (l : ℕ) (t : Bool) → has_risen sent count_of l ≡ t → list_any (eqb l) (risen_of sent count_of vs) ≡ (is_reached l && t)
  risen_here l t e = risen_any sent count_of l vs ∙ ap (λ z. is_reached l && z) e

  reaches : (l : ℕ) → bodies l K ≡ bodies l H ++ b ∷ [] → is_reached l ≡ true
  reaches l more = by (is_reached l) refl
    where
      by : (z : Bool) → is_reached l ≡ z → z ≡ true
      by true e = refl
      by false e = absurd (let same = ap (length {A = Body}) (only l e) in let longer = ap (length {A = Body}) more in let m = length-append (bodies l H) (b ∷ []) in omega (arith, same, longer, m))

  pub lines_said : (messages : List (List ℕ)) (octets : List ℕ) → octets ≡ octets_of b → (xs : List PutLine) → ArePut H messages xs
      → ArePut K (messages ++ octets ∷ []) (all_noted (length messages) xs (risen_of sent count_of vs))
  lines_said messages octets o xs r = record {
    count = all_noted_length (length messages) links xs ∙ r.count ∙ sym says.leaves.same_births;
    lines_are = λ i y e. at_place i y (sym (all_noted_get (length messages) links (risen_apart sent count_of vs apart) xs i) ∙ e);
  }
    where
      links : List ℕ
      links = risen_of sent count_of vs

      long : length (messages ++ octets ∷ []) ≡ length messages + 1
      long = length-append messages (octets ∷ [])

      unchanged : (l : ℕ) (x : PutLine) → IsLine messages H l x → bodies l K ≡ bodies l H → IsLine (messages ++ octets ∷ []) K l x
      unchanged l x s same = record {
        of = says.leaves.same_peers l ∙ s.of;
        said_is = kept_octets messages octets x.said s.within ∙ s.said_is ∙ sym (ap code same);
        within = subst (λ m. AllByRecursion (λ i. i < m) x.said) (sym long) (wider (length messages) x.said s.within);
      }

      changed : (l : ℕ) (x : PutLine) → IsLine messages H l x → bodies l K ≡ bodies l H ++ b ∷ [] → IsLine (messages ++ octets ∷ []) K l (with_place (length messages) x)
      changed l x s more = record {
        of = says.leaves.same_peers l ∙ s.of;
        said_is = more_octets messages octets x.said s.within ∙ (λ i. s.said_is i ++ o i) ∙ sym (ap code more ∙ code-last (bodies l H) b);
        within = subst (λ m. AllByRecursion (λ i. i < m) (x.said ++ length messages ∷ [])) (sym long) (wider_last (length messages) x.said s.within);
      }

      none_risen : (l : ℕ) → bodies l K ≡ bodies l H → (p : Option Life) → life l K ≡ p → has_risen sent count_of l ≡ false
      none_risen l same None e = by_now l None e
      none_risen l same (Some v) e = by_now l (Some v) e ∙ ap (λ bs. ltb (count_of l) (length bs)) same ∙ less_itself (count_of l)

      one_risen : (l : ℕ) → bodies l K ≡ bodies l H ++ b ∷ [] → IsSome (life l K) → has_risen sent count_of l ≡ true
      one_risen l more s =
          let v = some_is (life l K) s in
          let m = length-append (bodies l H) (b ∷ []) in
          by_now l (Some v.0) v.1 ∙ ap (λ bs. ltb (count_of l) (length bs)) more ∙ lt-ltb (count_of l) (length (bodies l H ++ b ∷ [])) (omega (arith, m))

      is_put : (i : ℕ) (x : PutLine) → IsLine messages H (i + 1) x → PutOn b (i + 1) H K → IsLine (messages ++ octets ∷ []) K (i + 1) (either (length messages) (list_any (eqb (suc i)) links) x)
      is_put i x s (Nothing same) =
          let here : suc i ≡ i + 1 = omega arith in
          let none : list_any (eqb (suc i)) links ≡ false = ap (λ n. list_any (eqb n) links) here ∙ risen_here (i + 1) false (none_risen (i + 1) same (life (i + 1) K) refl) ∙ off (is_reached (i + 1)) in
          subst (λ t. IsLine (messages ++ octets ∷ []) K (i + 1) (either (length messages) t x)) (sym none) (unchanged (i + 1) x s same)
        where
          off : (z : Bool) → (z && false) ≡ false
          off true = refl
          off false = refl
      is_put i x s (Once more old now) =
          let here : suc i ≡ i + 1 = omega arith in
          let some : list_any (eqb (suc i)) links ≡ true = ap (λ n. list_any (eqb n) links) here ∙ risen_here (i + 1) true (one_risen (i + 1) more now) ∙ on (is_reached (i + 1)) (reaches (i + 1) more) in
          subst (λ t. IsLine (messages ++ octets ∷ []) K (i + 1) (either (length messages) t x)) (sym some) (changed (i + 1) x s more)
        where
          on : (z : Bool) → z ≡ true → (z && true) ≡ true
          on z e = ap (λ y. y && true) e

      at_place : (i : ℕ) (y : PutLine) → option_map (λ x. either (length messages) (list_any (eqb (suc i)) links) x) (slice_get xs i) ≡ Some y → IsLine (messages ++ octets ∷ []) K (i + 1) y
      at_place i y e = by (slice_get xs i) refl e
        where
          by : (p : Option PutLine) → slice_get xs i ≡ p → option_map (λ x. either (length messages) (list_any (eqb (suc i)) links) x) p ≡ Some y → IsLine (messages ++ octets ∷ []) K (i + 1) y
          by None f z = absurd (let w : None ≡ Some y = z in cc)
          by (Some x) f z =
              let same : either (length messages) (list_any (eqb (suc i)) links) x ≡ y = cc in
              subst (IsLine (messages ++ octets ∷ []) K (i + 1)) same (is_put i x (r.lines_are i x f) (says.puts (i + 1)))

-- ---- what was put for a peer

range-last : (a n : ℕ) → range_with_len a (suc n) ≡ range_with_len a n ++ (a + n) ∷ []
range-last a zero = let e : a ≡ a + 0 = omega arith in ap (λ k. k ∷ []) e
range-last a (suc n) = let e : (a + 1) + n ≡ a + suc n = omega arith in ap (λ ks. a ∷ ks) (range-last (a + 1) n ∙ ap (λ k. range_with_len (a + 1) n ++ k ∷ []) e)

range-lacks : (l a n : ℕ) → a + n ≤ l → Lacks l (range_with_len a n)
range-lacks l a zero le = tt
range-lacks l a (suc n) le = (ne_eqb l a (λ z. omega (arith, z, le)), range-lacks l (a + 1) n (omega (arith, le)))

abbrev pub AreLinks : List Mark → Type 0
AreLinks H = (p : PeerId) → links_of p H ≡ filter (λ l. is_same p (peer_on l H)) (range_with_len 1 (births H))

links_more : (h : Mark) (H : List Mark) → IsProper H → May h H → AreLinks H → AreLinks (h ∷ H)
links_more (Born n i a) H q y o p = ap (λ ks. followed ks (cond (bytes_eq p.0 i.0) (Some n) None)) (o p) ∙ by (bytes_eq p.0 i.0) refl
  where
    K : List Mark
    K = Born n i a ∷ H

    range : List ℕ
    range = range_with_len 1 (births H)

    old : filter (λ l. is_same p (peer_on l H)) range ≡ filter (λ l. is_same p (peer_on l K)) range
    old = same-kept n (λ l. is_same p (peer_on l H)) (λ l. is_same p (peer_on l K)) (λ k e. ap (is_same p) (sym (ap (λ t. option_or (cond t (Some i) None) (peer_on k H)) (eqb-comm k n ∙ e)))) range
        (let next = y.next_link in range-lacks n 1 (births H) (omega (arith, next)))

    whole : range_with_len 1 (births H + 1) ≡ range ++ n ∷ []
    whole = let e : births H + 1 ≡ suc (births H) = omega arith in let f : 1 + births H ≡ n = (let next = y.next_link in omega (arith, next)) in ap (range_with_len 1) e ∙ range-last 1 (births H) ∙ ap (λ k. range ++ k ∷ []) f

    new : peer_on n K ≡ Some i
    new = ap (λ t. option_or (cond t (Some i) None) (peer_on n H)) (eq-eqb n n refl)

    by : (b : Bool) → bytes_eq p.0 i.0 ≡ b → followed (filter (λ l. is_same p (peer_on l H)) range) (cond b (Some n) None) ≡ filter (λ l. is_same p (peer_on l K)) (range_with_len 1 (births H + 1))
    by b e = last b ∙ (λ j. old j ++ cond b (n ∷ []) []) ∙ ap (λ t. filter (λ l. is_same p (peer_on l K)) range ++ cond t (n ∷ []) []) (sym (ap (is_same p) new ∙ e))
        ∙ sym (filter-append (λ l. is_same p (peer_on l K)) range (n ∷ [])) ∙ ap (filter (λ l. is_same p (peer_on l K))) (sym whole)
      where
        last : (b : Bool) → followed (filter (λ l. is_same p (peer_on l H)) range) (cond b (Some n) None) ≡ filter (λ l. is_same p (peer_on l H)) range ++ cond b (n ∷ []) []
        last true = refl
        last false = sym (append-nil (filter (λ l. is_same p (peer_on l H)) range))
links_more _ H q y o p = o p

pub are_links : (g : Config) (journal : List Entry) → AreLinks (chronicle g journal)
are_links g journal = always g AreLinks links_more (λ p. refl) journal

pub lines_put : (g : Config) (journal : List Entry) (messages : List (List ℕ)) (xs : List PutLine) → ArePut (chronicle g journal) messages xs → (p : PeerId) → lines_of messages xs p ≡ map code (put p (chronicle g journal))
lines_put g journal messages xs r p = by xs 1 (λ i x e. let same : i + 1 ≡ 1 + i = omega arith in subst (λ n. IsLine messages H n x) same (r.lines_are i x e)) ∙ ap (λ n. map code (map spoken (filter mine (range_with_len 1 n)))) r.count ∙ ap (λ ks. map code (map spoken ks)) (sym (are_links g journal p))
  where
    H : List Mark
    H = chronicle g journal

    mine : ℕ → Bool
    mine l = is_same p (peer_on l H)

    spoken : ℕ → List Body
    spoken l = said (bodies l H)

    by : (ys : List PutLine) (k : ℕ) → ((i : ℕ) (x : PutLine) → slice_get ys i ≡ Some x → IsLine messages H (k + i) x) → lines_of messages ys p ≡ map code (map spoken (filter mine (range_with_len k (length ys))))
    by [] k f = refl
    by (y ∷ ys) k f = one (bytes_eq y.id.0 p.0) refl (by ys (k + 1) (λ i x e. let same : k + suc i ≡ (k + 1) + i = omega arith in subst (λ n. IsLine messages H n x) same (f (suc i) x e)))
      where
        s : IsLine messages H k y
        s = let same : k + 0 ≡ k = omega arith in subst (λ n. IsLine messages H n y) same (f 0 y refl)

        is_mine : mine k ≡ bytes_eq y.id.0 p.0
        is_mine = ap (is_same p) s.of ∙ same_as p y.id

        one : (b : Bool) → bytes_eq y.id.0 p.0 ≡ b → lines_of messages ys p ≡ map code (map spoken (filter mine (range_with_len (k + 1) (length ys))))
            → map (λ (x : PutLine). octets_at messages x.said) (cond b (y ∷ filter (λ (x : PutLine). bytes_eq x.id.0 p.0) ys) (filter (λ (x : PutLine). bytes_eq x.id.0 p.0) ys))
            ≡ map code (map spoken (cond (mine k) (k ∷ filter mine (range_with_len (k + 1) (length ys))) (filter mine (range_with_len (k + 1) (length ys)))))
        one true e r = (λ i. (s.said_is ∙ sym (code-said (bodies k H))) i ∷ r i) ∙ ap (λ b. map code (map spoken (cond b (k ∷ filter mine (range_with_len (k + 1) (length ys))) (filter mine (range_with_len (k + 1) (length ys)))))) (sym (is_mine ∙ e))
        one false e r = r ∙ ap (λ b. map code (map spoken (cond b (k ∷ filter mine (range_with_len (k + 1) (length ys))) (filter mine (range_with_len (k + 1) (length ys)))))) (sym (is_mine ∙ e))

-- ---- one line that is noted

pub placed_set : (place : ℕ) (xs : List PutLine) (i : ℕ) (x : PutLine) → x ≡ slice_index_or xs i x → i < length xs → slice_set xs i (with_place place x) ≡ with_place_at place xs i
placed_set place [] i x e lt = absurd (omega (arith, lt))
placed_set place (y ∷ xs) zero x e lt = ap (λ z. with_place place z ∷ xs) e
placed_set place (y ∷ xs) (suc i) x e lt = ap (λ zs. y ∷ zs) (placed_set place xs i x e (omega (arith, lt)))

pub placed_none : (place : ℕ) (xs : List PutLine) (i : ℕ) → length xs ≤ i → xs ≡ with_place_at place xs i
placed_none place [] i le = refl
placed_none place (x ∷ xs) zero le = absurd (omega (arith, le))
placed_none place (x ∷ xs) (suc i) le = ap (λ ys. x ∷ ys) (placed_none place xs i (omega (arith, le)))

pub noted_at : (place : ℕ) (xs : List PutLine) (l i : ℕ) → l ≡ i + 1 → noted place xs l ≡ with_place_at place xs i
noted_at place xs l i e = let same : l ≡ suc i = omega (arith, e) in ap (noted place xs) same

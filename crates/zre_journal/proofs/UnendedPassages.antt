-- What is left of what passes: the links and connections after which no end comes.
use Rattle.std.proofs.Common.{◌≡◌, ℕ, ◌+◌, ◌<◌, ◌≤◌, Bool, true, false, cond, not, ◌&&◌, ◌||◌, eqb, List, [], ◌∷◌, ◌++◌, length, map, filter, refl, sym, ap, ◌∙◌, subst, arith, eqb-true, eq-eqb, ne_eqb, append_assoc}
use Rattle.std.proofs.lemmas.List.{length-append}
use Rattle.std.proofs.lemmas.List.Elements.{filter-append, filter_map-append}
use Rattle.std.proofs.lemmas.List.Folds.{list_any-append}
use Rattle.std.proofs.lemmas.List.Sums.{fold-append}
use Rattle.std.proofs.lemmas.Map.Views.{any-filter_same}
use Rattle.std.specs.List.{AllByRecursion, fold, filter_map, list_any}
use Rattle.zre_values.specs.declared.endpoint.Endpoint.{Endpoint}
use Rattle.zre_outside.specs.declared.act.Act.{Act}
use Rattle.zre_outside.specs.declared.act.Act.TheVariants as act
use Rattle.zre_outside.specs.declared.entry.Input.{Input}
use Rattle.zre_outside.specs.declared.entry.Input.TheVariants as input
use Rattle.zre_journal.specs.Closing.{connected, ArePaired}
use Rattle.zre_journal.specs.Connections.{others}
use Rattle.zre_journal.specs.Leaks.{Passage, Came, Did, act_of, ends_link, links_left, ends_conn, is_answered, conns_left}
use Rattle.zre_journal.proofs.NumberedLists.{eqb-comm, All-map}

-- ---- numbers

all_kept : (ns : List ℕ) → ns ≡ filter (λ n. not false) ns ++ []
all_kept [] = refl
all_kept (n ∷ ns) = ap (λ ms. n ∷ ms) (all_kept ns)

-- what is kept of the others of k
kept_others : (a : ℕ → Bool) (k : ℕ) (ns : List ℕ) → filter (λ n. not (a n)) (others k ns) ≡ filter (λ n. not (eqb n k || a n)) ns
kept_others a k [] = refl
kept_others a k (n ∷ ns) = by (kept_others a k ns) (eqb k n) refl
  where
    at : (c : Bool) (xs ys : List ℕ) → xs ≡ ys → cond (not c) (n ∷ xs) xs ≡ cond (not c) (n ∷ ys) ys
    at true xs ys r = r
    at false xs ys r = ap (λ ms. n ∷ ms) r

    by : filter (λ m. not (a m)) (others k ns) ≡ filter (λ m. not (eqb m k || a m)) ns → (b : Bool) → eqb k n ≡ b
        → filter (λ m. not (a m)) (cond (not b) (n ∷ others k ns) (others k ns)) ≡ cond (not (eqb n k || a n)) (n ∷ filter (λ m. not (eqb m k || a m)) ns) (filter (λ m. not (eqb m k || a m)) ns)
    by r true z = let y : eqb n k ≡ true = eqb-comm n k ∙ z in rw y r
    by r false z = let y : eqb n k ≡ false = eqb-comm n k ∙ z in rw y (at (a n) (filter (λ m. not (a m)) (others k ns)) (filter (λ m. not (eqb m k || a m)) ns) r)

-- n is left exactly where it is kept, if it isn't among what comes later
one_left : (t : ℕ → Bool) (n : ℕ) (ns ms : List ℕ) → list_any (eqb n) ms ≡ false → list_any (eqb n) (filter t (ns ++ n ∷ []) ++ ms) ≡ t n
one_left t n ns ms none =
    list_any-append (eqb n) (filter t (ns ++ n ∷ [])) ms
    ∙ ap (λ b. b || list_any (eqb n) ms) (any-filter_same (eqb n) t (t n) (λ k h. ap t (sym (eqb-true n k h))) (ns ++ n ∷ []))
    ∙ ap (λ b. (t n && b) || list_any (eqb n) ms) there ∙ ap (λ b. (t n && true) || b) none ∙ at (t n)
  where
    last : (b : Bool) → (b || true) ≡ true
    last true = refl
    last false = refl

    there : list_any (eqb n) (ns ++ n ∷ []) ≡ true
    there = list_any-append (eqb n) ns (n ∷ []) ∙ (let me : eqb n n ≡ true = eq-eqb n n refl in rw me (last (list_any (eqb n) ns)))

    at : (b : Bool) → ((b && true) || false) ≡ b
    at true = refl
    at false = refl

above_none : (n : ℕ) (ns : List ℕ) → AllByRecursion (λ m. n < m) ns → list_any (eqb n) ns ≡ false
above_none n [] a = refl
above_none n (m ∷ ns) a = let less : n < m = a.0 in let far : eqb n m ≡ false = ne_eqb n m (λ q. omega (arith, q, less)) in rw far (above_none n ns a.1)

-- ---- links

-- the links without an end after an act, and after what came, where these had none before
abbrev pub links_by : List ℕ → Act → List ℕ
links_by ls (act.Connect l to) = ls ++ l ∷ []
links_by ls (act.CloseLink l) = others l ls
links_by ls _ = ls

abbrev pub links_but : List ℕ → Input → List ℕ
links_but ls (input.Unlinked l) = others l ls
links_but ls _ = ls

abbrev pub links_with : List ℕ → Passage → List ℕ
links_with ls (Came i) = links_but ls i
links_with ls (Did a) = links_by ls a

pub links_acts : (done : List Act) (ls : List ℕ) (rest : List Passage) → fold links_with ls (map Did done ++ rest) ≡ fold links_with (fold links_by ls done) rest
links_acts [] ls rest = refl
links_acts (a ∷ done) ls rest = links_acts done (links_by ls a) rest

pub left_links : (xs : List Passage) (ls : List ℕ) → fold links_with ls xs ≡ filter (λ l. not (list_any (ends_link l) xs)) ls ++ links_left xs
left_links [] ls = all_kept ls
left_links (Did (act.Connect l to) ∷ xs) ls =
    left_links xs (ls ++ l ∷ [])
    ∙ ap (λ ms. ms ++ links_left xs) (filter-append (λ k. not (list_any (ends_link k) xs)) ls (l ∷ []))
    ∙ append_assoc (filter (λ k. not (list_any (ends_link k) xs)) ls) (filter (λ k. not (list_any (ends_link k) xs)) (l ∷ [])) (links_left xs)
    ∙ ap (λ ms. filter (λ k. not (list_any (ends_link k) xs)) ls ++ ms) (by (list_any (ends_link l) xs))
  where
    by : (b : Bool) → cond (not b) (l ∷ []) [] ++ links_left xs ≡ cond b (links_left xs) (l ∷ links_left xs)
    by true = refl
    by false = refl
left_links (Did (act.CloseLink l) ∷ xs) ls = left_links xs (others l ls) ∙ ap (λ ms. ms ++ links_left xs) (kept_others (λ k. list_any (ends_link k) xs) l ls)
left_links (Came (input.Unlinked l) ∷ xs) ls = left_links xs (others l ls) ∙ ap (λ ms. ms ++ links_left xs) (kept_others (λ k. list_any (ends_link k) xs) l ls)
left_links (_ ∷ xs) ls = left_links xs ls

-- what isn't connected isn't left
none_left : (l : ℕ) (xs : List Passage) → list_any (eqb l) (connected (filter_map act_of xs)) ≡ false → list_any (eqb l) (links_left xs) ≡ false
none_left l [] e = refl
none_left l (Did (act.Connect k to) ∷ xs) e = by (λ f. none_left l xs f) (eqb l k) refl e
  where
    at : (b : Bool) → eqb l k ≡ false → list_any (eqb l) (links_left xs) ≡ false → list_any (eqb l) (cond b (links_left xs) (k ∷ links_left xs)) ≡ false
    at true z r = r
    at false z r = rw z r

    by : (list_any (eqb l) (connected (filter_map act_of xs)) ≡ false → list_any (eqb l) (links_left xs) ≡ false) → (b : Bool) → eqb l k ≡ b → (b || list_any (eqb l) (connected (filter_map act_of xs))) ≡ false
        → list_any (eqb l) (cond (list_any (ends_link k) xs) (links_left xs) (k ∷ links_left xs)) ≡ false
    by r true z f = cc
    by r false z f = at (list_any (ends_link k) xs) z (r f)
none_left l (Did (act.CloseLink k) ∷ xs) e = none_left l xs e
none_left l (_ ∷ xs) e = none_left l xs e

-- later links have greater numbers
later_above : (done later : List Act) → ArePaired (done ++ later) → AllByRecursion (λ k. length (connected done) < k) (connected later)
later_above done [] p = tt
later_above done (a ∷ later) p = by (weaker (later_above (done ++ a ∷ []) later (subst ArePaired (sym (append_assoc done (a ∷ []) later)) p))) a refl
  where
    more : length (connected done) ≤ length (connected (done ++ a ∷ []))
    more = let l = ap (length {A = ℕ}) (filter_map-append _ done (a ∷ [])) ∙ length-append (connected done) (connected (a ∷ [])) in omega (arith, l)

    weaker : AllByRecursion (λ k. length (connected (done ++ a ∷ [])) < k) (connected later) → AllByRecursion (λ k. length (connected done) < k) (connected later)
    weaker rest = All-map (λ k. length (connected (done ++ a ∷ [])) < k) (λ k. length (connected done) < k) (λ k z. omega (arith, z, more)) (connected later) rest

    by : AllByRecursion (λ k. length (connected done) < k) (connected later) → (x : Act) → a ≡ x → AllByRecursion (λ k. length (connected done) < k) (connected (x ∷ later))
    by r (act.Connect l to) z = ((let number : l ≡ length (connected done) + 1 = p done later (act.Connect l to) (ap (λ y. done ++ y ∷ later) z) in omega (arith, number)), r)
    by r _ z = r

-- a link that was connected is left exactly where no end of it comes
pub link_left : (before later : List Passage) (l : ℕ) (to : Endpoint) → ArePaired (filter_map act_of (before ++ Did (act.Connect l to) ∷ later))
    → list_any (eqb l) (fold links_with [] (before ++ Did (act.Connect l to) ∷ later)) ≡ not (list_any (ends_link l) later)
link_left before later l to paired =
    ap (list_any (eqb l)) (fold-append links_with [] before (Did (act.Connect l to) ∷ later) ∙ left_links later (fold links_with [] before ++ l ∷ []))
    ∙ one_left (λ k. not (list_any (ends_link k) later)) l (fold links_with [] before) (links_left later) (none_left l later (above_none l (connected B) above))
  where
    A : List Act
    A = filter_map act_of before

    B : List Act
    B = filter_map act_of later

    all : ArePaired (A ++ act.Connect l to ∷ B)
    all = subst ArePaired (filter_map-append act_of before (Did (act.Connect l to) ∷ later)) paired

    number : l ≡ length (connected A) + 1
    number = all A B (act.Connect l to) refl

    up_to : length (connected (A ++ act.Connect l to ∷ [])) ≡ l
    up_to = ap (length {A = ℕ}) (filter_map-append _ A (act.Connect l to ∷ [])) ∙ length-append (connected A) (l ∷ []) ∙ sym number

    above : AllByRecursion (λ k. l < k) (connected B)
    above = subst (λ n. AllByRecursion (λ k. n < k) (connected B)) up_to (later_above (A ++ act.Connect l to ∷ []) B (subst ArePaired (sym (append_assoc A (act.Connect l to ∷ []) B)) all))

-- ---- connections

abbrev pub conns_by : List ℕ → Act → List ℕ
conns_by cs (act.CloseConn c) = others c cs
conns_by cs _ = cs

-- those without an end after these passages, where these had none before
abbrev pub conns_on : List Passage → List ℕ → List ℕ
conns_on [] cs = cs
conns_on (Came (input.Opened c) ∷ xs) cs = conns_on xs (cond (is_answered c xs) (cs ++ c ∷ []) cs)
conns_on (Came (input.Shut c) ∷ xs) cs = conns_on xs (others c cs)
conns_on (Did (act.CloseConn c) ∷ xs) cs = conns_on xs (others c cs)
conns_on (_ ∷ xs) cs = conns_on xs cs

pub conns_acts : (done : List Act) (cs : List ℕ) (rest : List Passage) → conns_on (map Did done ++ rest) cs ≡ conns_on rest (fold conns_by cs done)
conns_acts [] cs rest = refl
conns_acts (act.CloseConn c ∷ done) cs rest = conns_acts done (others c cs) rest
conns_acts (_ ∷ done) cs rest = conns_acts done cs rest

pub left_conns : (xs : List Passage) (cs : List ℕ) → conns_on xs cs ≡ filter (λ c. not (list_any (ends_conn c) xs)) cs ++ conns_left xs
left_conns [] cs = all_kept cs
left_conns (Came (input.Opened c) ∷ xs) cs = by (λ ds. left_conns xs ds) (is_answered c xs)
  where
    at : (b : Bool) → cond b (c ∷ []) [] ++ conns_left xs ≡ cond (true && b) (c ∷ conns_left xs) (conns_left xs)
    at true = refl
    at false = refl

    by : ((ds : List ℕ) → conns_on xs ds ≡ filter (λ d. not (list_any (ends_conn d) xs)) ds ++ conns_left xs) → (b : Bool) → conns_on xs (cond b (cs ++ c ∷ []) cs) ≡ filter (λ d. not (list_any (ends_conn d) xs)) cs ++ cond (b && not (list_any (ends_conn c) xs)) (c ∷ conns_left xs) (conns_left xs)
    by r true =
        r (cs ++ c ∷ [])
        ∙ ap (λ ms. ms ++ conns_left xs) (filter-append (λ d. not (list_any (ends_conn d) xs)) cs (c ∷ []))
        ∙ append_assoc (filter (λ d. not (list_any (ends_conn d) xs)) cs) (filter (λ d. not (list_any (ends_conn d) xs)) (c ∷ [])) (conns_left xs)
        ∙ ap (λ ms. filter (λ d. not (list_any (ends_conn d) xs)) cs ++ ms) (at (not (list_any (ends_conn c) xs)))
    by r false = r cs
left_conns (Came (input.Shut c) ∷ xs) cs = left_conns xs (others c cs) ∙ ap (λ ms. ms ++ conns_left xs) (kept_others (λ d. list_any (ends_conn d) xs) c cs)
left_conns (Did (act.CloseConn c) ∷ xs) cs = left_conns xs (others c cs) ∙ ap (λ ms. ms ++ conns_left xs) (kept_others (λ d. list_any (ends_conn d) xs) c cs)
left_conns (_ ∷ xs) cs = left_conns xs cs

-- what is left after a front of them
front_conns : (before later : List Passage) (cs : List ℕ) → (ds : List ℕ) × (conns_on (before ++ later) cs ≡ conns_on later ds)
front_conns [] later cs = (cs, refl)
front_conns (Came (input.Opened c) ∷ before) later cs = front_conns before later (cond (is_answered c (before ++ later)) (cs ++ c ∷ []) cs)
front_conns (Came (input.Shut c) ∷ before) later cs = front_conns before later (others c cs)
front_conns (Did (act.CloseConn c) ∷ before) later cs = front_conns before later (others c cs)
front_conns (_ ∷ before) later cs = front_conns before later cs

-- a connection that was answered is left exactly where no end of it comes, if it isn't opened again
pub conn_left : (before later : List Passage) (c : ℕ) → is_answered c later ≡ true → list_any (eqb c) (conns_left later) ≡ false
    → list_any (eqb c) (conns_on (before ++ Came (input.Opened c) ∷ later) []) ≡ not (list_any (ends_conn c) later)
conn_left before later c answered none =
    let f = front_conns before (Came (input.Opened c) ∷ later) [] in
    ap (list_any (eqb c)) (f.1 ∙ ap (λ b. conns_on later (cond b (f.0 ++ c ∷ []) f.0)) answered ∙ left_conns later (f.0 ++ c ∷ []))
    ∙ one_left (λ d. not (list_any (ends_conn d) later)) c f.0 (conns_left later) none

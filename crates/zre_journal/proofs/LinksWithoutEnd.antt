-- Links without an end are those of known peers, and connections without an end are the open ones.
use Rattle.std.proofs.Common.{◌≡◌, ℕ, ◌<◌, Bool, true, false, true≢false, cond, not, ◌&&◌, ◌||◌, eqb, ltb, List, [], ◌∷◌, ◌++◌, length, map, Option, Some, None, is_some, filter, find, refl, sym, ap, ◌∙◌, subst, arith, eqb-true, eq-eqb, ne_eqb, ltb-true}
use Rattle.std.proofs.lemmas.List.{map-append}
use Rattle.std.proofs.lemmas.List.Sums.{fold-append}
use Rattle.std.specs.List.{AllByRecursion, fold, filter_map, list_any}
use Rattle.std.specs.Prelude.{is_none}
use Rattle.zre_values.specs.declared.endpoint.Endpoint.{Endpoint}
use Rattle.zre_values.specs.declared.limits.TheConstants.{CONNECTIONS}
use Rattle.zre_values.specs.declared.peer_id.PeerId.{PeerId}
use Rattle.zre_outside.specs.declared.act.Act.{Act}
use Rattle.zre_outside.specs.declared.act.Act.TheVariants as act
use Rattle.zre_outside.specs.declared.entry.Entry.{Entry}
use Rattle.zre_outside.specs.declared.entry.Input.{Input}
use Rattle.zre_outside.specs.declared.entry.Input.TheVariants as input
use Rattle.zre_peer.specs.declared.causes.Cause.{Cause}
use Rattle.zre_peer.specs.declared.causes.Cause.TheVariants as cause
use Rattle.zre_values.specs.declared.settings.Settings.{Settings as Config}
use Rattle.zre_journal.specs.Arrivals.{end_of_run, at_opened, at_shut}
use Rattle.zre_journal.specs.Chronicle.{Mark, Comes, Opens, TurnsAway, IsShut, Born, Ends, after}
use Rattle.zre_journal.specs.Connections.{open_ones, is_open, is_new, runs, others}
use Rattle.zre_journal.specs.Done.{done, done_at, close_link, offers, acts_at, is_offered}
use Rattle.zre_journal.specs.Events.{chronicle, acts_after}
use Rattle.zre_journal.specs.Happens.{has_stopped, at_input, marks, with_entry, chronicle_after}
use Rattle.zre_journal.specs.Closing.{ArePaired}
use Rattle.zre_journal.specs.Leaks.{Passage, Came, Did, input_of, act_of, passages_after, passages, ends_link, links_left, ends_conn, is_answered, conns_left}
use Rattle.zre_journal.specs.LinkEntries.{at_unlinked}
use Rattle.zre_journal.specs.Peers.{Life, lives, life, other_lives}
use Rattle.zre_journal.specs.Proper.{IsProper}
use Rattle.zre_journal.proofs.ProperChronicles.{is_proper}
use Rattle.zre_journal.proofs.StopsLeaveNothing.{leaves_nothing, are_paired}
use Rattle.zre_journal.proofs.JoinedEntries.{continues}
use Rattle.zre_journal.proofs.NumberedLists.{none_any}
use Rattle.zre_journal.proofs.WhichMarks.{Mild, AreMild, IsMilder, Kind, kind, mild_input}
use Rattle.zre_journal.proofs.UnendedPassages.{links_by, links_but, links_with, links_acts, left_links, link_left, conns_by, conns_on, conns_acts, left_conns, conn_left}
use Rattle.zre_journal.proofs.WhenMarksCome.{choice}

-- ---- lists

abbrev pub key : Life → ℕ
key v = v.link

-- nothing is taken out where nothing has the number
none_out : {A : Type 0} (k : A → ℕ) (n : ℕ) (xs : List A) → list_any (λ x. eqb n (k x)) xs ≡ false → filter (λ x. not (eqb n (k x))) xs ≡ xs
none_out k n [] e = refl
none_out {A} k n (x ∷ xs) e = by (eqb n (k x)) refl (none_out k n xs) e
  where
    by : (b : Bool) → eqb n (k x) ≡ b → (list_any (λ y. eqb n (k y)) xs ≡ false → filter (λ y. not (eqb n (k y))) xs ≡ xs) → (b || list_any (λ y. eqb n (k y)) xs) ≡ false
        → cond (not b) (x ∷ filter (λ y. not (eqb n (k y))) xs) (filter (λ y. not (eqb n (k y))) xs) ≡ x ∷ xs
    by true q r z = cc
    by false q r z = ap (λ ys. x ∷ ys) (r z)

below_none : (n : ℕ) (xs : List ℕ) → AllByRecursion (λ x. x < n) xs → list_any (λ x. eqb n x) xs ≡ false
below_none n [] a = refl
below_none n (x ∷ xs) a = let less : x < n = a.0 in let far : eqb n x ≡ false = ne_eqb n x (λ q. omega (arith, q, less)) in rw far (below_none n xs a.1)

-- the numbers of the other lives are the other numbers
pub others_of : (l : ℕ) (vs : List Life) → others l (map key vs) ≡ map key (other_lives l vs)
others_of l [] = refl
others_of l (v ∷ vs) = by (eqb l v.link) (others_of l vs)
  where
    by : (b : Bool) → others l (map key vs) ≡ map key (other_lives l vs) → cond (not b) (v.link ∷ others l (map key vs)) (others l (map key vs)) ≡ map key (cond (not b) (v ∷ other_lives l vs) (other_lives l vs))
    by true r = r
    by false r = ap (λ ys. v.link ∷ ys) r

abbrev pub offered : List Life → List Act
offered vs = map (λ (v : Life). act.Offer v.link) vs

links_offered : (ls : List ℕ) (vs : List Life) → fold links_by ls (offered vs) ≡ ls
links_offered ls [] = refl
links_offered ls (v ∷ vs) = links_offered ls vs

conns_offered : (cs : List ℕ) (vs : List Life) → fold conns_by cs (offered vs) ≡ cs
conns_offered cs [] = refl
conns_offered cs (v ∷ vs) = conns_offered cs vs

-- the first of these acts answers on c
abbrev pub first_answers : ℕ → List Act → Bool
first_answers c (act.Answer d octets ∷ done) = eqb c d
first_answers c _ = false

none_answered : (c : ℕ) (vs : List Life) → first_answers c (offered vs) ≡ false
none_answered c [] = refl
none_answered c (v ∷ vs) = refl

-- the connections without an end after what came with these acts, where these had none before
abbrev pub conns_but : List ℕ → Input → List Act → List ℕ
conns_but cs (input.Opened c) done = cond (first_answers c done) (cs ++ c ∷ []) cs
conns_but cs (input.Shut c) done = others c cs
conns_but cs _ done = cs

-- ---- mark by mark

links_mark : (t : Kind) (own : PeerId) (h : Mark) (K : List Mark) → Mild t h → fold links_by (map key (lives K)) (done_at own h) ≡ map key (lives (h ∷ K))
links_mark t own (Comes e) K m = absurd m
links_mark t own (Opens c) K m = absurd m
links_mark t own (TurnsAway c) K m = absurd m
links_mark t own (IsShut c) K m = absurd m
links_mark t own (Born l p to) K m = sym (map-append key (lives K) (record { link = l; id = p; endpoint = to } ∷ []))
links_mark t own (Ends l why) K m = by why m
  where
    by : (w : Cause) → Mild t (Ends l w) → fold links_by (map key (lives K)) (close_link l w) ≡ map key (other_lives l (lives K))
    by cause.Link n = absurd n
    by _ n = others_of l (lives K)
links_mark t own _ K m = refl

links_marks : (t : Kind) (own : PeerId) (hs K : List Mark) → AreMild t hs → fold links_by (map key (lives K)) (done own hs) ≡ map key (lives (after hs K))
links_marks t own [] K m = refl
links_marks t own (h ∷ hs) K m =
    fold-append links_by (map key (lives K)) (done_at own h) (done own hs)
    ∙ ap (λ ls. fold links_by ls (done own hs)) (links_mark t own h K m.0) ∙ links_marks t own hs (h ∷ K) m.1

pub conns_mark : (t : Kind) (own : PeerId) (h : Mark) (K : List Mark) → Mild t h → fold conns_by (open_ones K) (done_at own h) ≡ open_ones (h ∷ K)
conns_mark t own (Comes e) K m = absurd m
conns_mark t own (Opens c) K m = absurd m
conns_mark t own (TurnsAway c) K m = absurd m
conns_mark t own (IsShut c) K m = absurd m
conns_mark t own (Ends l why) K m = by why
  where
    by : (w : Cause) → fold conns_by (open_ones K) (close_link l w) ≡ open_ones K
    by cause.Link = refl
    by _ = refl
conns_mark t own _ K m = refl

conns_marks : (t : Kind) (own : PeerId) (hs K : List Mark) → AreMild t hs → fold conns_by (open_ones K) (done own hs) ≡ open_ones (after hs K)
conns_marks t own [] K m = refl
conns_marks t own (h ∷ hs) K m =
    fold-append conns_by (open_ones K) (done_at own h) (done own hs)
    ∙ ap (λ cs. fold conns_by cs (done own hs)) (conns_mark t own h K m.0) ∙ conns_marks t own hs (h ∷ K) m.1

-- ---- entry by entry

module _ (g : Config) (H : List Mark) (q : IsProper H) (clean : has_stopped H ≡ true → (lives H ≡ []) × (open_ones H ≡ [])) (e : Entry) where
  abbrev M : List Mark
  M = Comes e ∷ H

  -- ---- links

  abbrev ls : List ℕ
  ls = map key (lives H)

  abbrev Ends_well : Input → List Mark → Type 0
  Ends_well i hs = fold links_by (links_but ls i) (done g.id hs) ≡ map key (lives (after hs M))

  by_mild : (i : Input) → IsMilder i → links_but ls i ≡ ls → Ends_well i (at_input g i H M)
  by_mild i m same = ap (λ xs. fold links_by xs (done g.id (at_input g i H M))) same ∙ links_marks (kind i) g.id (at_input g i H M) M (mild_input g i H M m)

  links_shut : (c : ℕ) → Ends_well (input.Shut c) (at_shut g c M)
  links_shut c = choice (Ends_well (input.Shut c)) (is_open c M) _ _ (λ z. by (runs c M)) (λ z. refl)
    where
      by : (o : Option ℕ) → Ends_well (input.Shut c) (end_of_run g o cause.Shut ++ IsShut c ∷ [])
      by None = refl
      by (Some l) = others_of l (lives H)

  links_unlinked : (l : ℕ) (o : Option Life) → life l M ≡ o → Ends_well (input.Unlinked l) (at_unlinked g l o)
  links_unlinked l None z = others_of l (lives H) ∙ ap (map key) (none_out key l (lives H) (none_any (λ v. eqb l v.link) (lives H) z))
  links_unlinked l (Some v) z = others_of l (lives H)

  links_entry : (i : Input) → Ends_well i (at_input g i H M)
  links_entry (input.Opened c) = choice (Ends_well (input.Opened c)) (is_new c M) _ _ (λ z. choice (Ends_well (input.Opened c)) (ltb (length (open_ones M)) CONNECTIONS) _ _ (λ y. refl) (λ y. refl)) (λ z. refl)
  links_entry (input.Shut c) = links_shut c
  links_entry (input.Unlinked l) = links_unlinked l (life l M) refl
  links_entry i = by_mild i tt refl

  pub links_next : fold links_by (links_but ls e.input) (acts_at g e H) ≡ map key (lives (with_entry g e H))
  links_next = by (has_stopped H) refl
    where
      by : (b : Bool) → has_stopped H ≡ b → let hs = cond b [] (at_input g e.input H M) in
          fold links_by (links_but ls e.input) (cond b [] (done g.id hs ++ offers g e hs (after hs M))) ≡ map key (lives (after hs M))
      by true s = subst (λ (vs : List Life). links_but (map key vs) e.input ≡ map key vs) (sym (clean s).0) (none e.input)
        where
          none : (i : Input) → links_but [] i ≡ []
          none (input.Unlinked l) = refl
          none _ = refl
      by false s = let hs = at_input g e.input H M in
          fold-append links_by (links_but ls e.input) (done g.id hs) (offers g e hs (after hs M))
          ∙ ap (λ xs. fold links_by xs (offers g e hs (after hs M))) (links_entry e.input)
          ∙ links_offered (map key (lives (after hs M))) (filter (is_offered g e hs (after hs M)) (lives (after hs M)))

  -- ---- connections

  abbrev cs : List ℕ
  cs = open_ones H

  -- with any offers
  abbrev Shuts_well : Input → List Mark → Type 0
  Shuts_well i hs = (vs : List Life) → fold conns_by (conns_but cs i (done g.id hs ++ offered vs)) (done g.id hs ++ offered vs) ≡ open_ones (after hs M)

  with_offers : (xs : List ℕ) (hs : List Mark) (vs : List Life) → fold conns_by xs (done g.id hs) ≡ open_ones (after hs M) → fold conns_by xs (done g.id hs ++ offered vs) ≡ open_ones (after hs M)
  with_offers xs hs vs z =
      fold-append conns_by xs (done g.id hs) (offered vs) ∙ ap (λ ys. fold conns_by ys (offered vs)) z
      ∙ conns_offered (open_ones (after hs M)) vs

  conns_opened : (c : ℕ) → Shuts_well (input.Opened c) (at_opened g c M)
  conns_opened c = choice (Shuts_well (input.Opened c)) (is_new c M) _ _
      (λ new. choice (Shuts_well (input.Opened c)) (ltb (length (open_ones M)) CONNECTIONS) _ _ (λ y. opens) (λ y. away new)) (λ z. nothing)
    where
      nothing : Shuts_well (input.Opened c) []
      nothing vs = ap (λ b. fold conns_by (cond b (cs ++ c ∷ []) cs) (offered vs)) (none_answered c vs) ∙ conns_offered cs vs

      opens : Shuts_well (input.Opened c) (Opens c ∷ [])
      opens vs = let me : eqb c c ≡ true = eq-eqb c c refl in rw me (conns_offered (cs ++ c ∷ []) vs)

      away : is_new c M ≡ true → Shuts_well (input.Opened c) (TurnsAway c ∷ [])
      away new vs = conns_offered (others c cs) vs ∙ none_out (λ x. x) c cs (below_none c cs (q.opening.open_old c new))

  conns_shut : (c : ℕ) → Shuts_well (input.Shut c) (at_shut g c M)
  conns_shut c = by (is_open c M) refl
    where
      run : (o : Option ℕ) → Shuts_well (input.Shut c) (end_of_run g o cause.Shut ++ IsShut c ∷ [])
      run None vs = conns_offered (others c cs) vs
      run (Some l) vs = conns_offered (others c cs) vs

      by : (b : Bool) → is_open c M ≡ b → Shuts_well (input.Shut c) (cond b (end_of_run g (runs c M) cause.Shut ++ IsShut c ∷ []) [])
      by true z = run (runs c M)
      by false z = λ vs. conns_offered (others c cs) vs ∙ none_out (λ x. x) c cs z

  conns_unlinked : (l : ℕ) (o : Option Life) → Shuts_well (input.Unlinked l) (at_unlinked g l o)
  conns_unlinked l None vs = conns_offered cs vs
  conns_unlinked l (Some v) vs = conns_offered cs vs

  conns_entry : (i : Input) → Shuts_well i (at_input g i H M)
  conns_entry (input.Opened c) = conns_opened c
  conns_entry (input.Shut c) = conns_shut c
  conns_entry (input.Unlinked l) = conns_unlinked l (life l M)
  conns_entry i = λ vs. with_offers cs (at_input g i H M) vs (conns_marks (kind i) g.id (at_input g i H M) M (mild_input g i H M tt))

  pub conns_next : fold conns_by (conns_but cs e.input (acts_at g e H)) (acts_at g e H) ≡ open_ones (with_entry g e H)
  conns_next = by (has_stopped H) refl
    where
      by : (b : Bool) → has_stopped H ≡ b → let hs = cond b [] (at_input g e.input H M) in
          fold conns_by (conns_but cs e.input (cond b [] (done g.id hs ++ offers g e hs (after hs M)))) (cond b [] (done g.id hs ++ offers g e hs (after hs M))) ≡ open_ones (after hs M)
      by true s = subst (λ (xs : List ℕ). conns_but xs e.input [] ≡ xs) (sym (clean s).1) (none e.input)
        where
          none : (i : Input) → conns_but [] i [] ≡ []
          none (input.Opened c) = refl
          none (input.Shut c) = refl
          none _ = refl
      by false s = let hs = at_input g e.input H M in conns_entry e.input (filter (is_offered g e hs (after hs M)) (lives (after hs M)))

-- ---- the journal

module _ (g : Config) where
  -- what is so of the chronicle of a journal
  pub record IsOf (J : List Entry) (H : List Mark) : Type 0 where
    pub is : chronicle g J ≡ H
    pub proper : IsProper H
    pub clean : has_stopped H ≡ true → (lives H ≡ []) × (open_ones H ≡ [])

  pub of : (J : List Entry) (H : List Mark) → chronicle g J ≡ H → IsOf J H
  of J H z = record {
    is = z;
    proper = subst IsProper z (is_proper g J);
    clean = λ s. let n = leaves_nothing g J (ap has_stopped z ∙ s) in (ap lives (sym z) ∙ n.none_known, ap open_ones (sym z) ∙ n.none_open);
  }

  pub more : (J : List Entry) (e : Entry) (H : List Mark) → chronicle g J ≡ H → chronicle g (J ++ e ∷ []) ≡ with_entry g e H
  more J e H z = (continues g J (e ∷ [])).happened ∙ ap (with_entry g e) z

  links_on : (es : List Entry) (J : List Entry) (H : List Mark) → chronicle g J ≡ H → fold links_with (map key (lives H)) (passages_after g es H) ≡ map key (lives (chronicle_after g es H))
  links_on [] J H z = refl
  links_on (e ∷ es) J H z = let o = of J H z in
      links_acts (acts_at g e H) (links_but (map key (lives H)) e.input) (passages_after g es (with_entry g e H))
      ∙ ap (λ xs. fold links_with xs (passages_after g es (with_entry g e H))) (links_next g H o.proper o.clean e)
      ∙ links_on es (J ++ e ∷ []) (with_entry g e H) (more J e H z)

  -- what is answered first is answered by the acts of that entry
  pub answered_first : (c : ℕ) (done_ : List Act) (es : List Entry) (X : List Mark) → is_answered c (map Did done_ ++ passages_after g es X) ≡ first_answers c done_
  answered_first c [] [] X = refl
  answered_first c [] (e ∷ es) X = refl
  answered_first c (act.Answer d octets ∷ done_) es X = refl
  answered_first c (_ ∷ done_) es X = refl

  -- what comes with an entry, and its acts, where nothing that passes after them answers first
  pub conns_on_entry : (i : Input) (cs : List ℕ) (done_ : List Act) (xs : List Passage) → ((c : ℕ) → is_answered c (map Did done_ ++ xs) ≡ first_answers c done_)
      → conns_on (Came i ∷ (map Did done_ ++ xs)) cs ≡ conns_on xs (fold conns_by (conns_but cs i done_) done_)
  conns_on_entry (input.Opened c) cs done_ xs first =
      ap (λ b. conns_on (map Did done_ ++ xs) (cond b (cs ++ c ∷ []) cs)) (first c)
      ∙ conns_acts done_ (cond (first_answers c done_) (cs ++ c ∷ []) cs) xs
  conns_on_entry (input.Shut c) cs done_ xs first = conns_acts done_ (others c cs) xs
  conns_on_entry _ cs done_ xs first = conns_acts done_ cs xs

  conns_all : (es : List Entry) (J : List Entry) (H : List Mark) → chronicle g J ≡ H → conns_on (passages_after g es H) (open_ones H) ≡ open_ones (chronicle_after g es H)
  conns_all [] J H z = refl
  conns_all (e ∷ es) J H z = let o = of J H z in
      conns_on_entry e.input (open_ones H) (acts_at g e H) (passages_after g es (with_entry g e H)) (λ c. answered_first c (acts_at g e H) es (with_entry g e H))
      ∙ ap (λ xs. conns_on (passages_after g es (with_entry g e H)) xs) (conns_next g H o.proper o.clean e)
      ∙ conns_all es (J ++ e ∷ []) (with_entry g e H) (more J e H z)

  -- ---- what passes

  acts_of : (done_ : List Act) (xs : List Passage) → filter_map act_of (map Did done_ ++ xs) ≡ done_ ++ filter_map act_of xs
  acts_of [] xs = refl
  acts_of (a ∷ done_) xs = ap (λ ys. a ∷ ys) (acts_of done_ xs)

  pub same_acts : (es : List Entry) (H : List Mark) → filter_map act_of (passages_after g es H) ≡ acts_after g es H
  same_acts [] H = refl
  same_acts (e ∷ es) H = acts_of (acts_at g e H) (passages_after g es (with_entry g e H)) ∙ ap (λ xs. acts_at g e H ++ xs) (same_acts es (with_entry g e H))

  inputs_of : (done_ : List Act) (xs : List Passage) → filter_map input_of (map Did done_ ++ xs) ≡ filter_map input_of xs
  inputs_of [] xs = refl
  inputs_of (a ∷ done_) xs = inputs_of done_ xs

  pub same_inputs : (es : List Entry) (H : List Mark) → filter_map input_of (passages_after g es H) ≡ map (λ (e : Entry). e.input) es
  same_inputs [] H = refl
  same_inputs (e ∷ es) H = ap (λ xs. e.input ∷ xs) (inputs_of (acts_at g e H) (passages_after g es (with_entry g e H)) ∙ same_inputs es (with_entry g e H))

  -- ---- a connection that isn't new

  module _ (c : ℕ) where
    old_marks : (hs X : List Mark) → is_new c X ≡ false → is_new c (after hs X) ≡ false
    old_marks [] X e = e
    old_marks (h ∷ hs) X e = old_marks hs (h ∷ X) (old h)
      where
        and_none : (b : Bool) → is_new c X ≡ false → (b && is_new c X) ≡ false
        and_none true z = z
        and_none false z = refl

        old : (k : Mark) → is_new c (k ∷ X) ≡ false
        old (Opens d) = and_none (ltb d c) e
        old (TurnsAway d) = and_none (ltb d c) e
        old _ = e

    -- it is answered only where it is new, and then isn't any more
    abbrev Answers_new : List Mark → List Mark → List Act → Type 0
    Answers_new H X done_ = first_answers c done_ ≡ true → (is_new c H ≡ true) × (is_new c X ≡ false)

    answers_new : (e : Entry) (H : List Mark) → e.input ≡ input.Opened c → Answers_new H (with_entry g e H) (acts_at g e H)
    answers_new e H is = by (has_stopped H)
      where
        M : List Mark
        M = Comes e ∷ H

        none : (X : List Mark) (vs : List Life) → Answers_new H X (offered vs)
        none X vs f = let z : false ≡ true = sym (none_answered c vs) ∙ f in cc

        opened : (hs : List Mark) → hs ≡ at_opened g c M → (vs : List Life) → Answers_new H (after hs M) (done g.id hs ++ offered vs)
        opened hs z vs = subst (λ ks. Answers_new H (after ks M) (done g.id ks ++ offered vs)) (sym z) (new (is_new c M) refl)
          where
            itself : (b : Bool) → ltb c c ≡ b → (b && is_new c M) ≡ false
            itself false y = refl
            itself true y = absurd (omega (arith, ltb-true c c y))

            room : (b : Bool) → is_new c M ≡ true → Answers_new H (after (cond b (Opens c ∷ []) (TurnsAway c ∷ [])) M) (done g.id (cond b (Opens c ∷ []) (TurnsAway c ∷ [])) ++ offered vs)
            room true n f = (n, itself (ltb c c) refl)
            room false n f = let y : false ≡ true = f in cc

            new : (b : Bool) → is_new c M ≡ b → Answers_new H (after (cond b (cond (ltb (length (open_ones M)) CONNECTIONS) (Opens c ∷ []) (TurnsAway c ∷ [])) []) M) (done g.id (cond b (cond (ltb (length (open_ones M)) CONNECTIONS) (Opens c ∷ []) (TurnsAway c ∷ [])) []) ++ offered vs)
            new true n = room (ltb (length (open_ones M)) CONNECTIONS) n
            new false n = none M vs

        by : (b : Bool) → let hs = cond b [] (at_input g e.input H M) in Answers_new H (after hs M) (cond b [] (done g.id hs ++ offers g e hs (after hs M)))
        by true = λ f. let z : false ≡ true = f in cc
        by false = let hs = at_input g e.input H M in opened hs (ap (λ i. at_input g i H M) is) (filter (is_offered g e hs (after hs M)) (lives (after hs M)))

    acts_leave : (done_ : List Act) (xs : List Passage) → conns_left (map Did done_ ++ xs) ≡ conns_left xs
    acts_leave [] xs = refl
    acts_leave (a ∷ done_) xs = acts_leave done_ xs

    -- one that isn't new isn't answered again
    old_none : (es : List Entry) (H : List Mark) → is_new c H ≡ false → list_any (eqb c) (conns_left (passages_after g es H)) ≡ false
    old_none [] H n = refl
    old_none (e ∷ es) H n = by (rest (old_none es (with_entry g e H) (old_marks (marks g e H) (Comes e ∷ H) n))) e.input refl
      where
        X : List Mark
        X = with_entry g e H

        xs : List Passage
        xs = map Did (acts_at g e H) ++ passages_after g es X

        rest : list_any (eqb c) (conns_left (passages_after g es X)) ≡ false → list_any (eqb c) (conns_left xs) ≡ false
        rest r = ap (list_any (eqb c)) (acts_leave (acts_at g e H) (passages_after g es X)) ∙ r

        opened : list_any (eqb c) (conns_left xs) ≡ false → (d : ℕ) → e.input ≡ input.Opened d → (b : Bool) → eqb c d ≡ b → (t : Bool) → is_answered d xs ≡ t
            → list_any (eqb c) (cond (t && not (list_any (ends_conn d) xs)) (d ∷ conns_left xs) (conns_left xs)) ≡ false
        opened r d is b z false y = r
        opened r d is true z true y =
            let same : d ≡ c = sym (eqb-true c d z) in
            let first : first_answers c (acts_at g e H) ≡ true = sym (answered_first c (acts_at g e H) es X) ∙ ap (λ k. is_answered k xs) (sym same) ∙ y in
            absurd (true≢false (sym (answers_new e H (is ∙ ap (λ k. input.Opened k) same) first).0 ∙ n))
        opened r d is false z true y = at (not (list_any (ends_conn d) xs))
          where
            at : (t : Bool) → list_any (eqb c) (cond t (d ∷ conns_left xs) (conns_left xs)) ≡ false
            at true = rw z r
            at false = r

        by : list_any (eqb c) (conns_left xs) ≡ false → (i : Input) → e.input ≡ i → list_any (eqb c) (conns_left (Came i ∷ xs)) ≡ false
        by r (input.Opened d) is = opened r d is (eqb c d) refl (is_answered d xs) refl
        by r _ is = r

    -- what came, among what passes after some acts, came with a later entry
    past_acts : (done_ : List Act) (xs before later : List Passage) (i : Input) → map Did done_ ++ xs ≡ before ++ Came i ∷ later → (ys : List Passage) × (xs ≡ ys ++ Came i ∷ later)
    past_acts [] xs before later i z = (before, z)
    past_acts (a ∷ done_) xs [] later i z = absurd (let w : Did a ≡ Came i = cc in cc)
    past_acts (a ∷ done_) xs (y ∷ before) later i z = past_acts done_ xs before later i (let w : map Did done_ ++ xs ≡ before ++ Came i ∷ later = cc in w)

    once : (es : List Entry) (H : List Mark) (before later : List Passage) → passages_after g es H ≡ before ++ Came (input.Opened c) ∷ later → is_answered c later ≡ true → list_any (eqb c) (conns_left later) ≡ false
    once [] H [] later z a = absurd (let w : [] ≡ Came (input.Opened c) ∷ later = z in cc)
    once [] H (y ∷ before) later z a = absurd (let w : [] ≡ y ∷ (before ++ Came (input.Opened c) ∷ later) = z in cc)
    once (e ∷ es) H [] later z a =
        let came : Came e.input ≡ Came (input.Opened c) = cc in
        let is : e.input ≡ input.Opened c = cc in
        let same : map Did (acts_at g e H) ++ passages_after g es (with_entry g e H) ≡ later = cc in
        let first : first_answers c (acts_at g e H) ≡ true = sym (answered_first c (acts_at g e H) es (with_entry g e H)) ∙ ap (is_answered c) same ∙ a in
        ap (λ xs. list_any (eqb c) (conns_left xs)) (sym same) ∙ ap (list_any (eqb c)) (acts_leave (acts_at g e H) (passages_after g es (with_entry g e H)))
        ∙ old_none es (with_entry g e H) (answers_new e H is first).1
    once (e ∷ es) H (y ∷ before) later z a =
        let p = past_acts (acts_at g e H) (passages_after g es (with_entry g e H)) before later (input.Opened c) (let w : map Did (acts_at g e H) ++ passages_after g es (with_entry g e H) ≡ before ++ Came (input.Opened c) ∷ later = cc in w) in
        once es (with_entry g e H) p.0 later p.1 a

  -- ---- all of it

  module _ (J : List Entry) where
    pub links_are : links_left (passages g J) ≡ map key (lives (chronicle g J))
    links_are = sym (left_links (passages g J) []) ∙ links_on J [] [] refl

    pub conns_are : conns_left (passages g J) ≡ open_ones (chronicle g J)
    conns_are = sym (left_conns (passages g J) []) ∙ conns_all J [] [] refl

    is_known : (l : ℕ) (vs : List Life) → list_any (eqb l) (map key vs) ≡ is_some (find (λ (v : Life). eqb l v.link) vs)
    is_known l [] = refl
    is_known l (v ∷ vs) = by (is_known l vs) (eqb l v.link)
      where
        by : list_any (eqb l) (map key vs) ≡ is_some (find (λ (u : Life). eqb l u.link) vs) → (b : Bool) → (b || list_any (eqb l) (map key vs)) ≡ is_some (cond b (Some v) (find (λ (u : Life). eqb l u.link) vs))
        by r true = refl
        by r false = r

    turned : (o : Option Life) (b : Bool) → is_some o ≡ not b → b ≡ is_none o
    turned None true e = refl
    turned None false e = cc
    turned (Some v) true e = cc
    turned (Some v) false e = refl

    flipped : (a b : Bool) → a ≡ not b → b ≡ not a
    flipped true true e = cc
    flipped true false e = refl
    flipped false true e = refl
    flipped false false e = cc

    pub each_link : (before later : List Passage) (l : ℕ) (to : Endpoint) → passages g J ≡ before ++ Did (act.Connect l to) ∷ later → list_any (ends_link l) later ≡ is_none (life l (chronicle g J))
    each_link before later l to z = turned (life l (chronicle g J)) (list_any (ends_link l) later)
        (sym (is_known l (lives (chronicle g J))) ∙ ap (list_any (eqb l)) (sym (links_on J [] [] refl)) ∙ ap (λ xs. list_any (eqb l) (fold links_with [] xs)) z
        ∙ link_left before later l to (subst ArePaired (sym (same_acts J []) ∙ ap (filter_map act_of) z) (are_paired g J)))

    pub each_conn : (before later : List Passage) (c : ℕ) → passages g J ≡ before ++ Came (input.Opened c) ∷ later → is_answered c later ≡ true → list_any (ends_conn c) later ≡ not (is_open c (chronicle g J))
    each_conn before later c z a = flipped (is_open c (chronicle g J)) (list_any (ends_conn c) later)
        (ap (list_any (eqb c)) (sym (conns_all J [] [] refl)) ∙ ap (λ xs. list_any (eqb c) (conns_on xs [])) z ∙ conn_left before later c a (once c J [] before later z a))

-- At no moment, also amid the acts of an entry, more links or connections are without an end than may be.
use Rattle.std.proofs.Common.{◌≡◌, ℕ, ◌≤◌, Bool, true, false, cond, not, eqb, ltb, List, [], ◌∷◌, ◌++◌, length, map, Option, Some, None, filter, inl, inr, refl, sym, ap, ◌∙◌, subst, arith, eq-eqb}
use Rattle.std.specs.Prelude.{◌⊎◌}
use Rattle.std.proofs.lemmas.List.{length-map, map-append}
use Rattle.std.specs.List.{AllByRecursion, fold}
use Rattle.zre_values.specs.declared.limits.TheConstants.{PEERS, CONNECTIONS}
use Rattle.zre_values.specs.declared.peer_id.PeerId.{PeerId}
use Rattle.zre_zmtp.specs.Written.{own_greeting}
use Rattle.zre_outside.specs.declared.act.Act.{Act}
use Rattle.zre_outside.specs.declared.act.Act.TheVariants as act
use Rattle.zre_outside.specs.declared.entry.Entry.{Entry}
use Rattle.zre_outside.specs.declared.entry.Input.{Input}
use Rattle.zre_outside.specs.declared.entry.Input.TheVariants as input
use Rattle.zre_peer.specs.declared.causes.Cause.{Cause}
use Rattle.zre_peer.specs.declared.causes.Cause.TheVariants as cause
use Rattle.zre_values.specs.declared.settings.Settings.{Settings as Config}
use Rattle.zre_journal.specs.Arrivals.{end_of_run, at_shut}
use Rattle.zre_journal.specs.Chronicle.{Mark, Comes, Opens, TurnsAway, Greets, AnswersPing, Closes, IsShut, ClosesAtStop, Born, Ends, SendsBeacon, after}
use Rattle.zre_journal.specs.Connections.{open_ones, is_open, is_new, runs, others}
use Rattle.zre_journal.specs.Done.{done, done_at, close_link, offers, acts_at, is_offered}
use Rattle.zre_journal.specs.Events.{chronicle}
use Rattle.zre_journal.specs.Happens.{has_stopped, at_input, with_entry}
use Rattle.zre_journal.specs.Leaks.{Passage, Came, Did, passages_after, passages, is_answered, links_left, conns_left, LeaksNothing}
use Rattle.zre_journal.specs.LinkEntries.{at_unlinked}
use Rattle.zre_journal.specs.Peers.{Life, lives, life}
use Rattle.zre_journal.specs.Proper.{IsProper}
use Rattle.zre_journal.proofs.WithinCounts.{IsWithin, within_more, are_few, kept-length}
use Rattle.zre_journal.proofs.LinksWithoutEnd.{key, offered, others_of, first_answers, conns_mark, links_next, conns_next, conns_on_entry, IsOf, of, more, same_acts, same_inputs, links_are, conns_are, each_link, each_conn}
use Rattle.zre_journal.proofs.NumberedLists.{All-map}
use Rattle.zre_journal.proofs.WhichMarks.{Mild, AreMild, Kind, kind, mild_input}
use Rattle.zre_journal.proofs.UnendedPassages.{links_by, links_but, links_with, links_acts, left_links, conns_by, conns_on, left_conns}
use Rattle.zre_journal.proofs.SaidOnConnections.{input_allowed}
use Rattle.zre_journal.proofs.ProperPeers.{Comes-proper}
use Rattle.zre_journal.proofs.WhenMarksCome.{Each, Allowed, step, choice}

-- a mark does one act at most
one_act : (own : PeerId) (h : Mark) → (done_at own h ≡ []) ⊎ ((a : Act) × (done_at own h ≡ a ∷ []))
one_act own (Born l p to) = inr (act.Connect l to, refl)
one_act own (Ends l why) = by why
  where
    by : (w : Cause) → (close_link l w ≡ []) ⊎ ((a : Act) × (close_link l w ≡ a ∷ []))
    by cause.Link = inl refl
    by _ = inr (act.CloseLink l, refl)
one_act own (TurnsAway c) = inr (act.CloseConn c, refl)
one_act own (Closes c why) = inr (act.CloseConn c, refl)
one_act own (ClosesAtStop c) = inr (act.CloseConn c, refl)
one_act own (Opens c) = inr (act.Answer c _, refl)
one_act own (Greets c) = inr (act.Answer c _, refl)
one_act own (AnswersPing c t) = inr (act.Answer c _, refl)
one_act own (SendsBeacon port) = inr (act.Beacon _, refl)
one_act own _ = inl refl

-- ---- a front of the acts of some marks

-- what is left, by the acts and by the chronicle S, is at most so much
module _ (own : PeerId) (with_act : List ℕ → Act → List ℕ) (S : List Mark → List ℕ) (most : ℕ) (calm : (ns : List ℕ) (l : ℕ) → with_act ns (act.Offer l) ≡ ns) where
  abbrev Goes : Mark → List Mark → Type 0
  Goes h X = (fold with_act (S X) (done_at own h) ≡ S (h ∷ X)) × (length (S (h ∷ X)) ≤ most)

  front_calm : (vs : List Life) (front rest : List Act) (ns : List ℕ) → offered vs ≡ front ++ rest → fold with_act ns front ≡ ns
  front_calm vs [] rest ns e = refl
  front_calm [] (a ∷ front) rest ns e = absurd (let w : [] ≡ a ∷ (front ++ rest) = e in cc)
  front_calm (v ∷ vs) (a ∷ front) rest ns e =
      let same : act.Offer v.link ≡ a = cc in
      ap (λ x. fold with_act (with_act ns x) front) (sym same) ∙ ap (λ ms. fold with_act ms front) (calm ns v.link)
      ∙ front_calm vs front rest ns (let w : offered vs ≡ front ++ rest = cc in w)

  front_few : (hs X : List Mark) (vs : List Life) (front rest : List Act) → Each Goes hs X → length (S X) ≤ most → done own hs ++ offered vs ≡ front ++ rest → length (fold with_act (S X) front) ≤ most
  front_few [] X vs front rest a few e = subst (λ ns. length ns ≤ most) (sym (front_calm vs front rest (S X) e)) few
  front_few (h ∷ hs) X vs front rest a few e = at (one_act own h) front e (λ f z. front_few hs (h ∷ X) vs f rest a.1 a.0.1 z)
    where
      at : ((done_at own h ≡ []) ⊎ ((b : Act) × (done_at own h ≡ b ∷ []))) → (f : List Act) → (done_at own h ++ done own hs) ++ offered vs ≡ f ++ rest
          → ((k : List Act) → done own hs ++ offered vs ≡ k ++ rest → length (fold with_act (S (h ∷ X)) k) ≤ most) → length (fold with_act (S X) f) ≤ most
      at (inl z) f y r =
          let same : S X ≡ S (h ∷ X) = ap (fold with_act (S X)) (sym z) ∙ a.0.0 in
          subst (λ ns. length (fold with_act ns f) ≤ most) (sym same) (r f (sym (ap (λ xs. (xs ++ done own hs) ++ offered vs) z) ∙ y))
      at (inr p) [] y r = few
      at (inr p) (c ∷ f) y r =
          let whole : p.0 ∷ (done own hs ++ offered vs) ≡ c ∷ (f ++ rest) = sym (ap (λ xs. (xs ++ done own hs) ++ offered vs) p.1) ∙ y in
          let same : p.0 ≡ c = cc in
          let left : with_act (S X) c ≡ S (h ∷ X) = ap (with_act (S X)) (sym same) ∙ ap (fold with_act (S X)) (sym p.1) ∙ a.0.0 in
          subst (λ ns. length (fold with_act ns f) ≤ most) (sym left) (r f (let w : done own hs ++ offered vs ≡ f ++ rest = cc in w))

-- each of these marks leaves it within its limits
within_each : (hs X : List Mark) → IsProper X → Allowed hs X → IsWithin X → Each (λ h Y. IsWithin (h ∷ Y)) hs X
within_each [] X q a o = tt
within_each (h ∷ hs) X q a o = let w = within_more h X q a.0 o in (w, within_each hs (h ∷ X) (step h X q a.0) a.1 w)

-- ---- links

few_lives : (X : List Mark) → IsWithin X → length (map key (lives X)) ≤ PEERS
few_lives X o = subst (λ n. n ≤ PEERS) (sym (length-map (lives X) key)) o.peers

-- a mark that isn't the end of a peer whose link broke
abbrev Unbroken : Mark → Type 0
Unbroken (Ends l cause.Link) = ⊥
Unbroken _ = Unit {0}

unbroken_mild : (t : Kind) (h : Mark) → Mild t h → Unbroken h
unbroken_mild t (Ends l cause.Link) m = m
unbroken_mild t _ m = tt

link_mark : (own : PeerId) (h : Mark) (X : List Mark) → Unbroken h → fold links_by (map key (lives X)) (done_at own h) ≡ map key (lives (h ∷ X))
link_mark own (Born l p to) X u = sym (map-append key (lives X) (record { link = l; id = p; endpoint = to } ∷ []))
link_mark own (Ends l why) X u = by why u
  where
    by : (w : Cause) → Unbroken (Ends l w) → fold links_by (map key (lives X)) (close_link l w) ≡ map key (lives (Ends l w ∷ X))
    by cause.Link n = absurd n
    by _ n = others_of l (lives X)
link_mark own _ X u = refl

goes_links : (own : PeerId) (hs X : List Mark) → AllByRecursion Unbroken hs → Each (λ h Y. IsWithin (h ∷ Y)) hs X → Each (Goes own links_by (λ Y. map key (lives Y)) PEERS (λ ns l. refl)) hs X
goes_links own [] X u o = tt
goes_links own (h ∷ hs) X u o = ((link_mark own h X u.0, few_lives (h ∷ X) o.0), goes_links own hs (h ∷ X) u.1 o.1)

-- ---- connections

goes_conns : (t : Kind) (own : PeerId) (hs X : List Mark) → AreMild t hs → Each (λ h Y. IsWithin (h ∷ Y)) hs X → Each (Goes own conns_by open_ones CONNECTIONS (λ ns l. refl)) hs X
goes_conns t own [] X u o = tt
goes_conns t own (h ∷ hs) X u o = ((conns_mark t own h X u.0, o.0.connections), goes_conns t own hs (h ∷ X) u.1 o.1)

links_did : (front : List Act) (ns : List ℕ) → fold links_with ns (map Did front) ≡ fold links_by ns front
links_did [] ns = refl
links_did (a ∷ front) ns = links_did front (links_by ns a)

conns_did : (front : List Act) (cs : List ℕ) → conns_on (map Did front) cs ≡ fold conns_by cs front
conns_did [] cs = refl
conns_did (act.CloseConn c ∷ front) cs = conns_did front (others c cs)
conns_did (_ ∷ front) cs = conns_did front cs

-- ---- entry by entry

module _ (g : Config) (H : List Mark) (q : IsProper H) (o : IsWithin H) (e : Entry) where
  abbrev M : List Mark
  M = Comes e ∷ H

  abbrev vs_of : List Mark → List Life
  vs_of hs = filter (is_offered g e hs (after hs M)) (lives (after hs M))

  come : IsProper M
  come = Comes-proper H q e

  within : (i : Input) → Each (λ h Y. IsWithin (h ∷ Y)) (at_input g i H M) M
  within i = within_each (at_input g i H M) M come (input_allowed g i H M come) (record { peers = o.peers; connections = o.connections })

  fewer : (n : ℕ) (ns : List ℕ) (most : ℕ) → length ns ≤ most → length (others n ns) ≤ most
  fewer n ns most z = let k = kept-length (λ x. not (eqb n x)) ns in omega (arith, k, z)

  -- ---- links

  abbrev ls : List ℕ
  ls = map key (lives H)

  links_came : (i : Input) → length (links_but ls i) ≤ PEERS
  links_came (input.Unlinked l) = fewer l ls PEERS (few_lives H o)
  links_came _ = few_lives H o

  abbrev Few_links : Input → List Mark → Type 0
  Few_links i hs = (vs : List Life) (front rest : List Act) → done g.id hs ++ offered vs ≡ front ++ rest → length (fold links_by (links_but ls i) front) ≤ PEERS

  links_by_marks : (i : Input) → links_but ls i ≡ ls → AllByRecursion Unbroken (at_input g i H M) → Few_links i (at_input g i H M)
  links_by_marks i same u vs front rest z = subst (λ ns. length (fold links_by ns front) ≤ PEERS) (sym same)
      (front_few g.id links_by (λ Y. map key (lives Y)) PEERS (λ ns l. refl) (at_input g i H M) M vs front rest (goes_links g.id (at_input g i H M) M u (within i)) (few_lives H o) z)

  links_unlinked : (l : ℕ) (u : Option Life) → Few_links (input.Unlinked l) (at_unlinked g l u)
  links_unlinked l None vs front rest z = subst (λ ns. length ns ≤ PEERS) (sym (front_calm g.id links_by (λ Y. map key (lives Y)) PEERS (λ ns k. refl) vs front rest (others l ls) z)) (links_came (input.Unlinked l))
  links_unlinked l (Some v) vs front rest z = subst (λ ns. length ns ≤ PEERS) (sym (front_calm g.id links_by (λ Y. map key (lives Y)) PEERS (λ ns k. refl) vs front rest (others l ls) z)) (links_came (input.Unlinked l))

  unbroken_shut : (c : ℕ) (r : Option ℕ) → AllByRecursion Unbroken (end_of_run g r cause.Shut ++ IsShut c ∷ [])
  unbroken_shut c None = (tt, tt)
  unbroken_shut c (Some l) = (tt, (tt, tt))

  links_input : (i : Input) → Few_links i (at_input g i H M)
  links_input (input.Opened c) = links_by_marks (input.Opened c) refl (choice (AllByRecursion Unbroken) (is_new c M) _ _ (λ z. choice (AllByRecursion Unbroken) (ltb (length (open_ones M)) CONNECTIONS) _ _ (λ y. (tt, tt)) (λ y. (tt, tt))) (λ z. tt))
  links_input (input.Shut c) = links_by_marks (input.Shut c) refl (choice (AllByRecursion Unbroken) (is_open c M) _ _ (λ z. unbroken_shut c (runs c M)) (λ z. tt))
  links_input (input.Unlinked l) = links_unlinked l (life l M)
  links_input i = links_by_marks i refl (All-map (Mild (kind i)) Unbroken (unbroken_mild (kind i)) (at_input g i H M) (mild_input g i H M tt))

  front_links : (front rest : List Act) → acts_at g e H ≡ front ++ rest → length (fold links_by (links_but ls e.input) front) ≤ PEERS
  front_links = by (has_stopped H)
    where
      by : (b : Bool) → (front rest : List Act) → let hs = cond b [] (at_input g e.input H M) in cond b [] (done g.id hs ++ offers g e hs (after hs M)) ≡ front ++ rest → length (fold links_by (links_but ls e.input) front) ≤ PEERS
      by true [] rest z = links_came e.input
      by true (a ∷ front) rest z = absurd (let w : [] ≡ a ∷ (front ++ rest) = z in cc)
      by false front rest z = links_input e.input (vs_of (at_input g e.input H M)) front rest z

  -- ---- connections

  abbrev cs : List ℕ
  cs = open_ones H

  abbrev Few_conns : Input → List Mark → Type 0
  Few_conns i hs = (vs : List Life) (front rest : List Act) → done g.id hs ++ offered vs ≡ front ++ rest → length (conns_on (Came i ∷ map Did front) cs) ≤ CONNECTIONS

  conns_came : (i : Input) → length (conns_on (Came i ∷ []) cs) ≤ CONNECTIONS
  conns_came (input.Opened c) = o.connections
  conns_came (input.Shut c) = fewer c cs CONNECTIONS o.connections
  conns_came _ = o.connections

  -- offers alone
  calm_conns : (ns : List ℕ) (vs : List Life) (front rest : List Act) → offered vs ≡ front ++ rest → length ns ≤ CONNECTIONS → length (conns_on (map Did front) ns) ≤ CONNECTIONS
  calm_conns ns vs front rest z few = subst (λ ms. length ms ≤ CONNECTIONS) (sym (conns_did front ns ∙ front_calm g.id conns_by open_ones CONNECTIONS (λ ms k. refl) vs front rest ns z)) few

  not_answered : (c : ℕ) (vs : List Life) (front rest : List Act) → offered vs ≡ front ++ rest → is_answered c (map Did front) ≡ false
  not_answered c vs [] rest z = refl
  not_answered c [] (a ∷ front) rest z = absurd (let w : [] ≡ a ∷ (front ++ rest) = z in cc)
  not_answered c (v ∷ vs) (a ∷ front) rest z = let same : act.Offer v.link ≡ a = cc in ap (λ x. is_answered c (Did x ∷ map Did front)) (sym same)

  conns_opened : (c : ℕ) → Few_conns (input.Opened c) (at_input g (input.Opened c) H M)
  conns_opened c = new (is_new c M) refl (within (input.Opened c))
    where
      nothing : Few_conns (input.Opened c) []
      nothing vs front rest z = subst (λ b. length (conns_on (map Did front) (cond b (cs ++ c ∷ []) cs)) ≤ CONNECTIONS) (sym (not_answered c vs front rest z)) (calm_conns cs vs front rest z o.connections)

      opened : IsWithin (Opens c ∷ M) → Few_conns (input.Opened c) (Opens c ∷ [])
      opened w vs [] rest z = o.connections
      opened w vs (a ∷ front) rest z =
          let same : act.Answer c own_greeting ≡ a = cc in
          let me : eqb c c ≡ true = eq-eqb c c refl in
          subst (λ x. length (conns_on (Came (input.Opened c) ∷ Did x ∷ map Did front) cs) ≤ CONNECTIONS) same
          (subst (λ b. length (conns_on (map Did front) (cond b (cs ++ c ∷ []) cs)) ≤ CONNECTIONS) (sym me) (calm_conns (cs ++ c ∷ []) vs front rest (let y : offered vs ≡ front ++ rest = cc in y) w.connections))

      away : Few_conns (input.Opened c) (TurnsAway c ∷ [])
      away vs [] rest z = o.connections
      away vs (a ∷ front) rest z =
          let same : act.CloseConn c ≡ a = cc in
          subst (λ x. length (conns_on (Came (input.Opened c) ∷ Did x ∷ map Did front) cs) ≤ CONNECTIONS) same
          (calm_conns (others c cs) vs front rest (let y : offered vs ≡ front ++ rest = cc in y) (fewer c cs CONNECTIONS o.connections))

      room : (d : Bool) → Each (λ h Y. IsWithin (h ∷ Y)) (cond d (Opens c ∷ []) (TurnsAway c ∷ [])) M → Few_conns (input.Opened c) (cond d (Opens c ∷ []) (TurnsAway c ∷ []))
      room true w = opened w.0
      room false w = away

      new : (b : Bool) → is_new c M ≡ b → Each (λ h Y. IsWithin (h ∷ Y)) (cond b (cond (ltb (length (open_ones M)) CONNECTIONS) (Opens c ∷ []) (TurnsAway c ∷ [])) []) M
          → Few_conns (input.Opened c) (cond b (cond (ltb (length (open_ones M)) CONNECTIONS) (Opens c ∷ []) (TurnsAway c ∷ [])) [])
      new true z w = room (ltb (length (open_ones M)) CONNECTIONS) w
      new false z w = nothing

  conns_shut : (c : ℕ) → Few_conns (input.Shut c) (at_shut g c M)
  conns_shut c = choice (Few_conns (input.Shut c)) (is_open c M) _ _ (λ z. run (runs c M)) (λ z. nothing)
    where
      nothing : Few_conns (input.Shut c) []
      nothing vs front rest z = calm_conns (others c cs) vs front rest z (fewer c cs CONNECTIONS o.connections)

      run : (r : Option ℕ) → Few_conns (input.Shut c) (end_of_run g r cause.Shut ++ IsShut c ∷ [])
      run None vs front rest z = nothing vs front rest z
      run (Some l) vs [] rest z = fewer c cs CONNECTIONS o.connections
      run (Some l) vs (a ∷ front) rest z =
          let same : act.CloseLink l ≡ a = cc in
          subst (λ x. length (conns_on (Did x ∷ map Did front) (others c cs)) ≤ CONNECTIONS) same
          (calm_conns (others c cs) vs front rest (let y : offered vs ≡ front ++ rest = cc in y) (fewer c cs CONNECTIONS o.connections))

  conns_unlinked : (l : ℕ) (u : Option Life) → Few_conns (input.Unlinked l) (at_unlinked g l u)
  conns_unlinked l None vs front rest z = calm_conns cs vs front rest z o.connections
  conns_unlinked l (Some v) vs front rest z = calm_conns cs vs front rest z o.connections

  by_mild : (i : Input) → AreMild (kind i) (at_input g i H M) → (vs : List Life) (front rest : List Act) → done g.id (at_input g i H M) ++ offered vs ≡ front ++ rest → length (conns_on (map Did front) cs) ≤ CONNECTIONS
  by_mild i m vs front rest z = subst (λ ms. length ms ≤ CONNECTIONS) (sym (conns_did front cs))
      (front_few g.id conns_by open_ones CONNECTIONS (λ ns l. refl) (at_input g i H M) M vs front rest (goes_conns (kind i) g.id (at_input g i H M) M m (within i)) o.connections z)

  conns_input : (i : Input) → Few_conns i (at_input g i H M)
  conns_input (input.Opened c) = conns_opened c
  conns_input (input.Shut c) = conns_shut c
  conns_input (input.Unlinked l) = conns_unlinked l (life l M)
  conns_input i = by_mild i (mild_input g i H M tt)

  front_conns_few : (front rest : List Act) → acts_at g e H ≡ front ++ rest → length (conns_on (Came e.input ∷ map Did front) cs) ≤ CONNECTIONS
  front_conns_few = by (has_stopped H)
    where
      by : (b : Bool) → (front rest : List Act) → let hs = cond b [] (at_input g e.input H M) in cond b [] (done g.id hs ++ offers g e hs (after hs M)) ≡ front ++ rest → length (conns_on (Came e.input ∷ map Did front) cs) ≤ CONNECTIONS
      by true [] rest z = conns_came e.input
      by true (a ∷ front) rest z = absurd (let w : [] ≡ a ∷ (front ++ rest) = z in cc)
      by false front rest z = conns_input e.input (vs_of (at_input g e.input H M)) front rest z

-- ---- the journal

-- a front of what passes ends amid these acts, or after them
data Cut (done_ : List Act) (xs before later : List Passage) : Type 0 where
  Amid : (front rest : List Act) → done_ ≡ front ++ rest → before ≡ map Did front → Cut done_ xs before later
  Past : (ys : List Passage) → before ≡ map Did done_ ++ ys → xs ≡ ys ++ later → Cut done_ xs before later

cut_acts : (done_ : List Act) (xs before later : List Passage) → map Did done_ ++ xs ≡ before ++ later → Cut done_ xs before later
cut_acts [] xs before later e = Past before refl e
cut_acts (a ∷ done_) xs [] later e = Amid [] (a ∷ done_) refl refl
cut_acts (a ∷ done_) xs (y ∷ before) later e = by (cut_acts done_ xs before later (let w : map Did done_ ++ xs ≡ before ++ later = cc in w))
  where
    same : y ≡ Did a
    same = cc

    by : Cut done_ xs before later → Cut (a ∷ done_) xs (y ∷ before) later
    by (Amid front rest z w) = Amid (a ∷ front) rest (ap (λ ys. a ∷ ys) z) (λ i. same i ∷ w i)
    by (Past ys z w) = Past ys (λ i. same i ∷ z i) w

module _ (g : Config) where
  within_of : (J : List Entry) (H : List Mark) → chronicle g J ≡ H → IsWithin H
  within_of J H z = subst IsWithin z (let f = are_few g J in record { peers = f.few_peers; connections = f.few_connections })

  -- what is answered first is answered by these acts, where a front of what passes with later entries comes after them
  first_of : (c : ℕ) (done_ : List Act) (ys later : List Passage) (es : List Entry) (X : List Mark) → passages_after g es X ≡ ys ++ later → is_answered c (map Did done_ ++ ys) ≡ first_answers c done_
  first_of c [] [] later es X z = refl
  first_of c [] (y ∷ ys) later [] X z = absurd (let w : [] ≡ y ∷ (ys ++ later) = z in cc)
  first_of c [] (y ∷ ys) later (e ∷ es) X z = let same : Came e.input ≡ y = cc in ap (λ x. is_answered c (x ∷ ys)) (sym same)
  first_of c (act.Answer d octets ∷ done_) ys later es X z = refl
  first_of c (_ ∷ done_) ys later es X z = refl

  few_on : (es : List Entry) (J : List Entry) (H : List Mark) → chronicle g J ≡ H → (before later : List Passage) → passages_after g es H ≡ before ++ later
      → (length (fold links_with (map key (lives H)) before) ≤ PEERS) × (length (conns_on before (open_ones H)) ≤ CONNECTIONS)
  few_on es J H z [] later e = let w = within_of J H z in (few_lives H w, w.connections)
  few_on [] J H z (x ∷ before) later e = absurd (let w : [] ≡ x ∷ (before ++ later) = e in cc)
  few_on (f ∷ es) J H z (x ∷ before) later e =
      let same : Came f.input ≡ x = cc in
      let rest : map Did (acts_at g f H) ++ passages_after g es (with_entry g f H) ≡ before ++ later = cc in
      subst (λ y. (length (fold links_with (map key (lives H)) (y ∷ before)) ≤ PEERS) × (length (conns_on (y ∷ before) (open_ones H)) ≤ CONNECTIONS)) same
      (by (cut_acts (acts_at g f H) (passages_after g es (with_entry g f H)) before later rest)
      (λ ys w. few_on es (J ++ f ∷ []) (with_entry g f H) (more g J f H z) ys later w))
    where
      i : IsOf g J H
      i = of g J H z

      w : IsWithin H
      w = within_of J H z

      by : Cut (acts_at g f H) (passages_after g es (with_entry g f H)) before later
          → ((ys : List Passage) → passages_after g es (with_entry g f H) ≡ ys ++ later → (length (fold links_with (map key (lives (with_entry g f H))) ys) ≤ PEERS) × (length (conns_on ys (open_ones (with_entry g f H))) ≤ CONNECTIONS))
          → (length (fold links_with (map key (lives H)) (Came f.input ∷ before)) ≤ PEERS) × (length (conns_on (Came f.input ∷ before) (open_ones H)) ≤ CONNECTIONS)
      by (Amid front rest_ z y) r = (
        subst (λ ys. length (fold links_with (links_but (map key (lives H)) f.input) ys) ≤ PEERS) (sym y)
            (subst (λ (ns : List ℕ). length ns ≤ PEERS) (sym (links_did front (links_but (map key (lives H)) f.input))) (front_links g H i.proper w f front rest_ z)),
        subst (λ ys. length (conns_on (Came f.input ∷ ys) (open_ones H)) ≤ CONNECTIONS) (sym y) (front_conns_few g H i.proper w f front rest_ z),
      )
      by (Past ys z y) r =
          let acts = acts_at g f H in
          let more_ = r ys y in (
            subst (λ xs. length (fold links_with (links_but (map key (lives H)) f.input) xs) ≤ PEERS) (sym z)
                (subst (λ (ns : List ℕ). length ns ≤ PEERS) (sym (links_acts acts (links_but (map key (lives H)) f.input) ys ∙ ap (λ ns. fold links_with ns ys) (links_next g H i.proper i.clean f))) more_.0),
            subst (λ xs. length (conns_on (Came f.input ∷ xs) (open_ones H)) ≤ CONNECTIONS) (sym z)
                (subst (λ (ns : List ℕ). length ns ≤ CONNECTIONS) (sym (conns_on_entry g f.input (open_ones H) acts ys (λ c. first_of c acts ys later es (with_entry g f H) y) ∙ ap (λ ns. conns_on ys ns) (conns_next g H i.proper i.clean f))) more_.1),
          )

  pub few_left : (J : List Entry) (before later : List Passage) → passages g J ≡ before ++ later → (length (links_left before) ≤ PEERS) × (length (conns_left before) ≤ CONNECTIONS)
  few_left J before later e = let f = few_on J [] [] refl before later e in
      (subst (λ (ns : List ℕ). length ns ≤ PEERS) (left_links before []) f.0, subst (λ (ns : List ℕ). length ns ≤ CONNECTIONS) (left_conns before []) f.1)

pub leaks_nothing : (g : Config) (J : List Entry) → LeaksNothing g J
leaks_nothing g J = record {
  are_inputs = same_inputs g J [];
  are_acts = same_acts g J [];
  each_link = λ before later l to z. each_link g J before later l to z;
  each_conn = λ before later c z a. each_conn g J before later c z a;
  links_are = links_are g J;
  conns_are = conns_are g J;
  few_links = λ before later z. (few_left g J before later z).0;
  few_conns = λ before later z. (few_left g J before later z).1;
}

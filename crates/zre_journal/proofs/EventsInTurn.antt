-- What is told of a peer stands between its ENTER and its EXIT.
use Rattle.std.proofs.Common.{◌≡◌, ℕ, ◌+◌, Bool, true, false, cond, not, ◌&&◌, eqb, List, [], ◌∷◌, ◌++◌, map, Option, Some, None, is_some, find, refl, sym, ap, ◌∙◌, subst, arith, eqb-true, eq-eqb, append_assoc, append-nil}
use Rattle.std.specs.Option.{option_map_or}
use Rattle.std.proofs.lemmas.List.Sums.{fold-append}
use Rattle.std.specs.List.{AllByRecursion, fold}
use Rattle.std.specs.Str.{bytes_eq}
use Rattle.zre_values.specs.declared.peer_id.PeerId.{PeerId}
use Rattle.zre_values.specs.declared.endpoint.Endpoint.{Endpoint}
use Rattle.zre_values.proofs.Digits.{bytes_eq-same}
use Rattle.zre_msg.specs.declared.message.Body.{Body}
use Rattle.zre_msg.specs.declared.message.Body.TheVariants as body
use Rattle.zre_msg.specs.declared.message.Message.{Message}
use Rattle.zre_outside.specs.declared.entry.Entry.{Entry}
use Rattle.zre_peer.specs.Members.{distinct}
use Rattle.zre_peer.specs.Runs.{events_of, is_hello, may_follow}
use Rattle.zre_peer.specs.Views.{view_of, is_small}
use Rattle.zre_peer.specs.declared.view.View.{View}
use Rattle.zre_peer.specs.declared.causes.Cause.{Cause}
use Rattle.zre_peer.specs.declared.event.Event.{Event}
use Rattle.zre_peer.specs.declared.event.Event.TheVariants as event
use Rattle.zre_values.specs.declared.settings.Settings.{Settings as Config}
use Rattle.zre_journal.specs.Chronicle.{Mark, Comes, TurnsAway, Closes, Ignores, Refuses, Stops, Born, Starts, Counts, Ends, IsEvasive, after}
use Rattle.zre_journal.specs.Peers.{Life, lives, life, life_of, births, runner, is_entered, view}
use Rattle.zre_journal.specs.Told.{told, told_in, told_at, by_message, exit, becoming_evasive}
use Rattle.zre_journal.specs.Happens.{marks, with_entry, chronicle_after}
use Rattle.zre_journal.specs.Events.{events_at, events_after, events, chronicle}
use Rattle.zre_journal.specs.Proper.{IsProper}
use Rattle.zre_journal.specs.Spoken.{subject, is_enter, in_after, is_in, has_entered, AreInTurn}
use Rattle.zre_journal.proofs.ProperChronicles.{always}
use Rattle.zre_journal.proofs.WithinCounts.{AreNamed, named_more, found_kept, none_kept, none_end, another}
use Rattle.zre_journal.proofs.ProperAfterMarks.{known_lives, run_known, run_is}
use Rattle.zre_journal.proofs.KnownPeers.{known_of, id_of, same_id, life_stays}
use Rattle.zre_journal.proofs.NumberedLists.{some_is, found_before, eqb-comm}
use Rattle.zre_journal.proofs.WhenMarksCome.{May, step}

-- ---- the events of a chronicle

told_after : (hs H : List Mark) → told_in (after hs H) ≡ told_in H ++ told hs H
told_after [] H = sym (append-nil (told_in H))
told_after (h ∷ hs) H = told_after hs (h ∷ H) ∙ append_assoc (told_in H) (told_at h H) (told hs (h ∷ H))

told_later : (g : Config) (es : List Entry) (H : List Mark) → told_in (chronicle_after g es H) ≡ told_in H ++ events_after g es H
told_later g [] H = sym (append-nil (told_in H))
told_later g (e ∷ es) H =
    told_later g es (with_entry g e H)
    ∙ ap (λ xs. xs ++ events_after g es (with_entry g e H)) (told_after (marks g e H) (Comes e ∷ H) ∙ ap (λ xs. xs ++ events_at g e H) (append-nil (told_in H)))
    ∙ append_assoc (told_in H) (events_at g e H) (events_after g es (with_entry g e H))

pub told_all : (g : Config) (J : List Entry) → told_in (chronicle g J) ≡ events g J
told_all g J = told_later g J []

-- ---- events that may come, where b says whether p is in

abbrev AreFit : PeerId → Bool → List Event → Type 0
AreFit p b [] = Unit {0}
AreFit p b (e ∷ es) = (subject e ≡ Some p → is_enter e ≡ not b) × AreFit p (in_after p b e) es

-- and d whether it is after them
record Lead (p : PeerId) (b : Bool) (es : List Event) (d : Bool) : Type 0 where
  fit : AreFit p b es
  last : fold (in_after p) b es ≡ d

fit_both : (p : PeerId) (b : Bool) (xs ys : List Event) → AreFit p b xs → AreFit p (fold (in_after p) b xs) ys → AreFit p b (xs ++ ys)
fit_both p b [] ys f k = k
fit_both p b (x ∷ xs) ys f k = (f.0, fit_both p (in_after p b x) xs ys f.1 k)

fit_at : (p : PeerId) (b : Bool) (before later : List Event) (e : Event) → AreFit p b (before ++ e ∷ later) → subject e ≡ Some p → is_enter e ≡ not (fold (in_after p) b before)
fit_at p b [] later e f s = f.0 s
fit_at p b (x ∷ before) later e f s = fit_at p (in_after p b x) before later e f.1 s

-- events of q that neither bring it in nor take it out
abbrev AreMild : PeerId → List Event → Type 0
AreMild q es = AllByRecursion (λ e. (subject e ≡ Some q) × (is_enter e ≡ false) × ((p : PeerId) (b : Bool) → in_after p b e ≡ b)) es

is_same_id : (p q : PeerId) → Some q ≡ Some p → bytes_eq p.0 q.0 ≡ true
is_same_id p q e = let same : q ≡ p = cc in bytes_eq-same p.0 q.0 (ap (λ (i : PeerId). i.0) (sym same))

mild : (p q : PeerId) (b : Bool) (es : List Event) → AreMild q es → (bytes_eq p.0 q.0 ≡ true → b ≡ true) → Lead p b es b
mild p q b [] m f = record { fit = tt; last = refl }
mild p q b (e ∷ es) m f =
    let r = mild p q b es m.1 f in
    let still = m.0.2 p b in
    record {
      fit = (λ s. m.0.1 ∙ ap not (sym (f (is_same_id p q (sym m.0.0 ∙ s)))), subst (λ c. AreFit p c es) (sym still) r.fit);
      last = ap (λ c. fold (in_after p) c es) still ∙ r.last;
    }

mild_joins : (q : PeerId) (name : List ℕ) (gs : List (List ℕ)) → AreMild q (map (λ g. event.Join q name g) gs)
mild_joins q name [] = tt
mild_joins q name (g ∷ gs) = ((refl, refl, λ p b. refl), mild_joins q name gs)

mild_later : (q : PeerId) (v : View) (b : Body) → is_hello b ≡ false → AreMild q (events_of q v b)
mild_later q v (body.Hello endpoint groups status name headers) n = cc
mild_later q v (body.Whisper content) n = ((refl, refl, λ p b. refl), tt)
mild_later q v (body.Shout group content) n = ((refl, refl, λ p b. refl), tt)
mild_later q v (body.Join group status) n = ((refl, refl, λ p b. refl), tt)
mild_later q v (body.Leave group status) n = ((refl, refl, λ p b. refl), tt)
mild_later q v body.Ping n = tt
mild_later q v body.PingOk n = tt
mild_later q v (body.Other number rest more) n = tt

-- ENTER, and the groups of HELLO
enters : (p q : PeerId) (v : View) (b d : Bool) (m : Body) → is_hello m ≡ true → (bytes_eq p.0 q.0 ≡ true → (b ≡ false) × (d ≡ true)) → (bytes_eq p.0 q.0 ≡ false → d ≡ b) → Lead p b (events_of q v m) d
enters p q v b d (body.Hello endpoint groups status name headers) h f g = by (bytes_eq p.0 q.0) refl
  where
    joins : List Event
    joins = map (λ group. event.Join q name group) (distinct groups)

    by : (t : Bool) → bytes_eq p.0 q.0 ≡ t → Lead p b (events_of q v (body.Hello endpoint groups status name headers)) d
    by true e =
        let r = mild p q true joins (mild_joins q name (distinct groups)) (λ z. refl) in
        record {
          fit = (λ s. ap not (sym (f e).0), subst (λ t. AreFit p (cond t true b) joins) (sym e) r.fit);
          last = ap (λ t. fold (in_after p) (cond t true b) joins) e ∙ r.last ∙ sym (f e).1;
        }
    by false e =
        let r = mild p q b joins (mild_joins q name (distinct groups)) (λ z. let w : false ≡ true = sym e ∙ z in cc) in
        record {
          fit = (λ s. let w : true ≡ false = sym (is_same_id p q s) ∙ e in cc, subst (λ t. AreFit p (cond t true b) joins) (sym e) r.fit);
          last = ap (λ t. fold (in_after p) (cond t true b) joins) e ∙ r.last ∙ sym (g e);
        }
enters p q v b d body.Ping h f g = cc
enters p q v b d body.PingOk h f g = cc
enters p q v b d (body.Whisper content) h f g = cc
enters p q v b d (body.Shout group content) h f g = cc
enters p q v b d (body.Join group status) h f g = cc
enters p q v b d (body.Leave group status) h f g = cc
enters p q v b d (body.Other number rest more) h f g = cc

-- ---- who is in, after each mark

pub first_is_hello : (m : Message) → may_follow [] m ≡ true → is_hello m.body ≡ true
first_is_hello m first = by (is_hello m.body) (eqb m.sequence 1) (is_small (view_of (m ∷ []))) first
  where
    by : (a b d : Bool) → (a && b && d) ≡ true → a ≡ true
    by true b d z = refl
    by false b d z = cc

module _ (p : PeerId) (H : List Mark) (q : IsProper H) (n : AreNamed H) where
  -- the known peer of this id, by its link
  it_is : (l : ℕ) (v : Life) → life l H ≡ Some v → bytes_eq p.0 v.id.0 ≡ true → life_of p H ≡ Some v
  it_is l v e s = ap (λ (i : PeerId). life_of i H) (sym (same_id p v.id s)) ∙ n l v e

  -- another has another link
  far_link : (l : ℕ) (v u : Life) → life l H ≡ Some v → bytes_eq p.0 v.id.0 ≡ false → life_of p H ≡ Some u → eqb u.link l ≡ false
  far_link l v u e far f = by (eqb u.link l) refl
    where
      by : (b : Bool) → eqb u.link l ≡ b → b ≡ false
      by false k = refl
      by true k =
          let z : Some u ≡ Some v = sym (known_of H q p u f) ∙ ap (λ x. life x H) (eqb-true u.link l k) ∙ e in
          let same : u ≡ v = cc in
          let id : v.id ≡ p = ap (λ (x : Life). x.id) (sym same) ∙ id_of H p u f in
          let w : true ≡ false = sym (bytes_eq-same p.0 v.id.0 (ap (λ (i : PeerId). i.0) (sym id))) ∙ far in
          cc

  is_run : (l : ℕ) (v : Life) → life l H ≡ Some v → is_some (runner l H) ≡ true → bytes_eq p.0 v.id.0 ≡ true → has_entered p H ≡ true
  is_run l v e r s = rw (it_is l v e s) (ap (λ x. is_some (runner x H)) (sym (known_lives H q l v e).2) ∙ r)

  births_lead : (l : ℕ) (i : PeerId) (e : Endpoint) → May (Born l i e) H → has_entered p H ≡ has_entered p (Born l i e ∷ H)
  births_lead l i e m = by (life_of p H) refl (bytes_eq p.0 i.0) refl
    where
      unrun : runner l H ≡ None
      unrun = subst (λ k. runner k H ≡ None) (sym m.next_link) (q.living.fresh (births H + 1) (omega arith)).no_run

      none : (vs : List Life) → find (λ (v : Life). bytes_eq p.0 v.id.0) vs ≡ None → bytes_eq p.0 i.0 ≡ false → find (λ (v : Life). bytes_eq p.0 v.id.0) (vs ++ record { link = l; id = i; endpoint = e } ∷ []) ≡ None
      none [] f k = rw k refl
      none (v ∷ vs) f k = at (λ z. none vs z k) (bytes_eq p.0 v.id.0) f
        where
          at : (find (λ (u : Life). bytes_eq p.0 u.id.0) vs ≡ None → find (λ (u : Life). bytes_eq p.0 u.id.0) (vs ++ record { link = l; id = i; endpoint = e } ∷ []) ≡ None) → (b : Bool)
              → cond b (Some v) (find (λ (u : Life). bytes_eq p.0 u.id.0) vs) ≡ None → cond b (Some v) (find (λ (u : Life). bytes_eq p.0 u.id.0) (vs ++ record { link = l; id = i; endpoint = e } ∷ [])) ≡ None
          at r true z = cc
          at r false z = r z

      by : (o : Option Life) → life_of p H ≡ o → (b : Bool) → bytes_eq p.0 i.0 ≡ b → has_entered p H ≡ has_entered p (Born l i e ∷ H)
      by (Some v) f b k = let later : life_of p (Born l i e ∷ H) ≡ Some v = found_before (λ (u : Life). bytes_eq p.0 u.id.0) (lives H) (record { link = l; id = i; endpoint = e } ∷ []) v f in rw (f, later) refl
      by None f true k = let later : life_of p (Born l i e ∷ H) ≡ Some (record { link = l; id = i; endpoint = e }) = none_end (λ (u : Life). bytes_eq p.0 u.id.0) (lives H) (record { link = l; id = i; endpoint = e }) f k in rw (f, later, unrun) refl
      by None f false k = let later : life_of p (Born l i e ∷ H) ≡ None = none (lives H) f k in rw (f, later) refl

  start_leads : (c l : ℕ) (m : Message) → May (Starts c l m) H → Lead p (has_entered p H) (told_at (Starts c l m) H) (has_entered p (Starts c l m ∷ H))
  start_leads c l m y = subst (λ o. Lead p (has_entered p H) (by_message o m H) (has_entered p (Starts c l m ∷ H))) (sym y.known)
      (enters p y.who.id (view y.who.link H) (has_entered p H) (has_entered p (Starts c l m ∷ H)) m.body hello (λ s. (before s, later s)) other)
    where
      hello : is_hello m.body ≡ true
      hello = first_is_hello m y.first

      link : l ≡ y.who.link
      link = (known_lives H q l y.who y.known).2

      before : bytes_eq p.0 y.who.id.0 ≡ true → has_entered p H ≡ false
      before s = rw (it_is l y.who y.known s) (ap (λ x. is_some (runner x H)) (sym link) ∙ ap is_some y.free)

      later : bytes_eq p.0 y.who.id.0 ≡ true → has_entered p (Starts c l m ∷ H) ≡ true
      later s = let here : eqb y.who.link l ≡ true = eq-eqb y.who.link l (sym link) in rw (it_is l y.who y.known s, here) refl

      other : bytes_eq p.0 y.who.id.0 ≡ false → has_entered p (Starts c l m ∷ H) ≡ has_entered p H
      other far = by (life_of p H) refl
        where
          by : (o : Option Life) → life_of p H ≡ o → option_map_or (is_entered (Starts c l m ∷ H)) o false ≡ option_map_or (is_entered H) o false
          by None f = refl
          by (Some u) f = rw (far_link l y.who u y.known far f) refl

  count_leads : (c l : ℕ) (m : Message) → May (Counts c l m) H → Lead p (has_entered p H) (told_at (Counts c l m) H) (has_entered p H)
  count_leads c l m y =
      let v = some_is (life l H) (run_known H q c l y.running) in
      subst (λ o. Lead p (has_entered p H) (by_message o m H) (has_entered p H)) (sym v.1)
      (mild p v.0.id (has_entered p H) (events_of v.0.id (view v.0.link H) m.body) (mild_later v.0.id (view v.0.link H) m.body y.later) (is_run l v.0 v.1 (ap is_some (run_is H q c l y.running))))

  probe_leads : (l : ℕ) → May (IsEvasive l) H → Lead p (has_entered p H) (told_at (IsEvasive l) H) (has_entered p H)
  probe_leads l y =
      let v = some_is (life l H) y.is_known in
      subst (λ o. Lead p (has_entered p H) (becoming_evasive o H) (has_entered p H)) (sym v.1)
      (mild p v.0.id (has_entered p H) (event.Evasive v.0.id (view v.0.link H).name ∷ []) ((refl, refl, λ i b. refl), tt) (is_run l v.0 v.1 y.is_run))

  end_leads : (l : ℕ) (why : Cause) → May (Ends l why) H → Lead p (has_entered p H) (told_at (Ends l why) H) (has_entered p (Ends l why ∷ H))
  end_leads l why y =
      let v = some_is (life l H) y in
      subst (λ o. Lead p (has_entered p H) (exit o why H) (has_entered p (Ends l why ∷ H))) (sym v.1) (by v.0 v.1 (bytes_eq p.0 v.0.id.0) refl)
    where
      r : IsProper (Ends l why ∷ H)
      r = step (Ends l why) H q y

      -- none of this id is left
      gone : (v : Life) → life l H ≡ Some v → bytes_eq p.0 v.id.0 ≡ true → life_of p (Ends l why ∷ H) ≡ None
      gone v e s = at (life_of p (Ends l why ∷ H)) refl
        where
          at : (o : Option Life) → life_of p (Ends l why ∷ H) ≡ o → o ≡ None
          at None f = refl
          at (Some u) f =
              let k = known_of (Ends l why ∷ H) r p u f in
              let far = another H l u.link why u r k in
              let old : life u.link H ≡ Some u = sym (life_stays H l u.link why far) ∙ k in
              let z : Some u ≡ Some v = sym (n u.link u old) ∙ ap (λ (i : PeerId). life_of i H) (id_of (Ends l why ∷ H) p u f) ∙ it_is l v e s in
              let same : u ≡ v = cc in
              let link : l ≡ u.link = (known_lives H q l v e).2 ∙ ap (λ (x : Life). x.link) (sym same) in
              let w : true ≡ false = sym (eq-eqb l u.link link) ∙ far in
              cc

      -- one of another id is as before
      kept : (v : Life) → life l H ≡ Some v → bytes_eq p.0 v.id.0 ≡ false → has_entered p (Ends l why ∷ H) ≡ has_entered p H
      kept v e far = at (life_of p H) refl
        where
          at : (o : Option Life) → life_of p H ≡ o → has_entered p (Ends l why ∷ H) ≡ option_map_or (is_entered H) o false
          at None f = let none : life_of p (Ends l why ∷ H) ≡ None = none_kept (λ (u : Life). bytes_eq p.0 u.id.0) (λ (u : Life). not (eqb l u.link)) (lives H) f in rw none refl
          at (Some u) f =
              let off : eqb l u.link ≡ false = eqb-comm l u.link ∙ far_link l v u e far f in
              let left : life_of p (Ends l why ∷ H) ≡ Some u = found_kept (λ (x : Life). bytes_eq p.0 x.id.0) (λ (x : Life). not (eqb l x.link)) (lives H) u f (rw off refl) in
              rw left refl

      by : (v : Life) → life l H ≡ Some v → (t : Bool) → bytes_eq p.0 v.id.0 ≡ t → Lead p (has_entered p H) (exit (Some v) why H) (has_entered p (Ends l why ∷ H))
      by v e true s = let a = it_is l v e s in let b = gone v e s in rw (a, b) (at (is_entered H v))
        where
          at : (t : Bool) → Lead p t (cond t (event.Exit v.id (view v.link H).name why ∷ []) []) false
          at true = record { fit = (λ z. refl, tt); last = rw s refl }
          at false = record { fit = tt; last = refl }
      by v e false s = rw (kept v e s) (at (is_entered H v))
        where
          at : (t : Bool) → Lead p (has_entered p H) (cond t (event.Exit v.id (view v.link H).name why ∷ []) []) (has_entered p H)
          at true = record { fit = (λ z. let w : true ≡ false = sym (is_same_id p v.id z) ∙ s in cc, tt); last = rw s refl }
          at false = record { fit = tt; last = refl }

-- a mark that starts no run, and leaves the lives, leaves in who is in
stays_in : (o : Option Life) (h : Mark) (H : List Mark) → ((k : ℕ) → runner k (h ∷ H) ≡ runner k H) → option_map_or (is_entered H) o false ≡ option_map_or (is_entered (h ∷ H)) o false
stays_in None h H r = refl
stays_in (Some v) h H r = ap is_some (sym (r v.link))

leads : (p : PeerId) (h : Mark) (H : List Mark) → IsProper H → May h H → AreNamed H → Lead p (has_entered p H) (told_at h H) (has_entered p (h ∷ H))
leads p (TurnsAway c) H q m n = record { fit = (λ s. cc, tt); last = stays_in (life_of p H) (TurnsAway c) H (λ k. refl) }
leads p (Closes c why) H q m n = record { fit = (λ s. cc, tt); last = stays_in (life_of p H) (Closes c why) H (λ k. refl) }
leads p (Ignores c why) H q m n = record { fit = (λ s. cc, tt); last = stays_in (life_of p H) (Ignores c why) H (λ k. refl) }
leads p (Refuses why) H q m n = record { fit = (λ s. cc, tt); last = stays_in (life_of p H) (Refuses why) H (λ k. refl) }
leads p Stops H q m n = record { fit = (λ s. cc, tt); last = stays_in (life_of p H) Stops H (λ k. refl) }
leads p (Born l i e) H q m n = record { fit = tt; last = births_lead p H q n l i e m }
leads p (Starts c l m) H q y n = start_leads p H q n c l m y
leads p (Counts c l m) H q y n =
    subst (Lead p (has_entered p H) (told_at (Counts c l m) H)) (stays_in (life_of p H) (Counts c l m) H (λ k. refl)) (count_leads p H q n c l m y)
leads p (IsEvasive l) H q y n = subst (Lead p (has_entered p H) (told_at (IsEvasive l) H)) (stays_in (life_of p H) (IsEvasive l) H (λ k. refl)) (probe_leads p H q n l y)
leads p (Ends l why) H q y n = end_leads p H q n l why y
leads p h H q m n = record { fit = tt; last = stays_in (life_of p H) h H (λ k. refl) }

-- ---- all events

record IsSpoken (H : List Mark) : Type 0 where
  are_named : AreNamed H
  fits : (p : PeerId) → AreFit p false (told_in H)
  ends : (p : PeerId) → is_in p (told_in H) ≡ has_entered p H

spoken_more : (h : Mark) (H : List Mark) → IsProper H → May h H → IsSpoken H → IsSpoken (h ∷ H)
spoken_more h H q m o = record {
  are_named = named_more h H q m (step h H q m) o.are_named;
  fits = λ p. fit_both p false (told_in H) (told_at h H) (o.fits p) (subst (λ b. AreFit p b (told_at h H)) (sym (o.ends p)) (leads p h H q m o.are_named).fit);
  ends = λ p. fold-append (in_after p) false (told_in H) (told_at h H) ∙ ap (λ b. fold (in_after p) b (told_at h H)) (o.ends p) ∙ (leads p h H q m o.are_named).last;
}

none_spoken : IsSpoken []
none_spoken = record { are_named = λ l v e. cc; fits = λ p. tt; ends = λ p. refl }

pub events_are : (g : Config) (journal : List Entry) → told_in (chronicle g journal) ≡ events g journal
events_are g journal = told_later g journal []

pub are_in_turn : (g : Config) (journal : List Entry) → AreInTurn (events g journal) (chronicle g journal)
are_in_turn g journal =
    let s = always g IsSpoken spoken_more none_spoken journal in
    let same = events_are g journal in
    record {
      enters_first = λ before later e p cut k. fit_at p false before later e (subst (AreFit p false) (same ∙ cut) (s.fits p)) k;
      stands = λ p. ap (is_in p) (sym same) ∙ s.ends p;
    }

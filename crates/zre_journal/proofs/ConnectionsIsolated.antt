-- All that comes about at an entry about a connection is its own doing.
use Rattle.std.proofs.Common.{◌≡◌, ◌≢◌, ℕ, ◌+◌, Bool, true, false, true≢false, cond, not, ◌&&◌, ◌||◌, eqb, ltb, List, [], ◌∷◌, ◌++◌, length, Option, Some, None, refl, sym, ap, ◌∙◌, subst, eqb-true, eq-eqb, ne_eqb, append-nil}
use Rattle.std.proofs.lemmas.Bool.{and_parts}
use Rattle.std.proofs.lemmas.List.Folds.{list_any-append}
use Rattle.std.proofs.lemmas.Map.Views.{any-filter_same}
use Rattle.std.specs.List.{AllByRecursion, list_any}
use Rattle.zre_values.specs.declared.limits.TheConstants.{PEERS, CONNECTIONS, UNSENT_OCTETS}
use Rattle.zre_values.specs.declared.peer_id.PeerId.{PeerId}
use Rattle.zre_values.specs.declared.endpoint.Endpoint.{Endpoint}
use Rattle.zre_values.specs.Endpoint.{endpoint_in}
use Rattle.zre_values.proofs.Digits.{bytes_eq-same}
use Rattle.zre_mailbox.specs.declared.arrival.Arrival.TheVariants as arrival
use Rattle.zre_mailbox.specs.Talk.{Said, Arrived, Fault}
use Rattle.zre_msg.specs.declared.message.Body.{Body}
use Rattle.zre_msg.specs.declared.message.Body.TheVariants as body
use Rattle.zre_msg.specs.declared.message.Message.{Message}
use Rattle.zre_link.specs.Text.{size_of}
use Rattle.zre_outside.specs.declared.entry.Entry.{Entry}
use Rattle.zre_outside.specs.declared.entry.Input.{Input}
use Rattle.zre_outside.specs.declared.entry.Input.TheVariants as input
use Rattle.zre_peer.specs.Runs.{is_hello, due}
use Rattle.zre_peer.specs.Views.{view_of, is_small}
use Rattle.zre_peer.specs.declared.causes.Cause.{Cause}
use Rattle.zre_peer.specs.declared.causes.Cause.TheVariants as cause
use Rattle.zre_peer.specs.declared.causes.CloseWhy.{CloseWhy}
use Rattle.zre_peer.specs.declared.causes.CloseWhy.TheVariants as close
use Rattle.zre_values.specs.declared.settings.Settings.{Settings as Config}
use Rattle.zre_journal.specs.Arrivals.{end_of_run, taken_over, start_unknown, start, at_first, answer_to, at_later, at_message, at_ready, at_said, at_place, at_places}
use Rattle.zre_journal.specs.Chronicle.{Mark, Comes, Opens, TurnsAway, Greets, Identifies, AnswersPing, Starts, Counts, Ignores, Closes, IsShut, ClosesAtStop, Born, Ends, Puts, after, ever}
use Rattle.zre_journal.specs.Connections.{open_ones, is_open, is_new, identity, started, refuses, runs, is_live, other_with, is_same, others}
use Rattle.zre_journal.specs.Events.{chronicle}
use Rattle.zre_journal.specs.Happens.{has_stopped, at_input, marks, with_entry}
use Rattle.zre_journal.specs.Heard.{clock, was_opened, bytes, piece_of, newly_completed}
use Rattle.zre_journal.specs.Isolation.{is_about, IsLinkOf, IsDoneOn, IsConnAsBefore, Isolates}
use Rattle.zre_journal.specs.Links.{line, unsent}
use Rattle.zre_journal.specs.Peers.{Life, lives, life, life_of, births, counted}
use Rattle.zre_journal.specs.Proper.{IsProper}
use Rattle.zre_journal.specs.Pushes.{push}
use Rattle.zre_journal.proofs.OtherPeersUnchanged.{identity_remains, left_alone, itself_kept, IsOf, each_place}
use Rattle.zre_journal.proofs.JoinedEntries.{after-append}
use Rattle.zre_journal.proofs.KnownPeers.{known_of, same_id, id_of, newborn_known}
use Rattle.zre_journal.proofs.NumberedLists.{eqb-comm, found_passes, some_is, any_left, none_any}
use Rattle.zre_journal.proofs.SaidOnConnections.{input_allowed}
use Rattle.zre_journal.proofs.SaidWithinLimit.{MaySay, newly_fine}
use Rattle.zre_journal.proofs.ProperPeers.{has_started, run_is}
use Rattle.zre_journal.proofs.WhenMarksCome.{Each, Allowed, both, choice}
use Rattle.zre_journal.proofs.ProperChronicles.{comes_proper}
use Rattle.zre_journal.proofs.SparedPeers.{Itself}

module _ (g : Config) (c : ℕ) (who : Option PeerId) where
  abbrev Done : List Mark → List Mark → Type 0
  Done hs X = Each (IsDoneOn c who) hs X

  module _ (J : List Mark) (q : IsProper J) where
    own_run : (d k : ℕ) → IsOf who d J → runs d J ≡ Some k → IsLinkOf who k J
    own_run d k its run =
        let s = has_started J q d k run in
        let v = some_is (life k J) (q.running.in_life d k s.0 s.1) in
        record { peer = v.0; is_known = v.1; is_its_own = its v.0.id (q.running.is_its_own d k v.0 (run_is J q d k run) s.1 v.1) }

    done_run : (d : ℕ) (why : Cause) → IsOf who d J → Done (end_of_run g (runs d J) why) J
    done_run d why its = by (runs d J) refl
      where
        by : (r : Option ℕ) → runs d J ≡ r → Done (end_of_run g r why) J
        by None e = tt
        by (Some k) e = (own_run d k its e, tt)

    -- a mark after the end of a run
    after_run : (d : ℕ) (why : Cause) (h : Mark) → IsOf who d J → IsDoneOn c who h J → ((k : ℕ) → IsDoneOn c who h (Ends k why ∷ J)) → Done (end_of_run g (runs d J) why ++ h ∷ []) J
    after_run d why h its a b = by (runs d J) refl
      where
        by : (r : Option ℕ) → runs d J ≡ r → Done (end_of_run g r why ++ h ∷ []) J
        by None e = (a, tt)
        by (Some k) e = (own_run d k its e, (b k, tt))

    done_taken : (r : PeerId) → who ≡ Some r → Done (taken_over g (other_with r c J) J) J
    done_taken r mine = by (other_with r c J) refl
      where
        by : (u : Option ℕ) → other_with r c J ≡ u → Done (taken_over g u J) J
        by None e = tt
        by (Some d) e = after_run d cause.Taken (Closes d close.Taken) its (r, mine, theirs, far) (λ k. (r, mine, theirs, far))
          where
            parts : (not (eqb c d) ≡ true) × (is_same r (identity d J) ≡ true)
            parts = and_parts (not (eqb c d)) (is_same r (identity d J)) (found_passes (λ x. not (eqb c x) && is_same r (identity x J)) (open_ones J) d e)

            named : (o : Option PeerId) → is_same r o ≡ true → o ≡ Some r
            named None z = cc
            named (Some i) z = ap (λ (x : PeerId). Some x) (same_id r i z)

            theirs : identity d J ≡ Some r
            theirs = named (identity d J) parts.1

            far : d ≢ c
            far z = true≢false (sym parts.0 ∙ ap not (eq-eqb c d (sym z)))

            its : IsOf who d J
            its i z = mine ∙ (sym theirs ∙ z)

    done_push : (k : ℕ) (b : Body) (X : List Mark) → IsLinkOf who k X → Done (push g k b X) X
    done_push k b X own = choice (λ hs. Done hs X) (ltb UNSENT_OCTETS (unsent g k X + size_of (line k X) b)) _ _ (λ z. (own, tt)) (λ z. (own, tt))

    same_link : (k : ℕ) (m : Message) → IsLinkOf who k J → IsLinkOf who k (Counts c k m ∷ J)
    same_link k m o = record { peer = o.peer; is_known = o.is_known; is_its_own = o.is_its_own }

    done_answer : (k : ℕ) (m : Message) (b : Body) → IsLinkOf who k J → Done (answer_to g k b J) (Counts c k m ∷ J)
    done_answer k m body.Ping own = choice (λ hs. Done hs (Counts c k m ∷ J)) (ltb UNSENT_OCTETS (unsent g k J + size_of (line k J) body.PingOk)) _ _ (λ z. (same_link k m own, tt)) (λ z. (same_link k m own, tt))
    done_answer k m _ own = tt

    done_later : (k : ℕ) (m : Message) → IsLinkOf who k J → Done (at_later g c k m J) J
    done_later k m own = choice (λ hs. Done hs J) (is_hello m.body) _ _ (λ z. (own, tt)) (λ z. choice (λ hs. Done hs J) (not (eqb m.sequence (due (counted k J)))) _ _ (λ y. (own, tt))
        (λ y. choice (λ hs. Done hs J) (not (is_small (view_of (counted k J ++ m ∷ [])))) _ _ (λ x. (own, tt)) (λ x. ((refl, own), done_answer k m m.body own))))

    done_first : (m : Message) → IsOf who c J → Done (at_first g c (identity c J) m J) J
    done_first m its = by (identity c J) refl
      where
        by : (u : Option PeerId) → identity c J ≡ u → Done (at_first g c u m J) J
        by None e = tt
        by (Some r) e = choice (λ hs. Done hs J) (not (is_hello m.body && eqb m.sequence 1)) _ _ (λ z. (refl, tt)) (λ z. choice (λ hs. Done hs J) (not (is_small (view_of (m ∷ [])))) _ _ (λ y. (refl, tt)) (λ y. starts (life_of r J) refl))
          where
            mine : who ≡ Some r
            mine = its r e

            born : (to : Endpoint) → IsLinkOf who (births J + 1) (Born (births J + 1) r to ∷ J)
            born to = record { peer = record { link = births J + 1; id = r; endpoint = to }; is_known = newborn_known J q r to; is_its_own = mine }

            unknown : (u : Option Endpoint) → Done (start_unknown g c r m u J) J
            unknown None = (refl, tt)
            unknown (Some to) = choice (λ hs. Done hs J) (ltb (length (lives J)) PEERS) _ _
                (λ z. let o = born to in ((refl, mine), (o, ((refl, record { peer = o.peer; is_known = o.is_known; is_its_own = o.is_its_own }), tt)))) (λ z. (refl, tt))

            starts : (u : Option Life) → life_of r J ≡ u → Done (start g c r m u J) J
            starts (Some w) z = ((refl, record { peer = w; is_known = known_of J q r w z; is_its_own = mine ∙ ap (λ (i : PeerId). Some i) (sym (id_of J r w z)) }), tt)
            starts None z = unknown (endpoint_in (view_of (m ∷ [])).endpoint)

    done_message : (m : Message) → IsOf who c J → Done (at_message g c (runs c J) m J) J
    done_message m its = by (runs c J) refl
      where
        by : (u : Option ℕ) → runs c J ≡ u → Done (at_message g c u m J) J
        by None e = done_first m its
        by (Some k) e = done_later k m (own_run c k its e)

    -- c has this identity after its READY
    done_ready : (r : PeerId) (u : Option PeerId) → identity c J ≡ u → IsOf who c (after (at_ready g c r u J) J) → Done (at_ready g c r u J) J
    done_ready r (Some i) e its = tt
    done_ready r None e its = both (IsDoneOn c who) (taken_over g (other_with r c J) J) (Identifies c r ∷ []) J (done_taken r (its r now)) ((refl, its r now), tt)
      where
        now : identity c (after (taken_over g (other_with r c J) J ++ Identifies c r ∷ []) J) ≡ Some r
        now = ap (identity c) (after-append (taken_over g (other_with r c J) J) (Identifies c r ∷ []) J) ∙ (let me : eqb c c ≡ true = eq-eqb c c refl in rw me refl)

    done_said : (one : Said) → IsOf who c J → IsOf who c (after (at_said g c one J) J) → Done (at_said g c one J) J
    done_said (Arrived arrival.Greeted) its then_ = (refl, tt)
    done_said (Arrived (arrival.Shaken r)) its then_ = done_ready r (identity c J) refl then_
    done_said (Arrived (arrival.Ping t)) its then_ = (refl, tt)
    done_said (Arrived (arrival.Message m)) its then_ = done_message m its
    done_said (Fault f) its then_ = after_run c cause.Fault (Closes c (close.Zmtp f)) its refl (λ k. refl)

    done_place : (one : Said) → IsOf who c J → IsOf who c (after (at_place g c one J) J) → Done (at_place g c one J) J
    done_place one its then_ = by (is_live c J) then_
      where
        by : (b : Bool) → IsOf who c (after (cond b (at_said g c one J) []) J) → Done (cond b (at_said g c one J) []) J
        by true t = done_said one its t
        by false t = tt

  done_places : (all : List Said) → AllByRecursion (MaySay g.id) all → (J : List Mark) → IsProper J → IsOf who c (after (at_places g c all J) J) → Done (at_places g c all J) J
  done_places all s J q its = each_place g c who (λ X. Unit {0}) Done (λ X. tt) (λ hs ks X x y. both (IsDoneOn c who) hs ks X x y) (λ hs X x z. tt) (λ X r u one. done_place X r one) all s J q tt its

  -- ---- at an entry about c

  module _ (H K : List Mark) (q : IsProper K) where
    done_input : (i : Input) → is_about c i ≡ true → IsOf who c (after (at_input g i H K) K) → Done (at_input g i H K) K
    done_input (input.Opened d) e its = let same : d ≡ c = sym (eqb-true c d e) in choice (λ hs. Done hs K) (is_new d K) _ _ (λ z. choice (λ hs. Done hs K) (ltb (length (open_ones K)) CONNECTIONS) _ _ (λ y. (same, tt)) (λ y. (same, tt))) (λ z. tt)
    done_input (input.Piece d octets) e its =
        subst (λ n. IsOf who c (after (at_places g n (newly_completed g.id n H K) K) K) → Done (at_places g n (newly_completed g.id n H K) K) K) (eqb-true c d e)
        (λ t. done_places (newly_completed g.id c H K) (newly_fine g.id c H K) K q t) its
    done_input (input.Shut d) e its = choice (λ hs. Done hs K) (is_open d K) _ _
        (λ z. let same : d ≡ c = sym (eqb-true c d e) in after_run K q d cause.Shut (IsShut d) (λ r y. its r (identity_remains c r (at_input g (input.Shut d) H K) K (input_allowed g (input.Shut d) H K q) (ap (λ n. identity n K) (sym same) ∙ y))) same (λ k. same)) (λ z. tt)
    done_input (input.Datagram from x) e its = let z : true ≡ false = sym e in cc
    done_input (input.Linked x) e its = let z : true ≡ false = sym e in cc
    done_input (input.Reply x y) e its = let z : true ≡ false = sym e in cc
    done_input (input.Unlinked x) e its = let z : true ≡ false = sym e in cc
    done_input (input.Took x y) e its = let z : true ≡ false = sym e in cc
    done_input input.Tick e its = let z : true ≡ false = sym e in cc
    done_input (input.Do x) e its = let z : true ≡ false = sym e in cc
    done_input input.End e its = let z : true ≡ false = sym e in cc

  -- ---- what such marks leave

  each_at : (front rest : List Mark) (h : Mark) (X : List Mark) → Done (front ++ h ∷ rest) X → IsDoneOn c who h (after front X)
  each_at [] rest h X a = a.0
  each_at (k ∷ front) rest h X a = each_at front rest h (k ∷ X) a.1

  clock_left : (hs X : List Mark) → Done hs X → clock (after hs X) ≡ clock X
  clock_left [] X a = refl
  clock_left (Comes e ∷ hs) X a = absurd a.0
  clock_left (h ∷ hs) X a = clock_left hs (h ∷ X) a.1

  module _ (d : ℕ) (other : d ≢ c) where
    far : eqb d c ≡ false
    far = ne_eqb d c other

    -- the identity of d isn't that of c
    abbrev Apart : List Mark → Type 0
    Apart X = (p : PeerId) → who ≡ Some p → identity d X ≢ Some p

    -- another one than e is among the others of e exactly where it is there
    among_others : (e : ℕ) (xs : List ℕ) → eqb d e ≡ false → list_any (eqb d) (others e xs) ≡ list_any (eqb d) xs
    among_others e xs n = any-filter_same (eqb d) (λ x. not (eqb e x)) true (λ k z. ap not (eqb-comm e k ∙ ap (λ x. eqb x e) (sym (eqb-true d k z)) ∙ n)) xs

    among_more : (e : ℕ) (xs : List ℕ) → eqb d e ≡ false → list_any (eqb d) (xs ++ e ∷ []) ≡ list_any (eqb d) xs
    among_more e xs n = list_any-append (eqb d) xs (e ∷ []) ∙ ap (λ b. list_any (eqb d) xs || (b || false)) n ∙ at (list_any (eqb d) xs)
      where
        at : (b : Bool) → (b || false) ≡ b
        at true = refl
        at false = refl

    not_it : (e : ℕ) → e ≡ c → eqb d e ≡ false
    not_it e z = ap (eqb d) z ∙ far

    -- all of it but the octets
    record IsSame (X Y : List Mark) : Type 0 where
      open_ : is_open d Y ≡ is_open d X
      who_ : identity d Y ≡ identity d X
      octets_ : bytes d Y ≡ bytes d X
      run_ : started d Y ≡ started d X
      refused_ : ever (refuses d) Y ≡ ever (refuses d) X

    closed : (e : ℕ) (why : CloseWhy) (X : List Mark) → eqb d e ≡ false → IsSame X (Closes e why ∷ X)
    closed e why X n = record { open_ = among_others e (open_ones X) n; who_ = refl; octets_ = refl; run_ = refl; refused_ = refl }

    same_mark : (h : Mark) (X : List Mark) → IsDoneOn c who h X → Apart X → IsSame X (h ∷ X)
    same_mark (Comes e) X a f = absurd a
    same_mark (Opens e) X a f = record { open_ = among_more e (open_ones X) (not_it e a); who_ = refl; octets_ = refl; run_ = refl; refused_ = refl }
    same_mark (Identifies e p) X a f = let n = not_it e a.0 in record { open_ = refl; who_ = rw n refl; octets_ = refl; run_ = refl; refused_ = refl }
    same_mark (Starts e l m) X a f = let n = not_it e a.0 in record { open_ = refl; who_ = refl; octets_ = refl; run_ = rw n refl; refused_ = refl }
    same_mark (Ignores e why) X a f = let n = not_it e a in record { open_ = refl; who_ = refl; octets_ = refl; run_ = refl; refused_ = rw n refl }
    same_mark (Closes e close.Taken) X a f = closed e close.Taken X (by (eqb d e) refl)
      where
        by : (b : Bool) → eqb d e ≡ b → b ≡ false
        by false z = refl
        by true z = absurd (f a.0 a.1 (ap (λ n. identity n X) (eqb-true d e z) ∙ a.2))
    same_mark (Closes e why) X a f = closed e why X (not_it e a)
    same_mark (IsShut e) X a f = record { open_ = among_others e (open_ones X) (not_it e a); who_ = refl; octets_ = refl; run_ = refl; refused_ = refl }
    same_mark (TurnsAway e) X a f = record { open_ = refl; who_ = refl; octets_ = refl; run_ = refl; refused_ = refl }
    same_mark (Greets e) X a f = record { open_ = refl; who_ = refl; octets_ = refl; run_ = refl; refused_ = refl }
    same_mark (AnswersPing e t) X a f = record { open_ = refl; who_ = refl; octets_ = refl; run_ = refl; refused_ = refl }
    same_mark (Counts e l m) X a f = record { open_ = refl; who_ = refl; octets_ = refl; run_ = refl; refused_ = refl }
    same_mark (Born l p to) X a f = record { open_ = refl; who_ = refl; octets_ = refl; run_ = refl; refused_ = refl }
    same_mark (Ends l why) X a f = record { open_ = refl; who_ = refl; octets_ = refl; run_ = refl; refused_ = refl }
    same_mark (Puts l b) X a f = record { open_ = refl; who_ = refl; octets_ = refl; run_ = refl; refused_ = refl }
    same_mark _ X a f = absurd a

    same_marks : (hs X : List Mark) → Done hs X → Apart X → IsSame X (after hs X)
    same_marks [] X a f = record { open_ = refl; who_ = refl; octets_ = refl; run_ = refl; refused_ = refl }
    same_marks (h ∷ hs) X a f =
        let s = same_mark h X a.0 f in
        let r = same_marks hs (h ∷ X) a.1 (λ p z y. f p z (sym s.who_ ∙ y)) in
        record { open_ = r.open_ ∙ s.open_; who_ = r.who_ ∙ s.who_; octets_ = r.octets_ ∙ s.octets_; run_ = r.run_ ∙ s.run_; refused_ = r.refused_ ∙ s.refused_ }

    -- ---- taking over

    left_closed : (e : ℕ) (xs : List ℕ) → list_any (eqb d) xs ≡ false → list_any (eqb d) (others e xs) ≡ false
    left_closed e xs n = by (list_any (eqb d) (others e xs)) refl
      where
        by : (b : Bool) → list_any (eqb d) (others e xs) ≡ b → b ≡ false
        by false z = refl
        by true z = absurd (true≢false (sym (any_left e d xs z) ∙ n))

    closed_mark : (h : Mark) (X : List Mark) → IsDoneOn c who h X → is_open d X ≡ false → is_open d (h ∷ X) ≡ false
    closed_mark (Opens e) X a n = among_more e (open_ones X) (not_it e a) ∙ n
    closed_mark (Closes e why) X a n = left_closed e (open_ones X) n
    closed_mark (IsShut e) X a n = left_closed e (open_ones X) n
    closed_mark (ClosesAtStop e) X a n = absurd a
    closed_mark _ X a n = n

    closed_marks : (hs X : List Mark) → Done hs X → is_open d X ≡ false → is_open d (after hs X) ≡ false
    closed_marks [] X a n = n
    closed_marks (h ∷ hs) X a n = closed_marks hs (h ∷ X) a.1 (closed_mark h X a.0 n)

    none_there : (t : ℕ → Bool) (xs : List ℕ) → list_any t xs ≡ false → t d ≡ true → list_any (eqb d) xs ≡ false
    none_there t [] n z = refl
    none_there t (x ∷ xs) n z = by (λ f. none_there t xs f z) (eqb d x) refl (t x) refl n
      where
        by : (list_any t xs ≡ false → list_any (eqb d) xs ≡ false) → (b : Bool) → eqb d x ≡ b → (s : Bool) → t x ≡ s → (s || list_any t xs) ≡ false → (b || list_any (eqb d) xs) ≡ false
        by r true q true y f = cc
        by r true q false y f = absurd (true≢false (sym z ∙ ap t (eqb-true d x q) ∙ y))
        by r false q true y f = cc
        by r false q false y f = r f

    -- as c introduces itself as p, no other open connection has that identity
    gives_way : (p : PeerId) (hs X : List Mark) → Allowed hs X → Done hs X → identity c X ≡ None → identity c (after hs X) ≡ Some p → identity d X ≡ Some p → is_open d (after hs X) ≡ false
    gives_way p [] X m a none some there = absurd (let n : None ≡ Some p = sym none ∙ some in cc)
    gives_way p (Identifies e r ∷ hs) X m a none some there =
        let me : eqb c e ≡ true = eq-eqb c e (sym a.0.0) in
        let now : identity c (Identifies e r ∷ X) ≡ Some r = rw me refl in
        let both_ : Some r ≡ Some p = sym (identity_remains c r hs (Identifies e r ∷ X) m.1 now) ∙ some in
        let same : r ≡ p = cc in
        let off : eqb e d ≡ false = ne_eqb e d (λ q. other (sym q ∙ a.0.0)) in
        let test : (not (eqb e d) && is_same r (identity d X)) ≡ true = rw (off, there) (bytes_eq-same r.0 p.0 (ap (λ (i : PeerId). i.0) same)) in
        closed_marks hs (Identifies e r ∷ X) a.1 (none_there (λ x. not (eqb e x) && is_same r (identity x X)) (open_ones X) (none_any (λ x. not (eqb e x) && is_same r (identity x X)) (open_ones X) m.0.2) test)
    gives_way p (h ∷ hs) X m a none some there = gives_way p hs (h ∷ X) m.1 a.1 none some there

-- ---- the journal

-- no octets of another connection come with such an entry
no_octets : (c d : ℕ) (e : Entry) (H : List Mark) → is_about c e.input ≡ true → d ≢ c → bytes d (Comes e ∷ H) ≡ bytes d H
no_octets c d e H about other = ap (λ o. bytes d H ++ cond (was_opened d H) o []) (none e.input about) ∙ at (was_opened d H)
  where
    none : (i : Input) → is_about c i ≡ true → piece_of d i ≡ []
    none (input.Piece n octets) z = ap (λ b. cond b octets []) (ap (eqb d) (sym (eqb-true c n z)) ∙ ne_eqb d c other)
    none _ z = refl

    at : (b : Bool) → bytes d H ++ cond b [] [] ≡ bytes d H
    at true = append-nil (bytes d H)
    at false = append-nil (bytes d H)

module _ (g : Config) (earlier : List Entry) (e : Entry) (c : ℕ) (about : is_about c e.input ≡ true) where
  abbrev H : List Mark
  H = chronicle g earlier

  abbrev M : List Mark
  M = Comes e ∷ H

  all_done : Each (IsDoneOn c (identity c (with_entry g e H))) (marks g e H) M
  all_done = by (has_stopped H)
    where
      by : (b : Bool) → Each (IsDoneOn c (identity c (after (cond b [] (at_input g e.input H M)) M))) (cond b [] (at_input g e.input H M)) M
      by true = tt
      by false = done_input g c (identity c (after (at_input g e.input H M) M)) H M (comes_proper g earlier e) e.input about (λ r z. z)

  left_conn : (d : ℕ) → d ≢ c → ((p : PeerId) → identity c (with_entry g e H) ≡ Some p → identity d H ≢ Some p) → IsConnAsBefore d H (with_entry g e H)
  left_conn d other apart =
      let s = same_marks g c (identity c (with_entry g e H)) d other (marks g e H) M all_done apart in
      record { stands = s.open_; who = s.who_; octets = s.octets_ ∙ no_octets c d e H about other; run = s.run_; refused = s.refused_ }

  gave_way : (d : ℕ) (p : PeerId) → d ≢ c → identity c H ≡ None → identity c (with_entry g e H) ≡ Some p → identity d H ≡ Some p → is_open d (with_entry g e H) ≡ false
  gave_way d p other none some there = gives_way g c (identity c (with_entry g e H)) d other p (marks g e H) M may all_done none some there
    where
      may : Allowed (marks g e H) (Comes e ∷ H)
      may = by (has_stopped H)
        where
          by : (b : Bool) → Allowed (cond b [] (at_input g e.input H (Comes e ∷ H))) (Comes e ∷ H)
          by true = tt
          by false = input_allowed g e.input H (Comes e ∷ H) (comes_proper g earlier e)

pub isolates : (g : Config) (J : List Entry) → Isolates g J
isolates g J = record {
  peers = λ earlier e later c p in_journal about far. left_alone g earlier e c about p far;
  conns = λ earlier e later c d in_journal about other apart. left_conn g earlier e c about d other apart;
  takes_over = λ earlier e later c d p in_journal about other none some there. gave_way g earlier e c about d p other none some there;
  itself = λ earlier e later c in_journal about. let k = itself_kept g earlier e c about in (ap (λ (x : Itself). x.0) k, ap (λ (x : Itself). x.1) k, ap (λ (x : Itself). x.2) k);
  does = λ earlier e later c front rest h in_journal about is.
      each_at g c (identity c (with_entry g e (chronicle g earlier))) front rest h (Comes e ∷ chronicle g earlier) (subst (λ hs. Each (IsDoneOn c (identity c (with_entry g e (chronicle g earlier)))) hs (Comes e ∷ chronicle g earlier)) is (all_done g earlier e c about));
  clock_is = λ earlier e later c in_journal about. clock_left g c (identity c (with_entry g e (chronicle g earlier))) (marks g e (chronicle g earlier)) (Comes e ∷ chronicle g earlier) (all_done g earlier e c about);
}

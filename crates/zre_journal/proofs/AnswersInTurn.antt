-- The answers on a connection are those to what its octets say, while it is live.
use Rattle.std.proofs.Common.{◌≡◌, ℕ, Bool, true, false, true≢false, cond, not, ◌&&◌, eqb, ltb, List, [], ◌∷◌, ◌++◌, length, map, Option, Some, None, refl, sym, ap, ◌∙◌, subst, eq-eqb, eqb-true, append_assoc, append-nil}
use Rattle.std.specs.Prelude.{◌⊎◌}
use Rattle.std.proofs.Common.{inl, inr}
use Rattle.std.proofs.lemmas.Bool.{and_parts}
use Rattle.std.proofs.lemmas.List.Elements.{filter_map-append}
use Rattle.std.specs.List.{AllByRecursion, filter_map, cons_option, list_any}
use Rattle.zre_values.specs.declared.limits.TheConstants.{CONNECTIONS}
use Rattle.zre_values.specs.declared.peer_id.PeerId.{PeerId}
use Rattle.zre_zmtp.specs.declared.writing.SocketType.TheVariants as socket
use Rattle.zre_zmtp.specs.Written.{own_greeting, ready_frame, pong_frame}
use Rattle.zre_mailbox.proofs.TalkGrows.{goes, nothing_said}
use Rattle.zre_mailbox.specs.declared.arrival.Arrival.TheVariants as arrival
use Rattle.zre_mailbox.specs.Talk.{Said, Arrived, Fault, talk, completed as completed_by}
use Rattle.zre_outside.specs.declared.act.Act.TheVariants as act
use Rattle.zre_outside.specs.declared.entry.Entry.{Entry}
use Rattle.zre_outside.specs.declared.entry.Input.{Input}
use Rattle.zre_outside.specs.declared.entry.Input.TheVariants as input
use Rattle.zre_peer.specs.declared.causes.Cause.{Cause}
use Rattle.zre_peer.specs.declared.causes.Cause.TheVariants as cause
use Rattle.zre_values.specs.declared.settings.Settings.{Settings as Config}
use Rattle.zre_journal.specs.Answering.{answer_on, answered_on, answer_due, AnswersInTurn}
use Rattle.zre_journal.specs.Arrivals.{at_opened, at_shut, end_of_run, at_said, at_place, at_places}
use Rattle.zre_journal.specs.Causes.{where_so}
use Rattle.zre_journal.specs.Chronicle.{Mark, Comes, Opens, TurnsAway, Greets, AnswersPing, Starts, IsShut, Ends, each, followed, after}
use Rattle.zre_journal.specs.Connections.{open_ones, is_open, is_new, runs, identity, is_ignored, is_live}
use Rattle.zre_journal.specs.Done.{close_link, done_at}
use Rattle.zre_journal.specs.Events.{chronicle, acts}
use Rattle.zre_journal.specs.Happens.{has_stopped, at_input, with_entry}
use Rattle.zre_journal.specs.Heard.{was_opened, opens, bytes, piece_of, newly_completed}
use Rattle.zre_journal.specs.LinkEntries.{at_unlinked}
use Rattle.zre_journal.specs.Peers.{Life, life}
use Rattle.zre_journal.specs.Proper.{IsProper}
use Rattle.zre_journal.proofs.ProperChronicles.{is_proper, comes_proper}
use Rattle.zre_journal.proofs.MarksOfEntries.{all_brought}
use Rattle.zre_journal.proofs.EachMarkOfEntries.{Ground, allowed}
use Rattle.zre_journal.proofs.StopsLeaveNothing.{leaves_nothing}
use Rattle.zre_journal.proofs.LiveConnectionsFaultless.{live_from}
use Rattle.zre_journal.proofs.MarkByMark.{told_and_done, are_others}
use Rattle.zre_journal.proofs.JoinedEntries.{after-append, each_entry}
use Rattle.zre_journal.proofs.NumberedLists.{All-map, All-join, any_has}
use Rattle.zre_journal.proofs.WhichMarks.{Mild, AreMild, Kind, kind, is_heard, mild_input, mild_message, mild_ready, mild_run}
use Rattle.zre_journal.proofs.RunsOnOctets.{quiet_bytes, sound_bytes, same_bytes}
use Rattle.zre_journal.proofs.HeardUnchanged.{Quiet, AreQuiet}
use Rattle.zre_journal.proofs.SaidOnConnections.{place_outcome, input_quiet, input_sound}
use Rattle.zre_journal.proofs.SaidWithinLimit.{MaySay, newly_fine}
use Rattle.zre_journal.proofs.WhenMarksCome.{choice, steps}

-- ---- what marks answer

-- on c, but for the greeting
abbrev reply_at : ℕ → Mark → Option (List ℕ)
reply_at c (Greets d) = where_so (eqb c d) (ready_frame socket.Router None)
reply_at c (AnswersPing d t) = where_so (eqb c d) (pong_frame t)
reply_at c _ = None

abbrev replied : ℕ → List Mark → List (List ℕ)
replied c H = each (reply_at c) H

-- and with it
abbrev act_at : ℕ → Mark → Option (List ℕ)
act_at c (Opens d) = where_so (eqb c d) own_greeting
act_at c (Greets d) = where_so (eqb c d) (ready_frame socket.Router None)
act_at c (AnswersPing d t) = where_so (eqb c d) (pong_frame t)
act_at c _ = None

abbrev acted : ℕ → List Mark → List (List ℕ)
acted c H = each (act_at c) H

joined : {A : Type 0} (xs : List A) (o : Option A) → xs ++ cons_option o [] ≡ followed xs o
joined xs None = append-nil xs
joined xs (Some x) = refl

of_mark : (c : ℕ) (own : PeerId) (h : Mark) → answered_on c (done_at own h) ≡ cons_option (act_at c h) []
of_mark c own (Opens d) = refl
of_mark c own (Greets d) = refl
of_mark c own (AnswersPing d t) = refl
of_mark c own (Ends l why) = by why
  where
    by : (w : Cause) → answered_on c (close_link l w) ≡ []
    by cause.Link = refl
    by _ = refl
of_mark c own _ = refl

acts_are : (g : Config) (c : ℕ) (J : List Entry) → answered_on c (acts g J) ≡ acted c (chronicle g J)
acts_are g c J = told_and_done g (λ js es done_ H. answered_on c done_ ≡ acted c H) (λ js es done_ e H z. z)
    (λ js es done_ h H n q m s z. filter_map-append (answer_on c) done_ (done_at g.id h) ∙ ap (λ xs. answered_on c done_ ++ xs) (of_mark c g.id h) ∙ joined (answered_on c done_) (act_at c h) ∙ ap (λ xs. followed xs (act_at c h)) z)
    (λ js es done_ H k o z. z) (λ js es done_ H vs z. filter_map-append (answer_on c) done_ (map (λ (v : Life). act.Offer v.link) vs) ∙ ap (λ xs. answered_on c done_ ++ xs) (none vs) ∙ append-nil (answered_on c done_) ∙ z) refl J
  where
    none : (vs : List Life) → answered_on c (map (λ (v : Life). act.Offer v.link) vs) ≡ []
    none [] = refl
    none (v ∷ vs) = none vs

-- ---- what was said on c, and what H has of it

abbrev due : List Said → List (List ℕ)
due said = filter_map answer_due said

record Replied (c : ℕ) (said : List Said) (H : List Mark) : Type 0 where
  rest : List (List ℕ)
  front : due said ≡ replied c H ++ rest
  whole : is_live c H ≡ true → due said ≡ replied c H
  begun : was_opened c H ≡ true → acted c H ≡ own_greeting ∷ replied c H
  unbegun : was_opened c H ≡ false → acted c H ≡ []

-- a mark that answers nothing on c, and doesn't open it
abbrev Mute : ℕ → Mark → Type 0
Mute c (Opens d) = eqb c d ≡ false
Mute c (Greets d) = eqb c d ≡ false
Mute c (AnswersPing d t) = eqb c d ≡ false
Mute c _ = Unit {0}

-- what such a mark leaves
record IsMuted (c : ℕ) (h : Mark) (H : List Mark) : Type 0 where
  replies : replied c (h ∷ H) ≡ replied c H
  acts_ : acted c (h ∷ H) ≡ acted c H
  opened : was_opened c (h ∷ H) ≡ was_opened c H

muted : (c : ℕ) (h : Mark) (H : List Mark) → Mute c h → IsMuted c h H
muted c (Opens d) H m = record { replies = refl; acts_ = rw m refl; opened = rw m refl }
muted c (Greets d) H m = record { replies = rw m refl; acts_ = rw m refl; opened = refl }
muted c (AnswersPing d t) H m = record { replies = rw m refl; acts_ = rw m refl; opened = refl }
muted c _ H m = record { replies = refl; acts_ = refl; opened = refl }

record AreMuted (c : ℕ) (H K : List Mark) : Type 0 where
  replies : replied c K ≡ replied c H
  acts_ : acted c K ≡ acted c H
  opened : was_opened c K ≡ was_opened c H

all_muted : (c : ℕ) (hs H : List Mark) → AllByRecursion (Mute c) hs → AreMuted c H (after hs H)
all_muted c [] H a = record { replies = refl; acts_ = refl; opened = refl }
all_muted c (h ∷ hs) H a =
    let m = muted c h H a.0 in
    let r = all_muted c hs (h ∷ H) a.1 in
    record { replies = r.replies ∙ m.replies; acts_ = r.acts_ ∙ m.acts_; opened = r.opened ∙ m.opened }

-- what was so stays so, where c isn't live anew
keep : (c : ℕ) (said : List Said) (H K : List Mark) → AreMuted c H K → (is_live c K ≡ true → due said ≡ replied c H) → Replied c said H → Replied c said K
keep c said H K m w o = record {
  rest = o.rest;
  front = o.front ∙ ap (λ xs. xs ++ o.rest) (sym m.replies);
  whole = λ v. w v ∙ sym m.replies;
  begun = λ z. m.acts_ ∙ o.begun (sym m.opened ∙ z) ∙ ap (λ xs. own_greeting ∷ xs) (sym m.replies);
  unbegun = λ z. m.acts_ ∙ o.unbegun (sym m.opened ∙ z);
}

-- one that is live after quiet marks was so before
live_before : (c : ℕ) (h : Mark) (H : List Mark) → Quiet c h → is_live c (h ∷ H) ≡ true → is_live c H ≡ true
live_before c (Comes e) H q v = absurd q
live_before c (Opens d) H q v = from (live_from (Opens d) H c refl v)
  where
    from : (eqb c d ≡ true) ⊎ (is_live c H ≡ true) → is_live c H ≡ true
    from (inl o) = absurd (true≢false (sym o ∙ q))
    from (inr w) = w
live_before c (Starts d l m) H q v = from (live_from (Starts d l m) H c (ap (λ t. cond t (Some l) None) q) v)
  where
    from : (false ≡ true) ⊎ (is_live c H ≡ true) → is_live c H ≡ true
    from (inl o) = absurd (true≢false (sym o))
    from (inr w) = w
live_before c h H q v = from (live_from h H c refl v)
  where
    from : (opens c h ≡ true) ⊎ (is_live c H ≡ true) → is_live c H ≡ true
    from (inl o) = absurd (true≢false (sym o ∙ refl))
    from (inr w) = w

was_live : (c : ℕ) (hs H : List Mark) → AreQuiet c hs → is_live c (after hs H) ≡ true → is_live c H ≡ true
was_live c [] H q v = v
was_live c (h ∷ hs) H q v = live_before c h H q.0 (was_live c hs (h ∷ H) q.1 v)

quietly : (c : ℕ) (said : List Said) (hs H : List Mark) → AreQuiet c hs → AllByRecursion (Mute c) hs → Replied c said H → Replied c said (after hs H)
quietly c said hs H q m o = keep c said H (after hs H) (all_muted c hs H m) (λ v. o.whole (was_live c hs H q v)) o

-- ---- one place more

-- the kind of an entry that answers nothing
abbrev still : Kind
still = record { ticks = false; hears = λ d. false; takes = false }

mute_of : (c : ℕ) (h : Mark) → Mild still h → Mute c h
mute_of c (Opens d) m = absurd m
mute_of c (Greets d) m = absurd (true≢false (sym m))
mute_of c (AnswersPing d t) m = absurd (true≢false (sym m))
mute_of c _ m = tt

module _ (g : Config) (c : ℕ) (said : List Said) (K : List Mark) (q : IsProper K) (o : Replied c said K) where
  abbrev more : Said → List Said
  more x = said ++ x ∷ []

  due_more : (x : Said) → due (more x) ≡ due said ++ cons_option (answer_due x) []
  due_more x = filter_map-append answer_due said (x ∷ [])

  -- where c isn't live
  unheard : (x : Said) → is_live c K ≡ false → Replied c (more x) K
  unheard x dead = record {
    rest = o.rest ++ cons_option (answer_due x) [];
    front = due_more x ∙ ap (λ xs. xs ++ cons_option (answer_due x) []) o.front ∙ append_assoc (replied c K) o.rest (cons_option (answer_due x) []);
    whole = λ v. absurd (true≢false (sym v ∙ dead));
    begun = o.begun;
    unbegun = o.unbegun;
  }

  module _ (live : is_live c K ≡ true) where
    was : was_opened c K ≡ true
    was = any_has (λ d. was_opened d K ≡ true) c (open_ones K) q.opening.were_opened (and_parts (is_open c K) (not (is_ignored c K)) live).0

    -- what is due is answered
    answers : (x : Said) (h : Mark) (a : List ℕ) → answer_due x ≡ Some a → replied c (h ∷ K) ≡ replied c K ++ a ∷ [] → acted c (h ∷ K) ≡ acted c K ++ a ∷ [] → was_opened c (h ∷ K) ≡ was_opened c K → Replied c (more x) (h ∷ K)
    answers x h a is r k w =
        let all : due (more x) ≡ replied c (h ∷ K) = due_more x ∙ ap (λ u. due said ++ cons_option u []) is ∙ ap (λ xs. xs ++ a ∷ []) (o.whole live) ∙ sym r in
        record {
          rest = [];
          front = all ∙ sym (append-nil (replied c (h ∷ K)));
          whole = λ v. all;
          begun = λ z. k ∙ ap (λ xs. xs ++ a ∷ []) (o.begun was) ∙ ap (λ xs. own_greeting ∷ xs) (sym r);
          unbegun = λ z. absurd (true≢false (sym (w ∙ was) ∙ z));
        }

    -- nothing is due, and nothing is answered
    passes : (x : Said) (hs : List Mark) → answer_due x ≡ None → AreMild still hs → Replied c (more x) (after hs K)
    passes x hs none m =
        let same : due (more x) ≡ due said = due_more x ∙ ap (λ u. due said ++ cons_option u []) none ∙ append-nil (due said) in
        let r = keep c said K (after hs K) (all_muted c hs K (All-map (Mild still) (Mute c) (mute_of c) hs m)) (λ v. o.whole live) o in
        record { rest = r.rest; front = same ∙ r.front; whole = λ v. same ∙ r.whole v; begun = r.begun; unbegun = r.unbegun }

    said_replied : (x : Said) → Replied c (more x) (after (at_said g c x K) K)
    said_replied (Arrived arrival.Greeted) = let me : eqb c c ≡ true = eq-eqb c c refl in
        answers (Arrived arrival.Greeted) (Greets c) (ready_frame socket.Router None) refl (rw me refl) (rw me refl) refl
    said_replied (Arrived (arrival.Ping t)) = let me : eqb c c ≡ true = eq-eqb c c refl in
        answers (Arrived (arrival.Ping t)) (AnswersPing c t) (pong_frame t) refl (rw me refl) (rw me refl) refl
    said_replied (Arrived (arrival.Shaken p)) = passes (Arrived (arrival.Shaken p)) (at_said g c (Arrived (arrival.Shaken p)) K) refl (mild_ready g still K c p (identity c K))
    said_replied (Arrived (arrival.Message m)) = passes (Arrived (arrival.Message m)) (at_said g c (Arrived (arrival.Message m)) K) refl (mild_message g still K c (runs c K) m)
    said_replied (Fault f) = passes (Fault f) (at_said g c (Fault f) K) refl (All-join (Mild still) (end_of_run g (runs c K) cause.Fault) _ (mild_run g still (runs c K) cause.Fault (λ l. tt)) (tt, tt))

  place_replied : (x : Said) → Replied c (more x) (after (at_place g c x K) K)
  place_replied x = by (is_live c K) refl
    where
      by : (b : Bool) → is_live c K ≡ b → Replied c (more x) (after (cond b (at_said g c x K) []) K)
      by true v = said_replied v x
      by false v = unheard x v

places_replied : (g : Config) (c : ℕ) (xs said : List Said) (K : List Mark) → AllByRecursion (MaySay g.id) xs → IsProper K → Replied c said K → Replied c (said ++ xs) (after (at_places g c xs K) K)
places_replied g c [] said K may q o = subst (λ ys. Replied c ys K) (sym (append-nil said)) o
places_replied g c (x ∷ xs) said K may q o =
    let w : Ground = record { of = λ d. true; stops = false } in
    let hs = at_place g c x K in
    let r = steps hs K q (allowed g w true hs K (all_brought (place_outcome g w c refl x may.0 K q))) in
    subst (Replied c (said ++ x ∷ xs)) (sym (after-append hs (at_places g c xs (after hs K)) K))
    (subst (λ ys. Replied c ys (after (at_places g c xs (after hs K)) (after hs K))) (append_assoc said (x ∷ []) xs)
    (places_replied g c xs (said ++ x ∷ []) (after hs K) may.1 r (place_replied g c said K q o x)))

-- ---- entry by entry

-- marks of an entry that has no octets of c
far_of : (c : ℕ) (i : Input) → is_heard c i ≡ false → (h : Mark) → Mild (kind i) h → Mute c h
far_of c i n (Opens d) m = absurd m
far_of c i n (Greets d) m = differs c i n d m
  where
    differs : (c : ℕ) (i : Input) → is_heard c i ≡ false → (d : ℕ) → is_heard d i ≡ true → eqb c d ≡ false
    differs c i n d m = by (eqb c d) refl
      where
        by : (b : Bool) → eqb c d ≡ b → b ≡ false
        by false z = refl
        by true z = sym m ∙ ap (λ e. is_heard e i) (sym (eqb-true c d z)) ∙ n
far_of c i n (AnswersPing d t) m = by (eqb c d) refl
  where
    by : (b : Bool) → eqb c d ≡ b → b ≡ false
    by false z = refl
    by true z = sym m ∙ ap (λ e. is_heard e i) (sym (eqb-true c d z)) ∙ n
far_of c i n _ m = tt

module _ (g : Config) where
  abbrev All : List Mark → Type 0
  All H = (c : ℕ) → Replied c (talk g.id (bytes c H)) H

  come : (c : ℕ) (said : List Said) (e : Entry) (H : List Mark) → Replied c said H → Replied c said (Comes e ∷ H)
  come c said e H o = record { rest = o.rest; front = o.front; whole = o.whole; begun = o.begun; unbegun = o.unbegun }

  module _ (J : List Entry) (e : Entry) (o : All (chronicle g J)) where
    abbrev H : List Mark
    H = chronicle g J

    abbrev K : List Mark
    K = Comes e ∷ H

    as_it_was : (c : ℕ) → piece_of c e.input ≡ [] → Replied c (talk g.id (bytes c K)) K
    as_it_was c n = subst (λ x. Replied c (talk g.id x) K) (sym (same_bytes c e H n)) (come c (talk g.id (bytes c H)) e H (o c))

    abbrev Goal : ℕ → List Mark → Type 0
    Goal c hs = Replied c (talk g.id (bytes c (after hs K))) (after hs K)

    by_quiet : (c : ℕ) → piece_of c e.input ≡ [] → (hs : List Mark) → AreQuiet c hs → AllByRecursion (Mute c) hs → Goal c hs
    by_quiet c n hs a m = subst (λ x. Replied c (talk g.id x) (after hs K)) (sym (quiet_bytes c hs K a)) (quietly c (talk g.id (bytes c K)) hs K a m (as_it_was c n))

    opened_here : (c : ℕ) → piece_of c e.input ≡ [] → Goal c (at_opened g c K)
    opened_here c n = by (is_new c K) refl (ltb (length (open_ones K)) CONNECTIONS)
      where
        old : Replied c (talk g.id (bytes c K)) K
        old = as_it_was c n

        begins : is_new c K ≡ true → Replied c (talk g.id (bytes c K)) (Opens c ∷ K)
        begins new =
            let u = (comes_proper g J e).opening.unheard c new in
            let me : eqb c c ≡ true = eq-eqb c c refl in
            let silent : due (talk g.id (bytes c K)) ≡ [] = ap (λ x. due (talk g.id x)) u.no_octets ∙ ap due (nothing_said g.id) in
            let none : replied c K ≡ [] = empty (replied c K) old.rest (sym silent ∙ old.front) in
            record {
              rest = old.rest;
              front = old.front;
              whole = λ v. silent ∙ sym none;
              begun = λ z. rw me (ap (λ xs. xs ++ own_greeting ∷ []) (old.unbegun u.not_opened) ∙ ap (λ xs. own_greeting ∷ xs) (sym none));
              unbegun = λ z. absurd (true≢false (sym (ap (λ b. cond b true (was_opened c K)) me) ∙ z));
            }
          where
            empty : (xs rest : List (List ℕ)) → [] ≡ xs ++ rest → xs ≡ []
            empty [] rest z = refl
            empty (x ∷ xs) rest z = absurd (let y : [] ≡ x ∷ (xs ++ rest) = z in cc)

        by : (t : Bool) → is_new c K ≡ t → (r : Bool) → Goal c (cond t (cond r (Opens c ∷ []) (TurnsAway c ∷ [])) [])
        by false f r = old
        by true f false = by_quiet c n (TurnsAway c ∷ []) (tt, tt) (tt, tt)
        by true f true = begins f

    piece : (c : ℕ) → let hs = at_places g c (newly_completed g.id c H K) K in bytes c (after hs K) ≡ bytes c K → Goal c hs
    piece c b =
        let grown = cond (was_opened c H) (piece_of c e.input) [] in
        let hs = at_places g c (newly_completed g.id c H K) K in
        let all : talk g.id (bytes c K) ≡ talk g.id (bytes c H) ++ newly_completed g.id c H K = (goes g.id (bytes c H) grown).said in
        subst (λ x. Replied c (talk g.id x) (after hs K)) (sym b) (subst (λ xs. Replied c xs (after hs K)) (sym all)
        (places_replied g c (newly_completed g.id c H K) (talk g.id (bytes c H)) K (newly_fine g.id c H K) (comes_proper g J e) (come c (talk g.id (bytes c H)) e H (o c))))

    mute_run : (c : ℕ) (r : Option ℕ) (why : Cause) (h : Mark) → Mute c h → AllByRecursion (Mute c) (end_of_run g r why ++ h ∷ [])
    mute_run c None why h m = (m, tt)
    mute_run c (Some l) why h m = (tt, (m, tt))

    mute_unlinked : (c l : ℕ) (u : Option Life) → AllByRecursion (Mute c) (at_unlinked g l u)
    mute_unlinked c l None = tt
    mute_unlinked c l (Some v) = (tt, tt)

    on_input : (i : Input) → e.input ≡ i → (c : ℕ) → Goal c (at_input g i H K)
    on_input (input.Opened d) z c = by (eqb c d) refl
      where
        n : piece_of c e.input ≡ []
        n = ap (piece_of c) z

        by : (t : Bool) → eqb c d ≡ t → Goal c (at_opened g d K)
        by false f = by_quiet c n (at_opened g d K) (input_quiet g (input.Opened d) H K (comes_proper g J e) c f) (choice (AllByRecursion (Mute c)) (is_new d K) _ _ (λ y. choice (AllByRecursion (Mute c)) (ltb (length (open_ones K)) CONNECTIONS) _ _ (λ x. (f, tt)) (λ x. (tt, tt))) (λ y. tt))
        by true f = subst (λ x. Goal c (at_opened g x K)) (eqb-true c d f) (opened_here c n)
    on_input (input.Piece d octets) z c = by (eqb c d) refl
      where
        by : (t : Bool) → eqb c d ≡ t → Goal c (at_places g d (newly_completed g.id d H K) K)
        by false f = by_quiet c (ap (piece_of c) z ∙ ap (λ t. cond t octets []) f) (at_places g d (newly_completed g.id d H K) K) (input_quiet g (input.Piece d octets) H K (comes_proper g J e) c f)
            (All-map (Mild (kind (input.Piece d octets))) (Mute c) (far_of c (input.Piece d octets) f) (at_places g d (newly_completed g.id d H K) K) (mild_input g (input.Piece d octets) H K tt))
        by true f = subst (λ x. Goal c (at_places g x (newly_completed g.id x H K) K)) (eqb-true c d f)
            (piece c (sound_bytes g c (at_places g c (newly_completed g.id c H K) K) K (input_sound g (input.Piece c octets) H K (comes_proper g J e) refl (are_others g J))))
    on_input (input.Shut d) z c = by_quiet c (ap (piece_of c) z) (at_shut g d K) (input_quiet g (input.Shut d) H K (comes_proper g J e) c refl) (choice (AllByRecursion (Mute c)) (is_open d K) _ _ (λ y. mute_run c (runs d K) cause.Shut (IsShut d) tt) (λ y. tt))
    on_input (input.Unlinked l) z c = by_quiet c (ap (piece_of c) z) (at_unlinked g l (life l K)) (input_quiet g (input.Unlinked l) H K (comes_proper g J e) c refl) (mute_unlinked c l (life l K))
    on_input i z c = by_quiet c (ap (piece_of c) z) (at_input g i H K) (input_quiet g i H K (comes_proper g J e) c refl) (All-map (Mild (kind i)) (Mute c) (far_of c i refl) (at_input g i H K) (mild_input g i H K tt))

    next : All (with_entry g e H)
    next = by (has_stopped H) refl
      where
        idle : has_stopped H ≡ true → All K
        idle s c =
            let grown = cond (was_opened c H) (piece_of c e.input) [] in
            let w = o c in
            let done_ = completed_by g.id (bytes c H) grown in
            let dead : is_live c K ≡ false = ap (λ cs. list_any (eqb c) cs && not (is_ignored c K)) (leaves_nothing g J s).none_open in
            record {
              rest = w.rest ++ due done_;
              front = ap due (goes g.id (bytes c H) grown).said ∙ filter_map-append answer_due (talk g.id (bytes c H)) done_ ∙ ap (λ xs. xs ++ due done_) w.front ∙ append_assoc (replied c H) w.rest (due done_);
              whole = λ v. absurd (true≢false (sym v ∙ dead));
              begun = w.begun;
              unbegun = w.unbegun;
            }

        by : (b : Bool) → has_stopped H ≡ b → All (after (cond b [] (at_input g e.input H K)) K)
        by true s = idle s
        by false s = λ c. on_input e.input refl c

  first : All []
  first c = record { rest = []; front = ap due (nothing_said g.id); whole = λ v. ap due (nothing_said g.id); begun = λ z. absurd (true≢false (sym z)); unbegun = λ z. refl }

pub answers_in_turn : (g : Config) (J : List Entry) → AnswersInTurn g J
answers_in_turn g J = record {
  none_before = λ c z. acts_are g c J ∙ (all c).unbegun z;
  is_front = λ c z. ((all c).rest, ap (λ xs. own_greeting ∷ xs) (all c).front ∙ ap (λ xs. xs ++ (all c).rest) (sym (acts_are g c J ∙ (all c).begun z)));
  is_all = λ c v.
      let there = any_has (λ d. was_opened d (chronicle g J) ≡ true) c (open_ones (chronicle g J)) (is_proper g J).opening.were_opened (and_parts (is_open c (chronicle g J)) (not (is_ignored c (chronicle g J))) v).0 in
      acts_are g c J ∙ (all c).begun there ∙ ap (λ xs. own_greeting ∷ xs) (sym ((all c).whole v));
}
  where
    all : (c : ℕ) → Replied c (talk g.id (bytes c (chronicle g J))) (chronicle g J)
    all = each_entry g (All g) (next g) (first g) J

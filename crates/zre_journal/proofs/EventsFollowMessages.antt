-- What is told of an entered peer is what the messages of its connection tell.
use Rattle.std.proofs.Common.{◌≡◌, ℕ, ◌+◌, Bool, true, false, cond, eqb, List, [], ◌∷◌, ◌++◌, map, Option, Some, None, refl, sym, ap, ◌∙◌, subst, arith, eqb-true, append_assoc, append-nil}
use Rattle.std.proofs.lemmas.List.Sums.{fold-append}
use Rattle.std.specs.List.{AllByRecursion, fold}
use Rattle.std.specs.Str.{bytes_eq}
use Rattle.zre_values.specs.declared.peer_id.PeerId.{PeerId}
use Rattle.zre_values.specs.declared.endpoint.Endpoint.{Endpoint}
use Rattle.zre_values.proofs.Digits.{bytes_eq-same}
use Rattle.zre_msg.specs.declared.message.Body.{Body}
use Rattle.zre_msg.specs.declared.message.Body.TheVariants as body
use Rattle.zre_msg.specs.declared.message.Message.{Message}
use Rattle.zre_outside.specs.declared.entry.Entry.{Entry}
use Rattle.zre_peer.specs.Members.{distinct, first_named}
use Rattle.zre_peer.specs.Runs.{events_of, is_hello, told_later, told}
use Rattle.zre_peer.specs.Views.{view_of}
use Rattle.zre_peer.specs.declared.causes.Cause.{Cause}
use Rattle.zre_peer.specs.declared.view.View.{View}
use Rattle.zre_peer.specs.declared.event.Event.{Event}
use Rattle.zre_peer.specs.declared.event.Event.TheVariants as event
use Rattle.zre_values.specs.declared.settings.Settings.{Settings as Config}
use Rattle.zre_journal.specs.Chronicle.{Mark, Born, Starts, Counts, Ends, IsEvasive}
use Rattle.zre_journal.specs.Peers.{Life, lives, life, births, runner, is_entered, counted, view}
use Rattle.zre_journal.specs.Told.{told_in, told_at, by_message, exit, becoming_evasive}
use Rattle.zre_journal.specs.Events.{events, chronicle}
use Rattle.zre_journal.specs.Proper.{IsProper}
use Rattle.zre_journal.specs.Spoken.{subject, run_with, run_of, FollowsMessages}
use Rattle.zre_journal.proofs.ProperChronicles.{always}
use Rattle.zre_journal.proofs.WithinCounts.{AreNamed, named_more, at_end, AtEnd, Front, Back, another, ids_apart}
use Rattle.zre_journal.proofs.ProperAfterMarks.{known_lives, run_known}
use Rattle.zre_journal.proofs.KnownPeers.{life_stays}
use Rattle.zre_journal.proofs.LawsOfChronicles.{shows_messages}
use Rattle.zre_journal.proofs.NumberedLists.{some_is, eqb-comm}
use Rattle.zre_journal.proofs.WhenMarksCome.{May, step}
use Rattle.zre_journal.proofs.EventsInTurn.{events_are, first_is_hello}

-- ---- what messages tell, with one more

told-push : (id : PeerId) (done ms : List Message) (m : Message) → told_later id done (ms ++ m ∷ []) ≡ told_later id done ms ++ events_of id (view_of (done ++ ms)) m.body
told-push id done [] m = append-nil (events_of id (view_of done) m.body) ∙ ap (λ xs. events_of id (view_of xs) m.body) (sym (append-nil done))
told-push id done (n ∷ ms) m =
    ap (λ es. events_of id (view_of done) n.body ++ es) (told-push id (done ++ n ∷ []) ms m)
    ∙ sym (append_assoc (events_of id (view_of done) n.body) (told_later id (done ++ n ∷ []) ms) (events_of id (view_of ((done ++ n ∷ []) ++ ms)) m.body))
    ∙ ap (λ xs. (events_of id (view_of done) n.body ++ told_later id (done ++ n ∷ []) ms) ++ events_of id (view_of xs) m.body) (append_assoc done (n ∷ []) ms)

-- ---- events of another peer

abbrev AreOf : PeerId → List Event → Type 0
AreOf q es = AllByRecursion (λ e. subject e ≡ Some q) es

passes_by : (p q : PeerId) (xs : List Event) (e : Event) → subject e ≡ Some q → bytes_eq p.0 q.0 ≡ false → run_with p xs e ≡ xs
passes_by p q xs (event.Enter id name endpoint headers) s far = let same : id ≡ q = cc in let off : bytes_eq p.0 id.0 ≡ false = ap (λ (i : PeerId). bytes_eq p.0 i.0) same ∙ far in rw off refl
passes_by p q xs (event.Exit id name why) s far = let same : id ≡ q = cc in let off : bytes_eq p.0 id.0 ≡ false = ap (λ (i : PeerId). bytes_eq p.0 i.0) same ∙ far in rw off refl
passes_by p q xs (event.Join id name group) s far = let same : id ≡ q = cc in let off : bytes_eq p.0 id.0 ≡ false = ap (λ (i : PeerId). bytes_eq p.0 i.0) same ∙ far in rw off refl
passes_by p q xs (event.Leave id name group) s far = let same : id ≡ q = cc in let off : bytes_eq p.0 id.0 ≡ false = ap (λ (i : PeerId). bytes_eq p.0 i.0) same ∙ far in rw off refl
passes_by p q xs (event.Whisper id name content) s far = let same : id ≡ q = cc in let off : bytes_eq p.0 id.0 ≡ false = ap (λ (i : PeerId). bytes_eq p.0 i.0) same ∙ far in rw off refl
passes_by p q xs (event.Shout id name group content) s far = let same : id ≡ q = cc in let off : bytes_eq p.0 id.0 ≡ false = ap (λ (i : PeerId). bytes_eq p.0 i.0) same ∙ far in rw off refl
passes_by p q xs (event.Evasive id name) s far = refl
passes_by p q xs event.Stop s far = cc
passes_by p q xs (event.Closed conn why) s far = cc
passes_by p q xs (event.Ignored conn why) s far = cc
passes_by p q xs (event.Refused why) s far = cc

pass_by : (p q : PeerId) (xs es : List Event) → AreOf q es → bytes_eq p.0 q.0 ≡ false → fold (run_with p) xs es ≡ xs
pass_by p q xs [] o far = refl
pass_by p q xs (e ∷ es) o far = ap (λ ys. fold (run_with p) ys es) (passes_by p q xs e o.0 far) ∙ pass_by p q xs es o.1 far

joins_of : (q : PeerId) (name : List ℕ) (gs : List (List ℕ)) → AreOf q (map (λ g. event.Join q name g) gs)
joins_of q name [] = tt
joins_of q name (g ∷ gs) = (refl, joins_of q name gs)

all_of : (q : PeerId) (v : View) (b : Body) → AreOf q (events_of q v b)
all_of q v (body.Hello endpoint groups status name headers) = (refl, joins_of q name (distinct groups))
all_of q v (body.Whisper content) = (refl, tt)
all_of q v (body.Shout group content) = (refl, tt)
all_of q v (body.Join group status) = (refl, tt)
all_of q v (body.Leave group status) = (refl, tt)
all_of q v body.Ping = tt
all_of q v body.PingOk = tt
all_of q v (body.Other number rest more) = tt

-- ---- events of p itself

me : (p : PeerId) → bytes_eq p.0 p.0 ≡ true
me p = bytes_eq-same p.0 p.0 refl

add_joins : (p : PeerId) (name : List ℕ) (gs : List (List ℕ)) (xs : List Event) → fold (run_with p) xs (map (λ g. event.Join p name g) gs) ≡ xs ++ map (λ g. event.Join p name g) gs
add_joins p name [] xs = sym (append-nil xs)
add_joins p name (g ∷ gs) xs =
    ap (λ t. fold (run_with p) (cond t (xs ++ event.Join p name g ∷ []) xs) (map (λ h. event.Join p name h) gs)) (me p)
    ∙ (add_joins p name gs (xs ++ event.Join p name g ∷ []) ∙ append_assoc xs (event.Join p name g ∷ []) (map (λ h. event.Join p name h) gs))

begins : (p : PeerId) (v : View) (b : Body) (xs : List Event) → is_hello b ≡ true → fold (run_with p) xs (events_of p v b) ≡ events_of p v b
begins p v (body.Hello endpoint groups status name headers) xs h =
    ap (λ t. fold (run_with p) (cond t (event.Enter p name endpoint (first_named headers) ∷ []) xs) (map (λ group. event.Join p name group) (distinct groups))) (me p)
    ∙ add_joins p name (distinct groups) (event.Enter p name endpoint (first_named headers) ∷ [])
begins p v (body.Whisper content) xs h = cc
begins p v (body.Shout group content) xs h = cc
begins p v (body.Join group status) xs h = cc
begins p v (body.Leave group status) xs h = cc
begins p v body.Ping xs h = cc
begins p v body.PingOk xs h = cc
begins p v (body.Other number rest more) xs h = cc

goes_on : (p : PeerId) (v : View) (b : Body) (xs : List Event) → is_hello b ≡ false → fold (run_with p) xs (events_of p v b) ≡ xs ++ events_of p v b
goes_on p v (body.Hello endpoint groups status name headers) xs h = cc
goes_on p v (body.Whisper content) xs h = let yes = me p in rw yes refl
goes_on p v (body.Shout group content) xs h = let yes = me p in rw yes refl
goes_on p v (body.Join group status) xs h = let yes = me p in rw yes refl
goes_on p v (body.Leave group status) xs h = let yes = me p in rw yes refl
goes_on p v body.Ping xs h = sym (append-nil xs)
goes_on p v body.PingOk xs h = sym (append-nil xs)
goes_on p v (body.Other number rest more) xs h = sym (append-nil xs)

-- ---- mark by mark

-- xs is the run of each entered peer so far
abbrev pub IsPassed : (PeerId → List Event) → List Mark → Type 0
IsPassed xs H = (c l : ℕ) (v : Life) → life l H ≡ Some v → runner l H ≡ Some c → xs v.id ≡ told v.id (counted l H)

module _ (xs : PeerId → List Event) (H : List Mark) (q : IsProper H) (n : AreNamed H) (o : IsPassed xs H) where
  start_passes : (c l : ℕ) (m : Message) → May (Starts c l m) H → IsPassed (λ p. fold (run_with p) (xs p) (told_at (Starts c l m) H)) (Starts c l m ∷ H)
  start_passes c l m y d k v e r = subst (λ p. fold (run_with v.id) (xs v.id) (by_message p m H) ≡ told v.id (counted k (Starts c l m ∷ H))) (sym y.known) (by (eqb k l) refl)
    where
      silent : counted l H ≡ []
      silent = q.running.is_silent l y.free

      by : (b : Bool) → eqb k l ≡ b → fold (run_with v.id) (xs v.id) (events_of y.who.id (view y.who.link H) m.body) ≡ told v.id (counted k (Starts c l m ∷ H))
      by true s =
          let here : k ≡ l = eqb-true k l s in
          let z : Some v ≡ Some y.who = sym e ∙ ap (λ x. life x H) here ∙ y.known in
          let same : v ≡ y.who = cc in
          let empty : counted k H ≡ [] = ap (λ x. counted x H) here ∙ silent in
          let bare : view y.who.link H ≡ view_of [] = ap (λ x. view_of (counted x H)) (sym (known_lives H q l y.who y.known).2) ∙ ap view_of silent in
          ap (λ (w : Life). fold (run_with v.id) (xs v.id) (events_of w.id (view y.who.link H) m.body)) (sym same)
          ∙ ap (λ w. fold (run_with v.id) (xs v.id) (events_of v.id w m.body)) bare
          ∙ begins v.id (view_of []) m.body (xs v.id) (first_is_hello m y.first)
          ∙ rw (s, empty) (sym (append-nil (events_of v.id (view_of []) m.body)))
      by false s =
          let older : runner k H ≡ Some d = rw s at r in
          pass_by v.id y.who.id (xs v.id) (events_of y.who.id (view y.who.link H) m.body) (all_of y.who.id (view y.who.link H) m.body) (ids_apart H q n k l v y.who e y.known s)
          ∙ o d k v e older ∙ rw s refl

  count_passes : (c l : ℕ) (m : Message) → May (Counts c l m) H → IsPassed (λ p. fold (run_with p) (xs p) (told_at (Counts c l m) H)) (Counts c l m ∷ H)
  count_passes c l m y d k v e r =
      let w = some_is (life l H) (run_known H q c l y.running) in
      subst (λ p. fold (run_with v.id) (xs v.id) (by_message p m H) ≡ told v.id (counted k (Counts c l m ∷ H))) (sym w.1) (by w.0 w.1 (eqb k l) refl)
    where
      by : (w : Life) → life l H ≡ Some w → (b : Bool) → eqb k l ≡ b → fold (run_with v.id) (xs v.id) (events_of w.id (view w.link H) m.body) ≡ told v.id (counted k (Counts c l m ∷ H))
      by w f true s =
          let here : k ≡ l = eqb-true k l s in
          let z : Some v ≡ Some w = sym e ∙ ap (λ x. life x H) here ∙ f in
          let same : v ≡ w = cc in
          let link : w.link ≡ k = ap (λ (x : Life). x.link) (sym same) ∙ sym (known_lives H q k v e).2 in
          ap (λ (u : Life). fold (run_with v.id) (xs v.id) (events_of u.id (view w.link H) m.body)) (sym same)
          ∙ ap (λ x. fold (run_with v.id) (xs v.id) (events_of v.id (view x H) m.body)) link
          ∙ goes_on v.id (view k H) m.body (xs v.id) y.later
          ∙ ap (λ es. es ++ events_of v.id (view k H) m.body) (o d k v e r)
          ∙ sym (told-push v.id [] (counted k H) m)
          ∙ rw s refl
      by w f false s =
          pass_by v.id w.id (xs v.id) (events_of w.id (view w.link H) m.body) (all_of w.id (view w.link H) m.body) (ids_apart H q n k l v w e f s)
          ∙ o d k v e r ∙ rw s refl

  end_passes : (l : ℕ) (why : Cause) → May (Ends l why) H → IsPassed (λ p. fold (run_with p) (xs p) (told_at (Ends l why) H)) (Ends l why ∷ H)
  end_passes l why y d k v e r =
      let w = some_is (life l H) y in
      let far = another H l k why v (step (Ends l why) H q y) e in
      let old : life k H ≡ Some v = sym (life_stays H l k why far) ∙ e in
      subst (λ p. fold (run_with v.id) (xs v.id) (exit p why H) ≡ told v.id (counted k H)) (sym w.1)
      (by w.0 (ids_apart H q n k l v w.0 old w.1 (eqb-comm k l ∙ far)) (is_entered H w.0) ∙ o d k v old r)
    where
      by : (w : Life) → bytes_eq v.id.0 w.id.0 ≡ false → (b : Bool) → fold (run_with v.id) (xs v.id) (cond b (event.Exit w.id (view w.link H).name why ∷ []) []) ≡ xs v.id
      by w far true = pass_by v.id w.id (xs v.id) (event.Exit w.id (view w.link H).name why ∷ []) (refl, tt) far
      by w far false = refl

  probe_passes : (l : ℕ) → May (IsEvasive l) H → IsPassed (λ p. fold (run_with p) (xs p) (told_at (IsEvasive l) H)) (IsEvasive l ∷ H)
  probe_passes l y d k v e r = by (life l H) ∙ o d k v e r
    where
      by : (p : Option Life) → fold (run_with v.id) (xs v.id) (becoming_evasive p H) ≡ xs v.id
      by None = refl
      by (Some w) = refl

  birth_passes : (l : ℕ) (i : PeerId) (a : Endpoint) → May (Born l i a) H → IsPassed xs (Born l i a ∷ H)
  birth_passes l i a y d k v e r = by (at_end (λ (u : Life). eqb k u.link) (lives H) (record { link = l; id = i; endpoint = a }) v e)
    where
      by : AtEnd (λ (u : Life). eqb k u.link) (lives H) (record { link = l; id = i; endpoint = a }) v → xs v.id ≡ told v.id (counted k H)
      by (Front f) = o d k v f r
      by (Back f same s) =
          let unrun : runner (births H + 1) H ≡ None = (q.living.fresh (births H + 1) (omega arith)).no_run in
          let here : k ≡ births H + 1 = eqb-true k l s ∙ y.next_link in
          let z : Some d ≡ None = sym r ∙ ap (λ x. runner x H) here ∙ unrun in
          cc

passes : (h : Mark) (xs : PeerId → List Event) (H : List Mark) → IsProper H → May h H → AreNamed H → IsPassed xs H → IsPassed (λ p. fold (run_with p) (xs p) (told_at h H)) (h ∷ H)
passes (Starts c l m) xs H q y n o = start_passes xs H q n o c l m y
passes (Counts c l m) xs H q y n o = count_passes xs H q n o c l m y
passes (Ends l why) xs H q y n o = end_passes xs H q n o l why y
passes (IsEvasive l) xs H q y n o = probe_passes xs H q n o l y
passes (Born l i a) xs H q y n o = birth_passes xs H q n o l i a y
passes _ xs H q y n o = o

-- ---- all of them

pub record ArePassed (H : List Mark) : Type 0 where
  pub are_named : AreNamed H
  pub passed : IsPassed (λ p. run_of p (told_in H)) H

pub passed_more : (h : Mark) (H : List Mark) → IsProper H → May h H → ArePassed H → ArePassed (h ∷ H)
passed_more h H q m o = record {
  are_named = named_more h H q m (step h H q m) o.are_named;
  passed = λ c l v e r. fold-append (run_with v.id) [] (told_in H) (told_at h H) ∙ passes h (λ p. run_of p (told_in H)) H q m o.are_named o.passed c l v e r;
}

pub none_passed : ArePassed []
none_passed = record { are_named = λ l v e. cc; passed = λ c l v e r. cc }

pub follows_messages : (g : Config) (journal : List Entry) → FollowsMessages (events g journal) (chronicle g journal)
follows_messages g journal c l v e r =
    let all = always g ArePassed passed_more none_passed journal in
    ap (run_of v.id) (sym (events_are g journal)) ∙ all.passed c l v e r
    ∙ ap (told v.id) ((shows_messages g journal).are_its_own c l (rw e refl) r)

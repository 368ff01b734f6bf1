-- What went out on a link begins its text.
use Rattle.std.proofs.Common.{◌≡◌, ℕ, suc, ◌+◌, ◌-◌, ◌≤◌, min, Bool, true, false, true≢false, cond, ◌&&◌, eqb, ltb, List, [], ◌∷◌, ◌++◌, length, take, drop, Option, Some, None, is_some, find, refl, sym, ap, ◌∙◌, subst, arith, eq-eqb, eqb-true, append_assoc, append-nil}
use Rattle.std.proofs.lemmas.List.{length-append, length-take, take-append-drop}
use Rattle.std.proofs.Math.Seq.{drop-append_seam}
use Rattle.std.specs.Int.{w64, to_be_bytes}
use Rattle.std.specs.List.{AllByRecursion, flat_map}
use Rattle.zre_values.specs.declared.limits.TheConstants.{CONNECTIONS}
use Rattle.zre_values.specs.declared.peer_id.PeerId.{PeerId}
use Rattle.zre_zmtp.specs.declared.expected.Expected.{Expected}
use Rattle.zre_zmtp.specs.declared.expected.Expected.TheVariants as expect
use Rattle.zre_zmtp.specs.declared.writing.SocketType.TheVariants as socket
use Rattle.zre_zmtp.specs.Laws.{handshake}
use Rattle.zre_zmtp.specs.Written.{own_greeting, ready_body, ready_frame, pong_frame}
use Rattle.zre_link.specs.Heard.{awaited}
use Rattle.zre_link.specs.Link.{gate_at, gate_of}
use Rattle.zre_link.specs.Text.{Says, Pongs, Member, next_message, octets_from, text_of}
use Rattle.zre_link.proofs.AppendedMembers.{text_more, text_pongs}
use Rattle.zre_msg.specs.Spelling.{octets}
use Rattle.zre_outside.specs.declared.entry.Entry.{Entry}
use Rattle.zre_outside.specs.declared.entry.Input.{Input}
use Rattle.zre_outside.specs.declared.entry.Input.TheVariants as input
use Rattle.zre_peer.specs.declared.causes.Cause.{Cause}
use Rattle.zre_peer.specs.declared.causes.Cause.TheVariants as cause
use Rattle.zre_values.specs.declared.settings.Settings.{Settings as Config}
use Rattle.zre_journal.specs.Arrivals.{at_opened, at_shut, end_of_run}
use Rattle.zre_journal.specs.Chronicle.{Mark, Comes, IsShut, Puts, PutsPong, Sends, followed, after}
use Rattle.zre_journal.specs.Config.{CanBe}
use Rattle.zre_journal.specs.Connections.{open_ones, is_open, is_new, runs}
use Rattle.zre_journal.specs.Events.{chronicle}
use Rattle.zre_journal.specs.Happens.{has_stopped, at_input, with_entry, chronicle_after}
use Rattle.zre_journal.specs.LinkEntries.{at_unlinked, at_took}
use Rattle.zre_journal.specs.Links.{line, taken, gate, front, is_linked, replies}
use Rattle.zre_journal.specs.Outgoing.{text, gone_with, gone_after, gone, GoesOutInOrder}
use Rattle.zre_journal.specs.Peers.{Life, lives, life}
use Rattle.zre_journal.proofs.StopsLeaveNothing.{leaves_nothing}
use Rattle.zre_journal.proofs.JoinedEntries.{continues}
use Rattle.zre_journal.proofs.NumberedLists.{All-map}
use Rattle.zre_journal.proofs.WhichMarks.{Mild, Kind, kind, mild_input}
use Rattle.zre_journal.proofs.WhenMarksCome.{choice}

-- ---- a new link has the greeting and READY

ready_len : (own : PeerId) → length (ready_body socket.Dealer (Some own)) ≡ length own.0 + 42
ready_len own = omega arith

frame_len : (own : PeerId) → length own.0 ≡ 16 → length (ready_frame socket.Dealer (Some own)) ≡ 60
frame_len own sixteen =
    let b = ready_body socket.Dealer (Some own) in
    let n : length b ≡ 58 = ready_len own ∙ ap (λ k. k + 42) sixteen in
    ap (λ t. length (cond t (4 ∷ length b ∷ b) (6 ∷ (to_be_bytes w64 (length b) ++ b)))) (ap (λ k. ltb k 256) n) ∙ ap (λ k. suc (suc k)) n

text_long : (own : PeerId) (ms : List Member) → length own.0 ≡ 16 → 124 ≤ length (text_of own ms)
text_long own ms sixteen = omega (arith, frame_len own sixteen, length-append own_greeting (ready_frame socket.Dealer (Some own)), length-append (handshake socket.Dealer (Some own)) (octets_from 1 ms))

gate_low : (own : PeerId) (ms : List Member) (linked : Bool) (o : List ℕ) → length own.0 ≡ 16 → gate_of own ms linked o ≤ length (text_of own ms)
gate_low own ms linked o sixteen = by linked (awaited o)
  where
    long : 124 ≤ length (text_of own ms)
    long = text_long own ms sixteen

    by : (b : Bool) (e : Expected) → gate_at b e (length (text_of own ms)) ≤ length (text_of own ms)
    by false e = omega arith
    by true expect.Greeting = omega (arith, long)
    by true expect.Ready = omega (arith, long)
    by true expect.Traffic = omega arith

-- ---- mark by mark

module _ (g : Config) (l : ℕ) where
  -- each mark puts something at the end, or nothing
  grows : (h : Mark) (H : List Mark) → (more : List ℕ) × (text g l (h ∷ H) ≡ text g l H ++ more)
  grows (Puts k b) H = by (eqb l k)
    where
      by : (t : Bool) → (more : List ℕ) × (text_of g.id (followed (line l H) (cond t (Some (Says b)) None)) ≡ text g l H ++ more)
      by true = (octets (next_message (line l H) b), text_more g.id (line l H) b)
      by false = ([], sym (append-nil (text g l H)))
  grows (PutsPong k c) H = by (eqb l k)
    where
      by : (t : Bool) → (more : List ℕ) × (text_of g.id (followed (line l H) (cond t (Some (Pongs c)) None)) ≡ text g l H ++ more)
      by true = (flat_map pong_frame (c ∷ []), text_pongs g.id (line l H) (c ∷ []))
      by false = ([], sym (append-nil (text g l H)))
  grows _ H = ([], sym (append-nil (text g l H)))

  -- what has gone out, and H
  record Out (out : List ℕ) (H : List Mark) : Type 0 where
    rest : List ℕ
    is : text g l H ≡ out ++ rest
    count : length out ≡ taken l H

  abbrev Keeps : Mark → Type 0
  Keeps (Sends k n) = ⊥
  Keeps _ = Unit {0}

  kept : (h : Mark) (H : List Mark) → Keeps h → taken l (h ∷ H) ≡ taken l H
  kept (Sends k n) H s = absurd s
  kept _ H s = refl

  out_mark : (out : List ℕ) (h : Mark) (H : List Mark) → Keeps h → Out out H → Out out (h ∷ H)
  out_mark out h H s o =
      let m = grows h H in
      record { rest = o.rest ++ m.0; is = m.1 ∙ ap (λ xs. xs ++ m.0) o.is ∙ append_assoc out o.rest m.0; count = o.count ∙ sym (kept h H s) }

  out_marks : (out : List ℕ) (hs H : List Mark) → AllByRecursion Keeps hs → Out out H → Out out (after hs H)
  out_marks out [] H s o = o
  out_marks out (h ∷ hs) H s o = out_marks out hs (h ∷ H) s.1 (out_mark out h H s.0 o)

  -- some of what may go out goes
  sends : (sixteen : length g.id.0 ≡ 16) (out : List ℕ) (n : ℕ) (K : List Mark) → Out out K → Out (out ++ take n (front g l K)) (Sends l (min n (gate g l K - taken l K)) ∷ K)
  sends sixteen out n K o = record {
    rest = drop (length part) o.rest;
    is = o.is ∙ ap (λ xs. out ++ xs) (sym whole) ∙ sym (append_assoc out part (drop (length part) o.rest));
    count = length-append out part ∙ ap (λ k. k + length part) o.count ∙ ap (λ k. taken l K + k) len ∙ (let me : eqb l l ≡ true = eq-eqb l l refl in rw me refl);
  }
    where
      room : ℕ
      room = gate g l K - taken l K

      part : List ℕ
      part = take n (front g l K)

      left : drop (taken l K) (text g l K) ≡ o.rest
      left = ap (λ k. drop k (text g l K)) (sym o.count) ∙ ap (drop (length out)) o.is ∙ drop-append_seam out o.rest

      is_part : part ≡ take n (take room o.rest)
      is_part = ap (λ xs. take n (take room xs)) left

      fits : room ≤ length o.rest
      fits = omega (arith, gate_low g.id (line l K) (is_linked l K) (replies l K) sixteen, ap (length {A = ℕ}) o.is, length-append out o.rest, o.count)

      len : length part ≡ min n room
      len = ap (length {A = ℕ}) is_part ∙ length-take n (take room o.rest) ∙ ap (min n) (length-take room o.rest ∙ (let f = fits in omega (arith, f)))

      taken_front : (a b : ℕ) (xs : List ℕ) → (more : List ℕ) × (xs ≡ take a (take b xs) ++ more)
      taken_front a b xs = (drop a (take b xs) ++ drop b xs, sym (sym (append_assoc (take a (take b xs)) (drop a (take b xs)) (drop b xs)) ∙ ap (λ ys. ys ++ drop b xs) (take-append-drop a (take b xs)) ∙ take-append-drop b xs))

      whole : part ++ drop (length part) o.rest ≡ o.rest
      whole = let t = taken_front n room o.rest in
          let here : o.rest ≡ part ++ t.0 = t.1 ∙ ap (λ xs. xs ++ t.0) (sym is_part) in
          ap (λ xs. part ++ xs) (ap (drop (length part)) here ∙ drop-append_seam part t.0) ∙ sym here

-- ---- entry by entry

keeps_mild : (g : Config) (l : ℕ) (t : Kind) → t.takes ≡ false → (h : Mark) → Mild t h → Keeps g l h
keeps_mild g l t n (Sends k m) s = true≢false (sym s ∙ n)
keeps_mild g l t n _ s = tt

module _ (g : Config) (sixteen : length g.id.0 ≡ 16) (l : ℕ) where
  keeps_run : (o : Option ℕ) (why : Cause) (h : Mark) → Keeps g l h → AllByRecursion (Keeps g l) (end_of_run g o why ++ h ∷ [])
  keeps_run None why h s = (s, tt)
  keeps_run (Some k) why h s = (tt, (s, tt))

  keeps_unlinked : (k : ℕ) (o : Option Life) → AllByRecursion (Keeps g l) (at_unlinked g k o)
  keeps_unlinked k None = tt
  keeps_unlinked k (Some v) = (tt, tt)

  module _ (H : List Mark) (e : Entry) (out : List ℕ) (o : Out g l out H) where
    abbrev K : List Mark
    K = Comes e ∷ H

    come : Out g l out K
    come = record { rest = o.rest; is = o.is; count = o.count }

    same_out : (hs : List Mark) → AllByRecursion (Keeps g l) hs → Out g l (out ++ []) (after hs K)
    same_out hs s = subst (λ xs. Out g l xs (after hs K)) (sym (append-nil out)) (out_marks g l out hs K s come)

    took : (k n : ℕ) → Out g l (out ++ gone_with g l (input.Took k n) K) (after (at_took g k n (life k K) K) K)
    took k n = by (eqb l k) refl
      where
        far : (v : Option Life) → eqb l k ≡ false → Out g l (out ++ []) (after (at_took g k n v K) K)
        far None z = same_out [] tt
        far (Some v) z = subst (λ xs. Out g l xs (Sends k (min n (gate g k K - taken k K)) ∷ K)) (sym (append-nil out)) (record { rest = o.rest; is = o.is; count = o.count ∙ (rw z refl) })

        near : (v : Option Life) → Out g l (out ++ cond (is_some v) (take n (front g l K)) []) (after (at_took g l n v K) K)
        near None = same_out [] tt
        near (Some v) = sends g l sixteen out n K come

        by : (t : Bool) → eqb l k ≡ t → Out g l (out ++ cond (t && is_some (life l K)) (take n (front g l K)) []) (after (at_took g k n (life k K) K) K)
        by true z = subst (λ j. Out g l (out ++ cond (is_some (life l K)) (take n (front g l K)) []) (after (at_took g j n (life j K) K) K)) (eqb-true l k z) (near (life l K))
        by false z = far (life k K) z

    on_input : (i : Input) → Out g l (out ++ gone_with g l i K) (after (at_input g i H K) K)
    on_input (input.Took k n) = took k n
    on_input (input.Opened c) = same_out (at_opened g c K) (choice (AllByRecursion (Keeps g l)) (is_new c K) _ _ (λ y. choice (AllByRecursion (Keeps g l)) (ltb (length (open_ones K)) CONNECTIONS) _ _ (λ x. (tt, tt)) (λ x. (tt, tt))) (λ y. tt))
    on_input (input.Shut c) = same_out (at_shut g c K) (choice (AllByRecursion (Keeps g l)) (is_open c K) _ _ (λ y. keeps_run (runs c K) cause.Shut (IsShut c) tt) (λ y. tt))
    on_input (input.Unlinked k) = same_out (at_unlinked g k (life k K)) (keeps_unlinked k (life k K))
    on_input i = same_out (at_input g i H K) (All-map (Mild (kind i)) (Keeps g l) (keeps_mild g l (kind i) refl) (at_input g i H K) (mild_input g i H K tt))

    next : (has_stopped H ≡ true → lives H ≡ []) → Out g l (out ++ gone_with g l e.input K) (with_entry g e H)
    next clean = by (has_stopped H) refl
      where
        none : lives H ≡ [] → (i : Input) → gone_with g l i K ≡ []
        none z (input.Took k n) = ap (λ (vs : List Life). cond (eqb l k && is_some (find (λ (v : Life). eqb l v.link) vs)) (take n (front g l K)) []) z ∙ at (eqb l k)
          where
            at : (b : Bool) → cond (b && false) (take n (front g l K)) [] ≡ []
            at true = refl
            at false = refl
        none z _ = refl

        by : (b : Bool) → has_stopped H ≡ b → Out g l (out ++ gone_with g l e.input K) (after (cond b [] (at_input g e.input H K)) K)
        by true s = subst (λ xs. Out g l (out ++ xs) K) (sym (none (clean s) e.input)) (same_out [] tt)
        by false s = on_input e.input

  later : (es J : List Entry) (H : List Mark) (out : List ℕ) → chronicle g J ≡ H → Out g l out H → Out g l (out ++ gone_after g l es H) (chronicle_after g es H)
  later [] J H out z o = subst (λ xs. Out g l xs H) (sym (append-nil out)) o
  later (e ∷ es) J H out z o =
      let now = gone_with g l e.input (Comes e ∷ H) in
      subst (λ xs. Out g l xs (chronicle_after g es (with_entry g e H))) (append_assoc out now (gone_after g l es (with_entry g e H)))
      (later es (J ++ e ∷ []) (with_entry g e H) (out ++ now) ((continues g J (e ∷ [])).happened ∙ ap (with_entry g e) z)
      (next H e out o (λ s. ap lives (sym z) ∙ (leaves_nothing g J (ap has_stopped z ∙ s)).none_known)))

  all : (J : List Entry) → Out g l (gone g l J) (chronicle g J)
  all J = later J [] [] [] refl (record { rest = text g l []; is = refl; count = refl })

  -- and later entries only add
  more : (J K : List Entry) → (rest : List ℕ) × (text g l (chronicle g (J ++ K)) ≡ gone g l J ++ rest)
  more J K =
      let o = later K J (chronicle g J) (gone g l J) refl (all J) in
      let is : text g l (chronicle g (J ++ K)) ≡ (gone g l J ++ gone_after g l K (chronicle g J)) ++ o.rest = ap (text g l) (continues g J K).happened ∙ o.is in
      (gone_after g l K (chronicle g J) ++ o.rest, is ∙ append_assoc (gone g l J) (gone_after g l K (chronicle g J)) o.rest)

pub goes_out_in_order : (g : Config) (J K : List Entry) → CanBe g → GoesOutInOrder g J K
goes_out_in_order g J K can = record { is_front = λ l. more g can.sixteen l J K; is_counted = λ l. (all g can.sixteen l J).count }

-- After each entry no live connection has had a fault, and neither have the replies on the link of a known peer.
use Rattle.std.proofs.Common.{◌≡◌, ℕ, ◌+◌, Bool, true, false, cond, not, ◌&&◌, ◌||◌, eqb, List, [], ◌∷◌, ◌++◌, length, drop, map, Option, Some, None, IsSome, is_some, is_none, find, refl, sym, ap, ◌∙◌, arith, inl, inr, eqb-true, subst}
use Rattle.std.specs.Option.{option_or}
use Rattle.std.specs.Prelude.{◌⊎◌}
use Rattle.std.proofs.lemmas.Bool.{and_parts, and_from, not-true}
use Rattle.std.specs.List.{list_any}
use Rattle.zre_values.specs.declared.peer_id.PeerId.{PeerId}
use Rattle.zre_zmtp.specs.declared.fault.ZmtpFault.{ZmtpFault}
use Rattle.zre_zmtp.specs.Stream.{cut, greeting_fault}
use Rattle.zre_mailbox.specs.Talk.{Said, Arrived, Fault, talk, completed, new_arrivals, fault_in, fault_said}
use Rattle.zre_mailbox.proofs.TalkGrows.{goes}
use Rattle.zre_outside.specs.declared.entry.Input.{Input}
use Rattle.zre_outside.specs.declared.entry.Input.TheVariants as input
use Rattle.zre_peer.specs.declared.causes.Cause.TheVariants as cause
use Rattle.zre_peer.specs.declared.causes.CloseWhy.TheVariants as close
use Rattle.zre_link.specs.Heard.{reply_fault}
use Rattle.zre_link.specs.Link.{answered, slow_at}
use Rattle.zre_values.specs.declared.settings.Settings.{Settings as Config}
use Rattle.zre_journal.specs.Chronicle.{Mark, Comes, Opens, Starts, Closes, IsShut, ClosesAtStop, Born, Ends, PutsPong, Stops, after, ever}
use Rattle.zre_journal.specs.Heard.{opens, bytes, newly_completed}
use Rattle.zre_journal.specs.Connections.{open_ones, is_open, started, start_at, runs, refuses, was_used, is_ignored, is_live, others}
use Rattle.zre_journal.specs.Peers.{Life, lives, life, births, other_lives}
use Rattle.zre_journal.specs.Links.{is_linked, replies, newly_pinged, unsent}
use Rattle.zre_journal.specs.Proper.{IsProper}
use Rattle.zre_journal.specs.Happens.{has_stopped, at_input}
use Rattle.zre_journal.specs.Arrivals.{end_of_run, at_place, at_places}
use Rattle.zre_journal.specs.LinkEntries.{cause_by_reply, end_by, answers, at_reply}
use Rattle.zre_journal.proofs.WithinCounts.{none_kept, at_end, AtEnd, Front, Back}
use Rattle.zre_journal.proofs.IdleConnections.{idle_stays}
use Rattle.zre_journal.proofs.JoinedEntries.{after-append, in_turn-append}
use Rattle.zre_journal.proofs.NumberedLists.{some_is, any_of_append, any_left}
use Rattle.zre_journal.proofs.WhenMarksCome.{May, Allowed, step}
use Rattle.zre_journal.proofs.WithinLimits.{Fits, AllFit}

-- ---- connections that are live were so before

none_is : (o : Option ℕ) → is_none o ≡ true → o ≡ None
none_is None e = refl
none_is (Some l) e = cc

used_stays : (h : Mark) (H : List Mark) (c : ℕ) → start_at c h ≡ None → was_used c H ≡ true → was_used c (h ∷ H) ≡ true
used_stays h H c s u = ap (λ o. cond (refuses c h) true (ever (refuses c) H) || is_some (option_or o (started c H))) s ∙ by (refuses c h)
  where
    by : (b : Bool) → (cond b true (ever (refuses c) H) || is_some (started c H)) ≡ true
    by true = refl
    by false = u

ignored_stays : (h : Mark) (H : List Mark) (c : ℕ) → start_at c h ≡ None → is_ignored c H ≡ true → is_ignored c (h ∷ H) ≡ true
ignored_stays h H c s i =
    let p = and_parts (is_none (runs c H)) (was_used c H) i in
    let idle : runs c (h ∷ H) ≡ None = idle_stays h H c s (none_is (runs c H) p.0) in
    and_from (is_none (runs c (h ∷ H))) (was_used c (h ∷ H)) (ap is_none idle) (used_stays h H c s p.1)

heard_before : (h : Mark) (H : List Mark) (c : ℕ) → start_at c h ≡ None → is_ignored c (h ∷ H) ≡ false → is_ignored c H ≡ false
heard_before h H c s i = by (is_ignored c H) refl
  where
    by : (b : Bool) → is_ignored c H ≡ b → b ≡ false
    by false e = refl
    by true e = let z : true ≡ false = sym (ignored_stays h H c s e) ∙ i in cc

-- an open connection was open, unless the mark opens it
open_before : (h : Mark) (H : List Mark) (c : ℕ) → is_open c (h ∷ H) ≡ true → (opens c h ≡ true) ⊎ (is_open c H ≡ true)
open_before (Opens d) H c o = by (eqb c d) refl
  where
    by : (b : Bool) → eqb c d ≡ b → (b ≡ true) ⊎ (is_open c H ≡ true)
    by true e = inl refl
    by false e = inr (any_of_append c d (open_ones H) e o)
open_before (Closes d why) H c o = inr (any_left d c (open_ones H) o)
open_before (IsShut d) H c o = inr (any_left d c (open_ones H) o)
open_before (ClosesAtStop d) H c o = inr (any_left d c (open_ones H) o)
open_before _ H c o = inr o

pub live_from : (h : Mark) (H : List Mark) (c : ℕ) → start_at c h ≡ None → is_live c (h ∷ H) ≡ true → (opens c h ≡ true) ⊎ (is_live c H ≡ true)
live_from h H c s v =
    let p = and_parts (is_open c (h ∷ H)) (not (is_ignored c (h ∷ H))) v in
    let i = heard_before h H c s (not-true (is_ignored c (h ∷ H)) p.1) in
    elim (open_before h H c p.0) [
      | inl o ↦ inl o
      | inr o ↦ inr (and_from (is_open c H) (not (is_ignored c H)) o (ap not i))
    ]

not_some : (o : Option Life) → o ≡ None → IsSome o → ⊥
not_some None e s = cc
not_some (Some v) e s = cc

-- ---- no fault, so far

-- the entry has octets of this connection, or of this link
abbrev pub names_conn : ℕ → Input → Bool
names_conn c (input.Piece d o) = eqb c d
names_conn c _ = false

abbrev pub names_link : ℕ → Input → Bool
names_link l (input.Reply k o) = eqb l k
names_link l _ = false

pub no_talk : (own : PeerId) → fault_in own [] ≡ None
unfolding cut greeting_fault
no_talk own = refl

pub no_replies : reply_fault [] ≡ None
unfolding cut greeting_fault
no_replies = refl

module _ (g : Config) where
  -- while an entry is taken: all but what it has octets of is without a fault
  pub record AreFaultless (i : Input) (H : List Mark) : Type 0 where
    pub talks : (c : ℕ) → names_conn c i ≡ false → is_live c H ≡ true → fault_in g.id (bytes c H) ≡ None
    pub answers : (l : ℕ) → names_link l i ≡ false → IsSome (life l H) → reply_fault (replies l H) ≡ None

  module _ (i : Input) (H : List Mark) (q : IsProper H) where
    abbrev Talks : List Mark → Type 0
    Talks K = (c : ℕ) → names_conn c i ≡ false → is_live c K ≡ true → fault_in g.id (bytes c K) ≡ None

    talks_more : (h : Mark) → May h H → Fits g h H → Talks H → Talks (h ∷ H)
    talks_more (Comes e) m f o = absurd f
    talks_more (Opens d) m f o = λ c n v.
        elim (live_from (Opens d) H c refl v) [
          | inl z ↦ (let none : bytes c H ≡ [] = ap (λ x. bytes x H) (eqb-true c d z) ∙ (q.opening.unheard d m.is_fresh).no_octets in ap (fault_in g.id) none ∙ no_talk g.id)
          | inr w ↦ o c n w
        ]
    talks_more (Starts d l s) m f o = λ c n v. by c n v (eqb c d) refl
      where
        by : (c : ℕ) → names_conn c i ≡ false → is_live c (Starts d l s ∷ H) ≡ true → (b : Bool) → eqb c d ≡ b → fault_in g.id (bytes c H) ≡ None
        by c n v true e = o c n (subst (λ x. is_live x H ≡ true) (sym (eqb-true c d e)) (and_parts (is_live d H) (is_none (runs d H)) m.waits).0)
        by c n v false e =
            elim (live_from (Starts d l s) H c (rw e refl) v) [
              | inl z ↦ absurd cc
              | inr w ↦ o c n w
            ]
    talks_more h m f o = λ c n v.
        elim (live_from h H c refl v) [
          | inl z ↦ absurd cc
          | inr w ↦ o c n w
        ]

    -- ---- links

    abbrev Answers : List Mark → Type 0
    Answers K = (l : ℕ) → names_link l i ≡ false → IsSome (life l K) → reply_fault (replies l K) ≡ None

    answers_more : (h : Mark) → May h H → Fits g h H → Answers H → Answers (h ∷ H)
    answers_more (Comes e) m f o = absurd f
    answers_more (Born k p e) m f o = λ l n s. let v = some_is (life l (Born k p e ∷ H)) s in by l n (at_end (λ (u : Life). eqb l u.link) (lives H) (record { link = k; id = p; endpoint = e }) v.0 v.1)
      where
        by : (l : ℕ) → names_link l i ≡ false → {v : Life} → AtEnd (λ (u : Life). eqb l u.link) (lives H) (record { link = k; id = p; endpoint = e }) v → reply_fault (replies l H) ≡ None
        by l n (Front z) = o l n (rw z refl)
        by l n (Back z s w) =
            let new : replies (births H + 1) H ≡ [] = (q.living.fresh (births H + 1) (omega arith)).no_reply in
            let none : replies l H ≡ [] = ap (λ x. replies x H) (eqb-true l k w ∙ m.next_link) ∙ new in
            ap reply_fault none ∙ no_replies
    answers_more (Ends k why) m f o = λ l n s. o l n (by l (life l H) refl s)
      where
        by : (l : ℕ) → (p : Option Life) → life l H ≡ p → IsSome (life l (Ends k why ∷ H)) → IsSome (life l H)
        by l (Some v) e s = rw e refl
        by l None e s = let z : life l (Ends k why ∷ H) ≡ None = none_kept (λ (u : Life). eqb l u.link) (λ (u : Life). not (eqb k u.link)) (lives H) e in absurd (not_some (life l (Ends k why ∷ H)) z s)
    answers_more _ m f o = o

  pub faultless_after : (i : Input) (hs H : List Mark) → IsProper H → Allowed hs H → AllFit g hs H → AreFaultless i H → AreFaultless i (after hs H)
  faultless_after i [] H q a f o = o
  faultless_after i (h ∷ hs) H q a f o =
      faultless_after i hs (h ∷ H) (step h H q a.0) a.1 f.1 (record { talks = talks_more i H q h a.0 f.0 o.talks; answers = answers_more i H q h a.0 f.0 o.answers })

  -- ---- what no mark after an entry changes

  bytes_step : (h : Mark) (H : List Mark) (c : ℕ) → Fits g h H → bytes c (h ∷ H) ≡ bytes c H
  bytes_step (Comes e) H c f = absurd f
  bytes_step _ H c f = refl

  replies_step : (h : Mark) (H : List Mark) (l : ℕ) → Fits g h H → replies l (h ∷ H) ≡ replies l H
  replies_step (Comes e) H l f = absurd f
  replies_step _ H l f = refl

  stop_step : (h : Mark) (H : List Mark) → Fits g h H → has_stopped (h ∷ H) ≡ has_stopped H
  stop_step Stops H f = absurd f
  stop_step _ H f = refl

  pub bytes_stay : (hs H : List Mark) (c : ℕ) → AllFit g hs H → bytes c (after hs H) ≡ bytes c H
  bytes_stay [] H c f = refl
  bytes_stay (h ∷ hs) H c f = bytes_stay hs (h ∷ H) c f.1 ∙ bytes_step h H c f.0

  pub replies_stay : (hs H : List Mark) (l : ℕ) → AllFit g hs H → replies l (after hs H) ≡ replies l H
  replies_stay [] H l f = refl
  replies_stay (h ∷ hs) H l f = replies_stay hs (h ∷ H) l f.1 ∙ replies_step h H l f.0

  pub still_going : (hs H : List Mark) → AllFit g hs H → has_stopped (after hs H) ≡ has_stopped H
  still_going [] H f = refl
  still_going (h ∷ hs) H f = still_going hs (h ∷ H) f.1 ∙ stop_step h H f.0

  -- ---- a piece with a fault closes its connection

  closed : (c : ℕ) (cs : List ℕ) → list_any (eqb c) (others c cs) ≡ false
  closed c [] = refl
  closed c (x ∷ cs) = by (closed c cs) (eqb c x) refl
    where
      by : list_any (eqb c) (others c cs) ≡ false → (b : Bool) → eqb c x ≡ b → list_any (eqb c) (cond (not b) (x ∷ others c cs) (others c cs)) ≡ false
      by r true e = r
      by r false e = rw e r

  pub not_open : (c : ℕ) (H : List Mark) → is_open c H ≡ false → is_live c H ≡ false
  not_open c H e = ap (λ b. b && not (is_ignored c H)) e

  dead_then : (c : ℕ) (f : ZmtpFault) (M : List Mark) → is_live c (after (at_place g c (Fault f) M ++ []) M) ≡ false
  dead_then c f M = by (is_live c M) refl
    where
      gone : (r : Option ℕ) → is_live c (after ((end_of_run g r cause.Fault ++ Closes c (close.Zmtp f) ∷ []) ++ []) M) ≡ false
      gone None = not_open c (Closes c (close.Zmtp f) ∷ M) (closed c (open_ones M))
      gone (Some l) = not_open c (Closes c (close.Zmtp f) ∷ Ends l cause.Fault ∷ M) (closed c (open_ones M))

      by : (b : Bool) → is_live c M ≡ b → is_live c (after (cond b (end_of_run g (runs c M) cause.Fault ++ Closes c (close.Zmtp f) ∷ []) [] ++ []) M) ≡ false
      by true e = gone (runs c M)
      by false e = e

  fault_ends : (c : ℕ) (f : ZmtpFault) (xs : List Said) (K : List Mark) → is_live c (after (at_places g c (xs ++ Fault f ∷ []) K) K) ≡ false
  fault_ends c f xs K =
      let hs = at_places g c xs K in
      ap (λ ks. is_live c (after ks K)) (in_turn-append (at_place g c) xs (Fault f ∷ []) K) ∙ ap (is_live c) (after-append hs (at_place g c (Fault f) (after hs K) ++ []) K) ∙ dead_then c f (after hs K)

  dead_places : (c : ℕ) (K : List Mark) → is_live c K ≡ false → (xs : List Said) → at_places g c xs K ≡ []
  dead_places c K e [] = refl
  dead_places c K e (x ∷ xs) = rw e (dead_places c K e xs)

  piece_ends : (c : ℕ) (H K : List Mark) (more : List ℕ) → bytes c K ≡ bytes c H ++ more → (is_live c K ≡ true → fault_in g.id (bytes c H) ≡ None)
      → is_live c (after (at_places g c (newly_completed g.id c H K) K) K) ≡ true → fault_in g.id (bytes c K) ≡ None
  piece_ends c H K more e was v = by (fault_in g.id (bytes c K)) refl
    where
      live : (b : Bool) → is_live c K ≡ b → is_live c K ≡ true
      live true z = z
      live false z = let y : true ≡ false = sym v ∙ ap (λ hs. is_live c (after hs K)) (dead_places c K z (newly_completed g.id c H K)) ∙ z in cc

      by : (o : Option ZmtpFault) → fault_in g.id (bytes c K) ≡ o → o ≡ None
      by None z = refl
      by (Some f) z =
          let none = was (live (is_live c K) refl) in
          let said : newly_completed g.id c H K ≡ completed g.id (bytes c H) more = ap (λ o. drop (length (talk g.id (bytes c H))) (talk g.id o)) e in
          let xs = map (λ a. Arrived a) (new_arrivals g.id (bytes c H) more) in
          let last : fault_said (fault_in g.id (bytes c H ++ more)) ≡ Fault f ∷ [] = ap fault_said (ap (fault_in g.id) (sym e) ∙ z) in
          let all : newly_completed g.id c H K ≡ xs ++ Fault f ∷ [] = said ∙ (goes g.id (bytes c H) more).faultless none ∙ ap (λ ys. xs ++ ys) last in
          let y : true ≡ false = sym v ∙ ap (λ ss. is_live c (after (at_places g c ss K) K)) all ∙ fault_ends c f xs K in
          cc

  pub conn_ends : (i : Input) (c : ℕ) (H K : List Mark) (more : List ℕ) → names_conn c i ≡ true → bytes c K ≡ bytes c H ++ more → (is_live c K ≡ true → fault_in g.id (bytes c H) ≡ None)
      → is_live c (after (at_input g i H K) K) ≡ true → fault_in g.id (bytes c K) ≡ None
  conn_ends (input.Piece d o) c H K more n e was v =
      let same : c ≡ d = eqb-true c d n in
      piece_ends c H K more e was (subst (λ x. is_live c (after (at_places g x (newly_completed g.id x H K) K) K) ≡ true) (sym same) v)
  conn_ends _ c H K more n e was v = absurd cc

  -- ---- replies with a fault end the peer

  gone_life : (l : ℕ) (vs : List Life) → find (λ (u : Life). eqb l u.link) (other_lives l vs) ≡ None
  gone_life l [] = refl
  gone_life l (v ∷ vs) = by (gone_life l vs) (eqb l v.link) refl
    where
      by : find (λ (u : Life). eqb l u.link) (other_lives l vs) ≡ None → (b : Bool) → eqb l v.link ≡ b → find (λ (u : Life). eqb l u.link) (cond (not b) (v ∷ other_lives l vs) (other_lives l vs)) ≡ None
      by r true e = r
      by r false e = rw e r

  reply_ends : (l : ℕ) (H K : List Mark) → (is_linked l K ≡ false → IsSome (life l K) → reply_fault (replies l K) ≡ None) → IsSome (life l (after (at_reply g l (life l K) H K) K)) → reply_fault (replies l K) ≡ None
  reply_ends l H K was s = by (life l K) refl s
    where
      found : (J : List Mark) (o : Option (ℕ × ℕ)) (f : Option ZmtpFault) → IsSome (life l (after (end_by g l (cause_by_reply o f)) J)) → f ≡ None
      found J o None t = refl
      found J (Some n) (Some f) t = absurd (not_some (life l (Ends l (cause.Slow n.0 n.1) ∷ J)) (gone_life l (lives J)) t)
      found J None (Some f) t = absurd (not_some (life l (Ends l (cause.Reply f) ∷ J)) (gone_life l (lives J)) t)

      by : (o : Option Life) → life l K ≡ o → IsSome (life l (after (at_reply g l o H K) K)) → reply_fault (replies l K) ≡ None
      by None z t = absurd (not_some (life l K) z t)
      by (Some v) z t = linked (is_linked l K) refl t
        where
          pongs : List Mark
          pongs = map (λ c. PutsPong l c) (answered (unsent g l K) (newly_pinged l H K))

          end : List Mark
          end = end_by g l (cause_by_reply (slow_at (unsent g l K) (newly_pinged l H K)) (reply_fault (replies l K)))

          linked : (b : Bool) → is_linked l K ≡ b → IsSome (life l (after (cond b (answers g l (newly_pinged l H K) (reply_fault (replies l K)) K) []) K)) → reply_fault (replies l K) ≡ None
          linked true y u = found (after pongs K) (slow_at (unsent g l K) (newly_pinged l H K)) (reply_fault (replies l K)) (subst (λ J. IsSome (life l J)) (after-append pongs end K) u)
          linked false y u = was y u

  pub link_ends : (i : Input) (l : ℕ) (H K : List Mark) → names_link l i ≡ true → (is_linked l K ≡ false → IsSome (life l K) → reply_fault (replies l K) ≡ None)
      → IsSome (life l (after (at_input g i H K) K)) → reply_fault (replies l K) ≡ None
  link_ends (input.Reply k o) l H K n was s =
      let same : l ≡ k = eqb-true l k n in
      reply_ends l H K was (subst (λ x. IsSome (life l (after (at_reply g x (life x K) H K) K))) (sym same) s)
  link_ends _ l H K n was s = absurd cc

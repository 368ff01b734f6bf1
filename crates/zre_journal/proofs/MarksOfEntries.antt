-- What comes about at an entry, but for what is said on a connection: pushes, births, datagrams, links, the tick, commands and the stop.
use Rattle.std.proofs.Common.{◌≡◌, ℕ, ◌+◌, ◌-◌, ◌%◌, Bool, true, false, cond, not, ◌&&◌, ◌||◌, eqb, ltb, leb, List, [], ◌∷◌, ◌++◌, length, map, Option, Some, None, IsSome, filter, refl, ◌∙◌, ltb-true, ap, ◌≤◌, sym, arith, subst, true≢false, min}
use Rattle.std.proofs.lemmas.Bool.{and_parts, ltb-false, leb-false, not-true}
use Rattle.std.specs.List.{AllByRecursion, list_any}
use Rattle.std.specs.Str.{bytes_eq}
use Rattle.zre_values.specs.declared.peer_id.PeerId.{PeerId}
use Rattle.zre_values.specs.declared.limits.TheConstants.{PEERS, CONNECTIONS, UNSENT_OCTETS, OWN_GROUPS, GROUP_OCTETS}
use Rattle.zre_values.specs.declared.endpoint.Endpoint.{Endpoint}
use Rattle.zre_outside.specs.declared.entry.Command.{Command}
use Rattle.zre_peer.specs.declared.causes.Cause.{Cause}
use Rattle.zre_msg.specs.declared.message.Body.{Body}
use Rattle.zre_zmtp.specs.Written.{pong_frame}
use Rattle.zre_link.specs.Text.{Member, Pongs, text_of, size_of}
use Rattle.zre_link.specs.Heard.{reply_fault}
use Rattle.zre_values.specs.declared.settings.Settings.{Settings as Config}
use Rattle.zre_journal.specs.Chronicle.{Mark, Opens, TurnsAway, Closes, IsShut, ClosesAtStop, HearsBeacon, Ends, IsEvasive, Puts, PutsPong, Links, Joins, Leaves, Refuses, SendsBeacon, Stops, after, Starts, Sends, followed}
use Rattle.zre_journal.specs.Connections.{open_ones, is_open, is_new, runs}
use Rattle.zre_journal.specs.Peers.{Life, lives, life, life_of, is_entered, births}
use Rattle.zre_journal.specs.Links.{line, unsent, is_linked, replies, newly_pinged, groups, status, put_on, taken, gate}
use Rattle.zre_journal.specs.Proper.{IsProper, Apart}
use Rattle.zre_journal.specs.Pushes.{push, push_all, birth, hello}
use Rattle.zre_journal.specs.Arrivals.{end_of_run, at_opened, at_shut}
use Rattle.zre_journal.specs.Happens.{is_welcome, at_beacon, at_datagram}
use Rattle.zre_journal.specs.LinkEntries.{at_linked, cause_by_reply, end_by, at_reply, at_unlinked, at_took}
use Rattle.zre_journal.specs.Ticks.{probe, is_stale, at_tick}
use Rattle.zre_journal.specs.Commands.{has_group, at_join, at_leave, is_too_big, at_whisper, is_member, at_shout, at_stop, at_command}
use Rattle.zre_outside.specs.declared.entry.Input.{Input}
use Rattle.zre_msg.specs.declared.message.Message.{Message}
use Rattle.zre_peer.specs.declared.causes.CloseWhy.{CloseWhy}
use Rattle.zre_link.specs.Link.{unsent_of, answered, slow_at}
use Rattle.zre_journal.specs.Endings.{is_end}
use Rattle.zre_outside.specs.declared.entry.Command.TheVariants as command
use Rattle.zre_peer.specs.declared.causes.Cause.TheVariants as cause
use Rattle.zre_peer.specs.declared.causes.CloseWhy.TheVariants as close
use Rattle.zre_peer.specs.declared.causes.RefuseWhy.TheVariants as refuse
use Rattle.zre_msg.specs.declared.message.Body.TheVariants as body
use Rattle.zre_outside.specs.declared.entry.Input.TheVariants as input
use Rattle.zre_journal.proofs.NumberedLists.{All-kept, Apart-kept, each_there, left_there}
use Rattle.zre_journal.proofs.KnownPeers.{known_of, AreKnown, each_known, newborn_known, still_known, end_all, ends_keep, ends_open}
use Rattle.zre_journal.proofs.IdleConnections.{AreNoStarts, none_and_none, ends_start_none, all_idle, idle_then}
use Rattle.zre_journal.proofs.HelloFits.{introduces}
use Rattle.zre_journal.proofs.WithinLimits.{can_introduce, pong_more}
use Rattle.zre_journal.proofs.JoinedEntries.{after-append}
use Rattle.zre_journal.proofs.ProperAfterMarks.{run_known}
use Rattle.zre_journal.proofs.WhenMarksCome.{Each, both, choice}
use Rattle.zre_journal.proofs.SoundMarks.{IsOther, AreOthers}
use Rattle.zre_journal.proofs.HeardUnchanged.{is_of}
use Rattle.zre_journal.proofs.ExpiringAtTicks.{AreEntered, expiring, wavering, stale, expiring_apart, wavering_apart, stale_apart, wavering_known, expiring_known, wavering_entered, stale_idle}
use Rattle.zre_journal.proofs.EachMarkOfEntries.{Ground, IsMild, Brought}
use Rattle.zre_peer.specs.declared.causes.RefuseWhy.{RefuseWhy}

-- ---- links as they were

-- the same was put on each link, and has gone out
pub record AreSame (I H : List Mark) : Type 0 where
  pub put : (l : ℕ) → line l H ≡ line l I
  pub gone : (l : ℕ) → taken l H ≡ taken l I

pub same : (K : List Mark) → AreSame K K
same K = record { put = λ l. refl; gone = λ l. refl }

gone_more : (h : Mark) (I H : List Mark) (l : ℕ) → taken l H ≡ taken l I → taken l (h ∷ H) ≡ taken l (h ∷ I)
gone_more (Sends k n) I H l e = ap (λ t. cond (eqb l k) (t + n) t) e
gone_more _ I H l e = e

same_after : (hs I H : List Mark) → AreSame I H → AreSame (after hs I) (after hs H)
same_after [] I H s = s
same_after (h ∷ hs) I H s = same_after hs (h ∷ I) (h ∷ H) (record { put = λ l. ap (λ bs. followed bs (put_on l h)) (s.put l); gone = λ l. gone_more h I H l (s.gone l) })

-- a body has room where the same was put and has gone out as where it has
at_link : (own : PeerId) (as_ bs : List Member) (i n : ℕ) (b : Body) → bs ≡ as_ → n ≡ i → unsent_of own as_ i + size_of as_ b ≤ UNSENT_OCTETS → unsent_of own bs n + size_of bs b ≤ UNSENT_OCTETS
at_link own as_ bs i n b e f h = subst (λ (xs : List Member). unsent_of own xs n + size_of xs b ≤ UNSENT_OCTETS) (sym e) (subst (λ k. unsent_of own as_ k + size_of as_ b ≤ UNSENT_OCTETS) (sym f) h)

-- what comes of a push
pub pushed : (g : Config) (Q : List Mark → Type 0) (l : ℕ) (b : Body) (I H : List Mark) → ((why : Cause) → Q (Ends l why ∷ H)) → Q (Puts l b ∷ H) → Q (after (push g l b I) H)
pushed g Q l b I H f p = choice (λ hs. Q (after hs H)) (ltb UNSENT_OCTETS (unsent g l I + size_of (line l I) b)) _ _ (λ e. f (cause.Slow (unsent g l I) (size_of (line l I) b))) (λ e. p)

-- PONGs leave the lives
pub pongs_life : (k l : ℕ) (ts : List (List ℕ)) (H : List Mark) → life k (after (map (λ c. PutsPong l c) ts) H) ≡ life k H
pongs_life k l [] H = refl
pongs_life k l (c ∷ ts) H = pongs_life k l ts (PutsPong l c ∷ H)

-- ---- marks of one kind

module _ (g : Config) (w : Ground) (t : Bool) where
  abbrev B : Mark → List Mark → Type 0
  B h H = Brought g w t h H

  -- a push that was found at I, where links are as they were
  pub push_brought : (l : ℕ) (b : Body) (I H : List Mark) → (t ≡ false → IsMild b) → AreSame I H → IsSome (life l H) → Each B (push g l b I) H
  push_brought l b I H m s k = choice (λ hs. Each B hs H) (ltb UNSENT_OCTETS (unsent g l I + size_of (line l I) b)) _ _ (λ e. ((k, tt), tt))
      (λ e. ((k, (m, λ can r. at_link g.id (line l I) (line l H) (taken l I) (taken l H) b (s.put l) (s.gone l) (ltb-false _ _ e))), tt))

  -- PONGs that have room after no less than is unsent
  pub pongs_brought : (l : ℕ) (ts : List (List ℕ)) (n : ℕ) (H : List Mark) → unsent g l H ≤ n → IsSome (life l H) → Each B (map (λ c. PutsPong l c) (answered n ts)) H
  pongs_brought l [] n H u k = tt
  pongs_brought l (c ∷ ts) n H u k = by (ltb UNSENT_OCTETS (n + length (pong_frame c))) refl (λ w. pongs_brought l ts (n + length (pong_frame c)) (PutsPong l c ∷ H) w k)
    where
      later : List (List ℕ)
      later = answered (n + length (pong_frame c)) ts

      more : (b : Bool) → length (text_of g.id (followed (line l H) (cond b (Some (Pongs c)) None))) - taken l H ≤ n + length (pong_frame c)
      more true = let p = pong_more g (line l H) c (taken l H) in omega (arith, p, u)
      more false = omega (arith, u)

      by : (b : Bool) → ltb UNSENT_OCTETS (n + length (pong_frame c)) ≡ b → (unsent g l (PutsPong l c ∷ H) ≤ n + length (pong_frame c) → Each B (map (λ x. PutsPong l x) later) (PutsPong l c ∷ H))
          → Each B (map (λ x. PutsPong l x) (cond b [] (c ∷ later))) H
      by true e r = tt
      by false e r = let fits : n + length (pong_frame c) ≤ UNSENT_OCTETS = ltb-false _ _ e in ((k, λ can room. omega (arith, u, fits)), r (more (eqb l l)))

  push_keeps : (l : ℕ) (b : Body) (I H : List Mark) (vs : List Life) → AllByRecursion (λ (v : Life). eqb l v.link ≡ false) vs → AreKnown H vs → AreKnown (after (push g l b I) H) vs
  push_keeps l b I H vs far k = pushed g (λ J. AreKnown J vs) l b I H (λ why. still_known H l why vs far k) k

  pub pushes_brought : (b : Body) → (t ≡ false → IsMild b) → (vs : List Life) (I H : List Mark) → AreSame I H → Apart (λ (v : Life). v.link) vs → AreKnown H vs → Each B (push_all g vs b I) H
  pushes_brought b m [] I H s a k = tt
  pushes_brought b m (v ∷ vs) I H s a k =
      let p = push g v.link b I in
      both B p _ H (push_brought v.link b I H m s k.0) (pushes_brought b m vs (after p I) (after p H) (same_after p I H s) a.1 (push_keeps v.link b I H vs a.0 k.1))

  ping : IsMild body.Ping
  ping = record { leaves = λ v. refl; later = refl }

  probes_brought : (vs : List Life) (I H : List Mark) → AreSame I H → Apart (λ (v : Life). v.link) vs → AreKnown H vs → AreEntered H vs → Each B (probe g vs I) H
  probes_brought [] I H s a k e = tt
  probes_brought (v ∷ vs) I H s a k e =
      let p = push g v.link body.Ping I in
      let J = IsEvasive v.link ∷ H in (
        (record { is_known = k.0; is_run = e.0 }, tt),
        both B p _ J (push_brought v.link body.Ping I J (λ z. ping) (record { put = s.put; gone = s.gone }) k.0)
            (probes_brought vs (after p (IsEvasive v.link ∷ I)) (after p J) (same_after p (IsEvasive v.link ∷ I) J (record { put = s.put; gone = s.gone })) a.1
            (push_keeps v.link body.Ping I J vs a.0 k.1) (pushed g (λ L. AreEntered L vs) v.link body.Ping I J (λ why. e.1) e.1)),
      )

  ends_brought : (why : Cause) (vs : List Life) (H : List Mark) → Apart (λ (v : Life). v.link) vs → AreKnown H vs → Each B (end_all why vs) H
  ends_brought why [] H a k = tt
  ends_brought why (v ∷ vs) H a k = ((k.0, tt), ends_brought why vs (Ends v.link why ∷ H) a.1 (still_known H v.link why vs a.0 k.1))

  closes_brought : (why : CloseWhy) (cs : List ℕ) (H : List Mark) → Apart (λ (c : ℕ). c) cs → AllByRecursion (λ c. is_open c H ≡ true) cs → AllByRecursion (λ c. runs c H ≡ None) cs → Each B (map (λ c. Closes c why) cs) H
  closes_brought why [] H a o r = tt
  closes_brought why (c ∷ cs) H a o r = ((r.0, o.0), closes_brought why cs (Closes c why ∷ H) a.1 (left_there c cs (open_ones H) a.0 o.1) r.1)

  drops_brought : (cs : List ℕ) (H : List Mark) → Apart (λ (c : ℕ). c) cs → AllByRecursion (λ c. is_open c H ≡ true) cs → ((c : ℕ) → runs c H ≡ None) → Each B (map (λ c. ClosesAtStop c) cs) H
  drops_brought [] H a o r = tt
  drops_brought (c ∷ cs) H a o r = ((r c, o.0), drops_brought cs (ClosesAtStop c ∷ H) a.1 (left_there c cs (open_ones H) a.0 o.1) r)

  -- the run of a connection ends, and a mark comes that closes it
  pub run_and : (c : ℕ) (why : Cause) (h : Mark) (K : List Mark) → IsProper K → is_open c K ≡ true → ((H : List Mark) → runs c H ≡ None → is_open c H ≡ true → B h H) → Each B (end_of_run g (runs c K) why ++ h ∷ []) K
  run_and c why h K q o f = by (runs c K) refl (idle_then g K q c why)
    where
      by : (r : Option ℕ) → runs c K ≡ r → runs c (after (end_of_run g r why) K) ≡ None → Each B (end_of_run g r why ++ h ∷ []) K
      by None e i = (f K e o, tt)
      by (Some l) e i = ((run_known K q c l e, tt), (f (Ends l why ∷ K) i o, tt))

-- ---- the tick and the stop

module _ (g : Config) (w : Ground) (t : Bool) (K : List Mark) (q : IsProper K) where
  probes_open : (vs : List Life) (I H : List Mark) → open_ones (after (probe g vs I) H) ≡ open_ones H
  probes_open [] I H = refl
  probes_open (v ∷ vs) I H =
      let p = push g v.link body.Ping I in
      let J = IsEvasive v.link ∷ H in
      ap open_ones (after-append p (probe g vs (after p (IsEvasive v.link ∷ I))) J) ∙ probes_open vs (after p (IsEvasive v.link ∷ I)) (after p J)
      ∙ pushed g (λ L. open_ones L ≡ open_ones H) v.link body.Ping I J (λ why. refl) refl

  probes_start_none : (vs : List Life) (I : List Mark) → AreNoStarts (probe g vs I)
  probes_start_none [] I = tt
  probes_start_none (v ∷ vs) I = (
    λ c. refl,
    none_and_none (push g v.link body.Ping I) (probe g vs (after (push g v.link body.Ping I) (IsEvasive v.link ∷ I)))
        (choice AreNoStarts (ltb UNSENT_OCTETS (unsent g v.link I + size_of (line v.link I) body.Ping)) _ _ (λ e. (λ c. refl, tt)) (λ e. (λ c. refl, tt)))
        (probes_start_none vs (after (push g v.link body.Ping I) (IsEvasive v.link ∷ I))),
  )

  pub tick_brought : Each (Brought g w t) (at_tick g K) K
  tick_brought = both (Brought g w t) (E ++ F ++ C) _ K (both (Brought g w t) (E ++ F) C K (both (Brought g w t) E F K ends probes) closes) ((tt, tt), tt)
    where
      E : List Mark
      E = end_all cause.Expired (expiring g K)

      F : List Mark
      F = probe g (wavering g K) K

      C : List Mark
      C = map (λ c. Closes c close.Timeout) (stale g K)

      ends : Each (Brought g w t) E K
      ends = ends_brought g w t cause.Expired (expiring g K) K (expiring_apart g K q) (expiring_known g K)

      ends_same : AreSame K (after E K)
      ends_same = ends_keep (AreSame K) (λ l why H s. record { put = s.put; gone = s.gone }) cause.Expired (expiring g K) K (same K)

      probes : Each (Brought g w t) F (after E K)
      probes = probes_brought g w t (wavering g K) K (after E K) ends_same (wavering_apart g K q) (wavering_known g K q) (wavering_entered g K)

      still : open_ones K ≡ open_ones (after (E ++ F) K)
      still = sym (ap open_ones (after-append E F K) ∙ probes_open (wavering g K) K (after E K) ∙ ends_open cause.Expired (expiring g K) K)

      closes : Each (Brought g w t) C (after (E ++ F) K)
      closes = closes_brought g w t close.Timeout (stale g K) (after (E ++ F) K) (stale_apart g K q)
          (All-kept (λ c. is_open c (after (E ++ F) K) ≡ true) (is_stale g K) (open_ones K) (each_there (λ c. is_open c (after (E ++ F) K) ≡ true) (open_ones K) (λ c o. subst (λ cs. list_any (eqb c) cs ≡ true) still o)))
          (stale_idle g K (E ++ F) (none_and_none E F (ends_start_none cause.Expired (expiring g K)) (probes_start_none (wavering g K) K)))

  -- up to the beacon of a stop
  pub stop_brought : (hs : List Mark) → ((H : List Mark) → Each (Brought g w t) hs H) → Each (Brought g w t) (end_all cause.Stop (lives K) ++ map (λ c. ClosesAtStop c) (open_ones K) ++ hs) K
  stop_brought hs b = both (Brought g w t) (E ++ D) hs K (both (Brought g w t) E D K ends drops) (b (after (E ++ D) K))
    where
      E : List Mark
      E = end_all cause.Stop (lives K)

      D : List Mark
      D = map (λ c. ClosesAtStop c) (open_ones K)

      ends : Each (Brought g w t) E K
      ends = ends_brought g w t cause.Stop (lives K) K q.living.apart (each_known K)

      drops : Each (Brought g w t) D (after E K)
      drops = drops_brought g w t (open_ones K) (after E K) q.opening.open_apart
          (each_there (λ c. is_open c (after E K) ≡ true) (open_ones K) (λ c o. subst (λ cs. list_any (eqb c) cs ≡ true) (sym (ends_open cause.Stop (lives K) K)) o)) (all_idle K q cause.Stop)

-- ---- what comes about

-- marks that tell nothing of the node, or a birth, with a start or without, or a group that it joins or leaves, or one after another
pub data Outcome (g : Config) (w : Ground) : List Mark → List Mark → Type 0 where
  plainly : {hs K : List Mark} → ((t : Bool) → Each (Brought g w t) hs K) → Outcome g w hs K
  birth_of : {K : List Mark} → (p : PeerId) (e : Endpoint) → Each (Brought g w true) (birth g p e K) K → Outcome g w (birth g p e K) K
  start_of : {K : List Mark} → (p : PeerId) (e : Endpoint) (c : ℕ) (m : Message) → Each (Brought g w true) (birth g p e K ++ Starts c (births K + 1) m ∷ []) K → Outcome g w (birth g p e K ++ Starts c (births K + 1) m ∷ []) K
  joining : {K : List Mark} → (group : List ℕ) → has_group group (groups K) ≡ false → Each (Brought g w true) (Joins group ∷ push_all g (lives K) (body.Join group ((status K + 1) % 256)) K) K
      → Outcome g w (Joins group ∷ push_all g (lives K) (body.Join group ((status K + 1) % 256)) K) K
  leaving : {K : List Mark} → (group : List ℕ) → Each (Brought g w true) (Leaves group ∷ push_all g (lives K) (body.Leave group ((status K + 1) % 256)) K) K
      → Outcome g w (Leaves group ∷ push_all g (lives K) (body.Leave group ((status K + 1) % 256)) K) K
  then : {hs ks K : List Mark} → Outcome g w hs K → Outcome g w ks (after hs K) → Outcome g w (hs ++ ks) K

pub all_brought : {g : Config} {w : Ground} {hs K : List Mark} → Outcome g w hs K → Each (Brought g w true) hs K
all_brought (plainly b) = b true
all_brought (birth_of p e b) = b
all_brought (start_of p e c m b) = b
all_brought (joining group n b) = b
all_brought (leaving group b) = b
all_brought {g} {w} (then {hs = hs} {ks = ks} {K = K} a b) = both (Brought g w true) hs ks K (all_brought a) (all_brought b)

module _ (g : Config) (w : Ground) (K : List Mark) (q : IsProper K) where
  abbrev O : List Mark → Type 0
  O hs = Outcome g w hs K

  pub nothing : O []
  nothing = plainly (λ t. tt)

  pub one : (h : Mark) → ((t : Bool) → Brought g w t h K) → O (h ∷ [])
  one h b = plainly (λ t. (b t, tt))

  known_link : (p : PeerId) (v : Life) → life_of p K ≡ Some v → IsSome (life v.link K)
  known_link p v e = rw (known_of K q p v e) refl

  pub birth_brought : (p : PeerId) (e : Endpoint) → life_of p K ≡ None → ltb (length (lives K)) PEERS ≡ true → (AreOthers g K → IsOther g p) → Each (Brought g w true) (birth g p e K) K
  birth_brought p e u r other =
      let new = q.living.fresh (births K + 1) (omega arith) in (
        (record { next_link = refl; is_unknown = u; has_room = ltb-true (length (lives K)) PEERS r }, (refl, other)),
        (
          (
            rw (newborn_known K q p e) refl,
            (
              λ z. absurd (true≢false z),
              λ can r. at_link g.id [] (line (births K + 1) K) 0 (taken (births K + 1) K) (hello g K) new.no_member new.none_taken
                  (introduces g K (can_introduce g can K (record { unsent_fits = r.unsent_fits; views_fit = r.views_fit; groups_fit = r.groups_fit; few_groups = r.few_groups }))).has_room,
            ),
          ),
          tt,
        ),
      )

  -- ---- datagrams, openings, closings

  pub datagram_outcome : (from : List ℕ) (b : Option (PeerId × ℕ)) → O (at_datagram g from b K)
  datagram_outcome from None = nothing
  datagram_outcome from (Some b) = by (life_of b.0 K) refl
    where
      by : (o : Option Life) → life_of b.0 K ≡ o → O (at_beacon g from b.0 b.1 o K)
      by (Some v) e = choice O (eqb b.1 0) _ _ (λ z. one (Ends v.link cause.Beacon) (λ t. (known_link b.0 v e, tt))) (λ z. one (HearsBeacon v.link) (λ t. (tt, tt)))
      by None e = choice O (is_welcome g b.0 b.1 (length (lives K))) _ _ (λ z.
          let p = and_parts (not (bytes_eq b.0.0 g.id.0)) (ltb (length (lives K)) PEERS) (and_parts (not (eqb b.1 0)) (not (bytes_eq b.0.0 g.id.0) && ltb (length (lives K)) PEERS) z).1 in
          birth_of b.0 (record { addr = from; port = b.1 }) (birth_brought b.0 (record { addr = from; port = b.1 }) e p.1 (λ o. not-true (bytes_eq b.0.0 g.id.0) p.0))) (λ z. nothing)

  pub opened_outcome : (c : ℕ) → w.of c ≡ true → O (at_opened g c K)
  opened_outcome c own = choice O (is_new c K) _ _ (λ new. choice O (ltb (length (open_ones K)) CONNECTIONS) _ _
      (λ z. one (Opens c) (λ t. (record { is_fresh = new; has_place = ltb-true (length (open_ones K)) CONNECTIONS z }, own))) (λ z. one (TurnsAway c) (λ t. (tt, new)))) (λ z. nothing)

  pub shut_outcome : (c : ℕ) → O (at_shut g c K)
  shut_outcome c = choice O (is_open c K) _ _ (λ o. plainly (λ t. run_and g w t c cause.Shut (IsShut c) K q o (λ H r there. (r, there)))) (λ z. nothing)

  -- ---- links

  pub linked_outcome : (l : ℕ) (o : Option Life) → life l K ≡ o → O (at_linked g l o K)
  linked_outcome l None e = nothing
  linked_outcome l (Some v) e = choice O (is_linked l K) _ _ (λ z. nothing) (λ z. one (Links l) (λ t. (rw e refl, z)))

  pub reply_outcome : (l : ℕ) (H : List Mark) (o : Option Life) → life l K ≡ o → O (at_reply g l o H K)
  reply_outcome l H None e = nothing
  reply_outcome l H (Some v) e = choice O (is_linked l K) _ _
      (λ z. plainly (λ t. both (Brought g w t) pongs _ K (pongs_brought g w t l contexts (unsent g l K) K (omega arith) known) (end t (cause_by_reply (slow_at (unsent g l K) contexts) (reply_fault (replies l K))))))
      (λ z. nothing)
    where
      contexts : List (List ℕ)
      contexts = newly_pinged l H K

      pongs : List Mark
      pongs = map (λ c. PutsPong l c) (answered (unsent g l K) contexts)

      known : IsSome (life l K)
      known = rw e refl

      still : IsSome (life l (after pongs K))
      still = subst IsSome (sym (pongs_life l l (answered (unsent g l K) contexts) K)) known

      end : (t : Bool) (why : Option Cause) → Each (Brought g w t) (end_by g l why) (after pongs K)
      end t None = tt
      end t (Some why) = ((still, tt), tt)

  pub unlinked_outcome : (l : ℕ) (o : Option Life) → life l K ≡ o → O (at_unlinked g l o)
  unlinked_outcome l None e = nothing
  unlinked_outcome l (Some v) e = one (Ends l cause.Link) (λ t. (rw e refl, tt))

  pub took_outcome : (l n : ℕ) (o : Option Life) → life l K ≡ o → O (at_took g l n o K)
  took_outcome l n None e = nothing
  took_outcome l n (Some v) e = one (Sends l (min n (gate g l K - taken l K))) (λ t. (rw e refl, tt))

  -- ---- commands

  refused : (why : RefuseWhy) → O (Refuses why ∷ [])
  refused why = one (Refuses why) (λ t. (tt, tt))

  join_outcome : (group : List ℕ) → O (at_join g group K)
  join_outcome group = choice O (ltb GROUP_OCTETS (length group)) _ _ (λ z. refused refuse.TooBig)
      (λ z. choice O (has_group group (groups K)) _ _ (λ y. refused (refuse.Same group))
      (λ y. choice O (leb OWN_GROUPS (length (groups K))) _ _ (λ x. refused (refuse.Limit group))
      (λ x. joining group y ((tt, (refl, (ltb-false _ _ z, leb-false _ _ x))), pushes_brought g w true (body.Join group ((status K + 1) % 256)) (λ u. absurd (true≢false u)) (lives K) K (Joins group ∷ K) (record { put = λ l. refl; gone = λ l. refl }) q.living.apart (each_known K)))))

  leave_outcome : (group : List ℕ) → O (at_leave g group K)
  leave_outcome group = choice O (has_group group (groups K)) _ _
      (λ z. leaving group ((tt, refl), pushes_brought g w true (body.Leave group ((status K + 1) % 256)) (λ u. absurd (true≢false u)) (lives K) K (Leaves group ∷ K) (record { put = λ l. refl; gone = λ l. refl }) q.living.apart (each_known K)))
      (λ z. refused (refuse.NoGroup group))

  whisper_outcome : (p : PeerId) (content : List (List ℕ)) (o : Option Life) → life_of p K ≡ o → O (at_whisper g p content o K)
  whisper_outcome p content None e = refused (refuse.NoPeer p)
  whisper_outcome p content (Some v) e = choice O (not (is_entered K v)) _ _ (λ z. refused (refuse.NoPeer p)) (λ z. choice O (is_too_big g (body.Whisper content)) _ _ (λ y. refused refuse.TooBig)
      (λ y. plainly (λ t. push_brought g w t v.link (body.Whisper content) K K (λ x. record { leaves = λ u. refl; later = refl }) (same K) (known_link p v e))))

  shout_outcome : (group : List ℕ) (content : List (List ℕ)) → O (at_shout g group content K)
  shout_outcome group content = choice O (ltb GROUP_OCTETS (length group) || is_too_big g (body.Shout group content)) _ _ (λ z. refused refuse.TooBig)
      (λ z. plainly (λ t. pushes_brought g w t (body.Shout group content) (λ x. record { leaves = λ u. refl; later = refl }) (filter (is_member g group K) (lives K)) K K (same K)
      (Apart-kept (λ (v : Life). v.link) (is_member g group K) (lives K) q.living.apart) (All-kept (λ (v : Life). IsSome (life v.link K)) (is_member g group K) (lives K) (each_known K))))

  pub stop_outcome : w.stops ≡ true → O (at_stop g K)
  stop_outcome s = plainly (λ t. stop_brought g w t K q (SendsBeacon 0 ∷ Stops ∷ []) (λ H. ((tt, tt), ((tt, s), tt))))

  -- ---- all but pieces

  pub command_outcome : (c : Command) → (is_end (input.Do c) ≡ true → w.stops ≡ true) → O (at_command g c K)
  command_outcome (command.Join group) s = join_outcome group
  command_outcome (command.Leave group) s = leave_outcome group
  command_outcome (command.Whisper p content) s = whisper_outcome p content (life_of p K) refl
  command_outcome (command.Shout group content) s = shout_outcome group content
  command_outcome (command.Bad n) s = refused (refuse.BadLine n)
  command_outcome command.Quit s = stop_outcome (s refl)

-- what an entry is grounds for
abbrev pub ground : Input → Ground
ground i = record { of = λ c. is_of c i; stops = is_end i }

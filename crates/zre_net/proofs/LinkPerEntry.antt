-- What an entry does with one link: it puts no message on it, or the link goes on and gets no PONG.
use Rattle.std.proofs.Common.{◌≡◌, ◌⊎◌, ℕ, ◌+◌, ◌≤◌, Bool, true, false, cond, not, ◌&&◌, ◌||◌, eqb, ltb, leb, List, [], ◌∷◌, ◌++◌, length, map, filter, Option, Some, None, refl, sym, ◌∙◌, subst, inl, inr, arith, eqb-true, min, ◌-◌, ◌%◌}
use Rattle.std.specs.List.{AllByRecursion}
use Rattle.zre_values.specs.Endpoint.{endpoint_in}
use Rattle.zre_values.specs.declared.peer_id.PeerId.{PeerId}
use Rattle.zre_values.specs.declared.endpoint.Endpoint.{Endpoint}
use Rattle.zre_values.specs.declared.limits.TheConstants.{PEERS, CONNECTIONS, UNSENT_OCTETS, OWN_GROUPS, GROUP_OCTETS}
use Rattle.zre_beacon.specs.Beacon.{beacon_in}
use Rattle.zre_outside.specs.declared.entry.Command.{Command}
use Rattle.zre_outside.specs.declared.entry.Command.TheVariants as command
use Rattle.zre_outside.specs.declared.entry.Input.{Input}
use Rattle.zre_outside.specs.declared.entry.Input.TheVariants as input
use Rattle.zre_mailbox.specs.Talk.{Said, Arrived, Fault}
use Rattle.zre_mailbox.specs.declared.arrival.Arrival.TheVariants as arrival
use Rattle.zre_msg.specs.declared.message.Body.{Body}
use Rattle.zre_msg.specs.declared.message.Body.TheVariants as body
use Rattle.zre_msg.specs.declared.message.Message.{Message}
use Rattle.zre_peer.specs.Runs.{is_hello, due}
use Rattle.zre_peer.specs.Views.{view_of, is_small}
use Rattle.zre_peer.specs.declared.causes.Cause.{Cause}
use Rattle.zre_peer.specs.declared.causes.Cause.TheVariants as cause
use Rattle.zre_peer.specs.declared.causes.RefuseWhy.TheVariants as refuse
use Rattle.zre_peer.specs.declared.causes.CloseWhy.TheVariants as close
use Rattle.zre_peer.specs.declared.causes.IgnoreWhy.TheVariants as ignore
use Rattle.zre_link.specs.Heard.{reply_fault}
use Rattle.zre_link.specs.Link.{answered, slow_at}
use Rattle.zre_link.specs.Text.{size_of}
use Rattle.zre_values.specs.declared.settings.Settings.{Settings as Config}
use Rattle.zre_journal.specs.Chronicle.{Mark, Opens, TurnsAway, Greets, Identifies, AnswersPing, Starts, Counts, Ignores, Closes, IsShut, ClosesAtStop, HearsBeacon, Ends, IsEvasive, PutsPong, Links, Sends, Joins, Leaves, Refuses, SendsBeacon, Stops, after}
use Rattle.zre_journal.specs.Connections.{open_ones, is_new, is_open, is_live, runs, identity, is_end_of, other_with}
use Rattle.zre_journal.specs.Done.{puts}
use Rattle.zre_journal.specs.Peers.{Life, lives, life, life_of, is_entered, counted}
use Rattle.zre_journal.specs.Links.{line, unsent, is_linked, replies, newly_pinged, gate, taken, groups, status}
use Rattle.zre_journal.specs.Proper.{IsProper, Apart}
use Rattle.zre_journal.specs.Pushes.{push, push_all, birth}
use Rattle.zre_journal.specs.Arrivals.{at_opened, end_of_run, at_shut, taken_over, start_unknown, start, at_first, answer_to, at_later, at_message, at_ready, at_said, at_place, at_places}
use Rattle.zre_journal.specs.Happens.{is_welcome, at_beacon, at_datagram, at_input}
use Rattle.zre_journal.specs.Heard.{newly_completed}
use Rattle.zre_journal.specs.LinkEntries.{at_linked, cause_by_reply, end_by, at_reply, at_unlinked, at_took}
use Rattle.zre_journal.specs.Ticks.{is_silent, is_evasive, probe, at_tick}
use Rattle.zre_journal.specs.Commands.{has_group, at_join, at_leave, is_too_big, at_whisper, is_member, at_shout, at_stop, at_command}
use Rattle.zre_journal.proofs.NumberedLists.{All-kept, Apart-kept, All-join}
use Rattle.zre_journal.proofs.ExpiringAtTicks.{expiring, wavering, stale, wavering_apart, excludes}
use Rattle.zre_journal.proofs.WhenMarksCome.{choice}
use Rattle.zre_net.specs.Sender.{is_slight}

abbrev pub pongs : ℕ → Mark → Bool
pongs l (PutsPong k t) = eqb l k
pongs l (Sends k n) = eqb l k
pongs l _ = false

-- nothing is put on l
abbrev pub IsQuiet : ℕ → List Mark → Type 0
IsQuiet l hs = AllByRecursion (λ h. puts l h ≡ false) hs

-- l does not end, gets no PONG, and nothing of it goes out
abbrev pub GoesOn : ℕ → List Mark → Type 0
GoesOn l hs = AllByRecursion (λ h. (is_end_of l h ≡ false) × (pongs l h ≡ false)) hs

-- neither of all that
abbrev IsFar : ℕ → List Mark → Type 0
IsFar l hs = AllByRecursion (λ h. (puts l h ≡ false) × (is_end_of l h ≡ false) × (pongs l h ≡ false)) hs

abbrev pub Fate : ℕ → List Mark → Type 0
Fate l hs = IsQuiet l hs ⊎ GoesOn l hs

far_quiet : (l : ℕ) (hs : List Mark) → IsFar l hs → IsQuiet l hs
far_quiet l [] f = tt
far_quiet l (h ∷ hs) f = (f.0.0, far_quiet l hs f.1)

far_goes : (l : ℕ) (hs : List Mark) → IsFar l hs → GoesOn l hs
far_goes l [] f = tt
far_goes l (h ∷ hs) f = ((f.0.1, f.0.2), far_goes l hs f.1)

before : (l : ℕ) (hs ks : List Mark) → IsFar l hs → Fate l ks → Fate l (hs ++ ks)
before l hs ks f (inl q) = inl (All-join (λ h. puts l h ≡ false) hs ks (far_quiet l hs f) q)
before l hs ks f (inr g) = inr (All-join (λ h. (is_end_of l h ≡ false) × (pongs l h ≡ false)) hs ks (far_goes l hs f) g)

behind : (l : ℕ) (hs ks : List Mark) → Fate l hs → IsFar l ks → Fate l (hs ++ ks)
behind l hs ks (inl q) f = inl (All-join (λ h. puts l h ≡ false) hs ks q (far_quiet l ks f))
behind l hs ks (inr g) f = inr (All-join (λ h. (is_end_of l h ≡ false) × (pongs l h ≡ false)) hs ks g (far_goes l ks f))

module _ (l : ℕ) where
  -- ---- marks that put nothing

  quiet_map : {A : Type 0} (f : A → Mark) → ((x : A) → puts l (f x) ≡ false) → (xs : List A) → IsQuiet l (map f xs)
  quiet_map f n [] = tt
  quiet_map f n (x ∷ xs) = (n x, quiet_map f n xs)

  far_map : {A : Type 0} (f : A → Mark) → ((x : A) → (puts l (f x) ≡ false) × (is_end_of l (f x) ≡ false) × (pongs l (f x) ≡ false)) → (xs : List A) → IsFar l (map f xs)
  far_map f n [] = tt
  far_map f n (x ∷ xs) = (n x, far_map f n xs)

  quiet_run : (g : Config) (o : Option ℕ) (why : Cause) → IsQuiet l (end_of_run g o why)
  quiet_run g None why = tt
  quiet_run g (Some k) why = (refl, tt)

  quiet_both : (hs ks : List Mark) → IsQuiet l hs → IsQuiet l ks → IsQuiet l (hs ++ ks)
  quiet_both hs ks a b = All-join (λ h. puts l h ≡ false) hs ks a b

  abbrev F : List Mark → Type 0
  F hs = Fate l hs

  module _ (g : Config) where
    -- ---- pushes

    push_fate : (k : ℕ) (b : Body) (I : List Mark) → Fate l (push g k b I)
    push_fate k b I = choice (λ hs. Fate l hs) (ltb UNSENT_OCTETS (unsent g k I + size_of (line k I) b)) _ _ (λ e. inl (refl, tt)) (λ e. inr ((refl, refl), tt))

    push_far : (k : ℕ) (b : Body) (I : List Mark) → eqb l k ≡ false → IsFar l (push g k b I)
    push_far k b I n = choice (λ hs. IsFar l hs) (ltb UNSENT_OCTETS (unsent g k I + size_of (line k I) b)) _ _ (λ e. ((refl, n, refl), tt)) (λ e. ((n, refl, refl), tt))

    abbrev AllFar : List Life → Type 0
    AllFar vs = AllByRecursion (λ (v : Life). eqb l v.link ≡ false) vs

    -- those after the one with number l are others
    others : (v : Life) (vs : List Life) → eqb l v.link ≡ true → AllByRecursion (λ (u : Life). eqb v.link u.link ≡ false) vs → AllFar vs
    others v vs e a = subst (λ n. AllByRecursion (λ (u : Life). eqb n u.link ≡ false) vs) (sym (eqb-true l v.link e)) a

    pushes_far : (b : Body) (vs : List Life) (I : List Mark) → AllFar vs → IsFar l (push_all g vs b I)
    pushes_far b [] I n = tt
    pushes_far b (v ∷ vs) I n = let p = push g v.link b I in All-join (λ h. (puts l h ≡ false) × (is_end_of l h ≡ false) × (pongs l h ≡ false)) p (push_all g vs b (after p I)) (push_far v.link b I n.0) (pushes_far b vs (after p I) n.1)

    pushes_fate : (b : Body) (vs : List Life) (I : List Mark) → Apart (λ (v : Life). v.link) vs → Fate l (push_all g vs b I)
    pushes_fate b [] I a = inl tt
    pushes_fate b (v ∷ vs) I a = by (eqb l v.link) refl (λ J. pushes_fate b vs J a.1)
      where
        by : (t : Bool) → eqb l v.link ≡ t → ((J : List Mark) → Fate l (push_all g vs b J)) → Fate l (push_all g (v ∷ vs) b I)
        by true e r = let p = push g v.link b I in behind l p (push_all g vs b (after p I)) (push_fate v.link b I) (pushes_far b vs (after p I) (others v vs e a.0))
        by false e r = let p = push g v.link b I in before l p (push_all g vs b (after p I)) (push_far v.link b I e) (r (after p I))

    probes_far : (vs : List Life) (I : List Mark) → AllFar vs → IsFar l (probe g vs I)
    probes_far [] I n = tt
    probes_far (v ∷ vs) I n = let p = IsEvasive v.link ∷ push g v.link body.Ping I in
        All-join (λ h. (puts l h ≡ false) × (is_end_of l h ≡ false) × (pongs l h ≡ false)) p (probe g vs (after p I)) ((refl, refl, refl), push_far v.link body.Ping I n.0) (probes_far vs (after p I) n.1)

    probes_fate : (vs : List Life) (I : List Mark) → Apart (λ (v : Life). v.link) vs → Fate l (probe g vs I)
    probes_fate [] I a = inl tt
    probes_fate (v ∷ vs) I a = by (eqb l v.link) refl (λ J. probes_fate vs J a.1)
      where
        by : (t : Bool) → eqb l v.link ≡ t → ((J : List Mark) → Fate l (probe g vs J)) → Fate l (probe g (v ∷ vs) I)
        by true e r = let p = push g v.link body.Ping I in let q = IsEvasive v.link ∷ p in
            behind l q (probe g vs (after q I)) (before l (IsEvasive v.link ∷ []) p ((refl, refl, refl), tt) (push_fate v.link body.Ping I)) (probes_far vs (after q I) (others v vs e a.0))
        by false e r = let p = push g v.link body.Ping I in let q = IsEvasive v.link ∷ p in
            before l q (probe g vs (after q I)) ((refl, refl, refl), push_far v.link body.Ping I e) (r (after q I))

    -- ---- the tick

    -- of those that pass two tests, of which no thing passes both, those of one are others than l
    one_far : (s t : Life → Bool) → ((v : Life) → s v ≡ true → t v ≡ false) → (vs : List Life) → Apart (λ (v : Life). v.link) vs → AllFar (filter s vs) ⊎ AllFar (filter t vs)
    one_far s t x [] a = inl tt
    one_far s t x (v ∷ vs) a = by (eqb l v.link) refl (s v) refl (t v) refl (one_far s t x vs a.1)
      where
        one_more : eqb l v.link ≡ false → (d : Bool) (ws : List Life) → AllFar ws → AllFar (cond d (v ∷ ws) ws)
        one_more n true ws f = (n, f)
        one_more n false ws f = f

        by : (m : Bool) → eqb l v.link ≡ m → (b : Bool) → s v ≡ b → (d : Bool) → t v ≡ d → AllFar (filter s vs) ⊎ AllFar (filter t vs) → AllFar (cond b (v ∷ filter s vs) (filter s vs)) ⊎ AllFar (cond d (v ∷ filter t vs) (filter t vs))
        by true e true p d q r = inr (subst (λ z. AllFar (cond z (v ∷ filter t vs) (filter t vs))) (sym (x v p) ∙ q) (All-kept (λ (u : Life). eqb l u.link ≡ false) t vs (others v vs e a.0)))
        by true e false p d q r = inl (All-kept (λ (u : Life). eqb l u.link ≡ false) s vs (others v vs e a.0))
        by false e b p d q (inl f) = inl (one_more e b (filter s vs) f)
        by false e b p d q (inr f) = inr (one_more e d (filter t vs) f)

    ends_far : (why : Cause) (vs : List Life) → AllFar vs → IsFar l (map (λ (v : Life). Ends v.link why) vs)
    ends_far why [] n = tt
    ends_far why (v ∷ vs) n = ((refl, n.0, refl), ends_far why vs n.1)

    module _ (K : List Mark) (q : IsProper K) where
      abbrev gone : List Mark
      gone = map (λ (v : Life). Ends v.link cause.Expired) (expiring g K)

      abbrev shut : List Mark
      shut = map (λ c. Closes c close.Timeout) (stale g K)

      shut_far : IsFar l shut
      shut_far = far_map (λ c. Closes c close.Timeout) (λ c. (refl, refl, refl)) (stale g K)

      tick_fate : Fate l (at_tick g K)
      tick_fate = behind l (gone ++ probe g (wavering g K) K ++ shut) (SendsBeacon g.port ∷ []) (behind l (gone ++ probe g (wavering g K) K) shut (by (one_far (is_silent g g.expired K) (is_evasive g K) (excludes g K) (lives K) q.living.apart)) shut_far) ((refl, refl, refl), tt)
        where
          by : AllFar (expiring g K) ⊎ AllFar (wavering g K) → Fate l (gone ++ probe g (wavering g K) K)
          by (inl f) = before l gone (probe g (wavering g K) K) (ends_far cause.Expired (expiring g K) f) (probes_fate (wavering g K) K (wavering_apart g K q))
          by (inr f) = behind l gone (probe g (wavering g K) K) (inl (quiet_map (λ (v : Life). Ends v.link cause.Expired) (λ v. refl) (expiring g K))) (probes_far (wavering g K) K f)

      -- ---- commands

      one : (h : Mark) → puts l h ≡ false → Fate l (h ∷ [])
      one h n = inl (n, tt)

      after_one : (h : Mark) (hs : List Mark) → (puts l h ≡ false) × (is_end_of l h ≡ false) × (pongs l h ≡ false) → Fate l hs → Fate l (h ∷ hs)
      after_one h hs n f = before l (h ∷ []) hs (n, tt) f

      stop_fate : Fate l (at_stop g K)
      stop_fate = inl (quiet_both (map (λ (v : Life). Ends v.link cause.Stop) (lives K) ++ map (λ c. ClosesAtStop c) (open_ones K)) (SendsBeacon 0 ∷ Stops ∷ [])
          (quiet_both (map (λ (v : Life). Ends v.link cause.Stop) (lives K)) (map (λ c. ClosesAtStop c) (open_ones K))
          (quiet_map (λ (v : Life). Ends v.link cause.Stop) (λ v. refl) (lives K)) (quiet_map (λ c. ClosesAtStop c) (λ c. refl) (open_ones K))) (refl, (refl, tt)))

      join_fate : (group : List ℕ) → Fate l (at_join g group K)
      join_fate group = choice F (ltb GROUP_OCTETS (length group)) _ _ (λ z. one (Refuses refuse.TooBig) refl)
          (λ z. choice F (has_group group (groups K)) _ _ (λ y. one (Refuses (refuse.Same group)) refl)
          (λ y. choice F (leb OWN_GROUPS (length (groups K))) _ _ (λ x. one (Refuses (refuse.Limit group)) refl)
          (λ x. let ps = push_all g (lives K) (body.Join group ((status K + 1) % 256)) K in after_one (Joins group) ps (refl, refl, refl) (pushes_fate (body.Join group ((status K + 1) % 256)) (lives K) K q.living.apart))))

      leave_fate : (group : List ℕ) → Fate l (at_leave g group K)
      leave_fate group = choice F (has_group group (groups K)) _ _
          (λ z. let ps = push_all g (lives K) (body.Leave group ((status K + 1) % 256)) K in after_one (Leaves group) ps (refl, refl, refl) (pushes_fate (body.Leave group ((status K + 1) % 256)) (lives K) K q.living.apart))
          (λ z. one (Refuses (refuse.NoGroup group)) refl)

      whisper_fate : (p : PeerId) (content : List (List ℕ)) (o : Option Life) → Fate l (at_whisper g p content o K)
      whisper_fate p content None = one (Refuses (refuse.NoPeer p)) refl
      whisper_fate p content (Some v) = choice F (not (is_entered K v)) _ _ (λ z. one (Refuses (refuse.NoPeer p)) refl)
          (λ z. choice F (is_too_big g (body.Whisper content)) _ _ (λ y. one (Refuses refuse.TooBig) refl) (λ y. push_fate v.link (body.Whisper content) K))

      shout_fate : (group : List ℕ) (content : List (List ℕ)) → Fate l (at_shout g group content K)
      shout_fate group content = choice F (ltb GROUP_OCTETS (length group) || is_too_big g (body.Shout group content)) _ _ (λ z. one (Refuses refuse.TooBig) refl)
          (λ z. pushes_fate (body.Shout group content) (filter (is_member g group K) (lives K)) K (Apart-kept (λ (v : Life). v.link) (is_member g group K) (lives K) q.living.apart))

      command_fate : (c : Command) → Fate l (at_command g c K)
      command_fate (command.Join group) = join_fate group
      command_fate (command.Leave group) = leave_fate group
      command_fate (command.Whisper p content) = whisper_fate p content (life_of p K)
      command_fate (command.Shout group content) = shout_fate group content
      command_fate (command.Bad n) = one (Refuses (refuse.BadLine n)) refl
      command_fate command.Quit = stop_fate

      -- ---- datagrams and links

      birth_fate : (p : PeerId) (e : Endpoint) → GoesOn l (birth g p e K)
      birth_fate p e = ((refl, refl), ((refl, refl), tt))

      datagram_fate : (from : List ℕ) (b : Option (PeerId × ℕ)) → Fate l (at_datagram g from b K)
      datagram_fate from None = inl tt
      datagram_fate from (Some b) = by (life_of b.0 K)
        where
          by : (o : Option Life) → Fate l (at_beacon g from b.0 b.1 o K)
          by (Some v) = choice F (eqb b.1 0) _ _ (λ z. one (Ends v.link cause.Beacon) refl) (λ z. one (HearsBeacon v.link) refl)
          by None = choice F (is_welcome g b.0 b.1 (length (lives K))) _ _ (λ z. inr (birth_fate b.0 (record { addr = from; port = b.1 }))) (λ z. inl tt)

      reply_fate : (k : ℕ) (H : List Mark) (o : Option Life) → Fate l (at_reply g k o H K)
      reply_fate k H None = inl tt
      reply_fate k H (Some v) = choice F (is_linked k K) _ _ (λ z. inl (quiet_both (map (λ t. PutsPong k t) (answered (unsent g k K) (newly_pinged k H K))) (end_by g k why) (quiet_map (λ t. PutsPong k t) (λ t. refl) (answered (unsent g k K) (newly_pinged k H K))) (end why))) (λ z. inl tt)
        where
          why : Option Cause
          why = cause_by_reply (slow_at (unsent g k K) (newly_pinged k H K)) (reply_fault (replies k K))

          end : (o : Option Cause) → IsQuiet l (end_by g k o)
          end None = tt
          end (Some w) = (refl, tt)

      -- ---- one place of a connection

      answer_fate : (k : ℕ) (b : Body) → Fate l (answer_to g k b K)
      answer_fate k body.Ping = push_fate k body.PingOk K
      answer_fate k _ = inl tt

      later_fate : (c k : ℕ) (m : Message) → Fate l (at_later g c k m K)
      later_fate c k m = choice F (is_hello m.body) _ _ (λ z. one (Ends k cause.Hello) refl)
          (λ z. choice F (not (eqb m.sequence (due (counted k K)))) _ _ (λ y. one (Ends k (cause.Order (due (counted k K)) m.sequence)) refl)
          (λ y. choice F (not (is_small (view_of (counted k K ++ m ∷ [])))) _ _ (λ x. one (Ends k cause.Limit) refl)
          (λ x. after_one (Counts c k m) (answer_to g k m.body K) (refl, refl, refl) (answer_fate k m.body))))

      start_fate : (c : ℕ) (p : PeerId) (m : Message) (o : Option Life) → Fate l (start g c p m o K)
      start_fate c p m (Some v) = one (Starts c v.link m) refl
      start_fate c p m None = by (endpoint_in (view_of (m ∷ [])).endpoint)
        where
          by : (o : Option Endpoint) → Fate l (start_unknown g c p m o K)
          by None = one (Ignores c ignore.NoEndpoint) refl
          by (Some e) = choice F (ltb (length (lives K)) PEERS) _ _ (λ z. inr ((refl, refl), ((refl, refl), ((refl, refl), tt)))) (λ z. one (Ignores c ignore.Full) refl)

      first_fate : (c : ℕ) (o : Option PeerId) (m : Message) → Fate l (at_first g c o m K)
      first_fate c None m = inl tt
      first_fate c (Some p) m = choice F (not (is_hello m.body && eqb m.sequence 1)) _ _ (λ z. one (Ignores c ignore.NotHello) refl)
          (λ z. choice F (not (is_small (view_of (m ∷ [])))) _ _ (λ y. one (Ignores c ignore.Limit) refl) (λ y. start_fate c p m (life_of p K)))

      message_fate : (c : ℕ) (o : Option ℕ) (m : Message) → Fate l (at_message g c o m K)
      message_fate c None m = first_fate c (identity c K) m
      message_fate c (Some k) m = later_fate c k m

      taken_quiet : (o : Option ℕ) → IsQuiet l (taken_over g o K)
      taken_quiet None = tt
      taken_quiet (Some d) = quiet_both (end_of_run g (runs d K) cause.Taken) (Closes d close.Taken ∷ []) (quiet_run g (runs d K) cause.Taken) (refl, tt)

      shaken_fate : (c : ℕ) (p : PeerId) (o : Option PeerId) → Fate l (at_ready g c p o K)
      shaken_fate c p (Some i) = inl tt
      shaken_fate c p None = inl (quiet_both (taken_over g (other_with p c K) K) (Identifies c p ∷ []) (taken_quiet (other_with p c K)) (refl, tt))

      said_fate : (c : ℕ) (said : Said) → Fate l (at_said g c said K)
      said_fate c (Arrived arrival.Greeted) = one (Greets c) refl
      said_fate c (Arrived (arrival.Shaken p)) = shaken_fate c p (identity c K)
      said_fate c (Arrived (arrival.Ping t)) = one (AnswersPing c t) refl
      said_fate c (Arrived (arrival.Message m)) = message_fate c (runs c K) m
      said_fate c (Fault f) = inl (quiet_both (end_of_run g (runs c K) cause.Fault) (Closes c (close.Zmtp f) ∷ []) (quiet_run g (runs c K) cause.Fault) (refl, tt))

      place_fate : (c : ℕ) (said : Said) → Fate l (at_place g c said K)
      place_fate c said = choice F (is_live c K) _ _ (λ e. said_fate c said) (λ e. inl tt)

      -- at most one place
      places_fate : (c : ℕ) (all : List Said) → length all ≤ 1 → Fate l (at_places g c all K)
      places_fate c [] few = inl tt
      places_fate c (said ∷ []) few = behind l (at_place g c said K) [] (place_fate c said) tt
      places_fate c (said ∷ next ∷ more) few = absurd (omega (arith, few))

      opened_fate : (c : ℕ) → Fate l (at_opened g c K)
      opened_fate c = choice F (is_new c K) _ _ (λ z. choice F (ltb (length (open_ones K)) CONNECTIONS) _ _ (λ y. one (Opens c) refl) (λ y. one (TurnsAway c) refl)) (λ z. inl tt)

      shut_fate : (c : ℕ) → Fate l (at_shut g c K)
      shut_fate c = choice F (is_open c K) _ _ (λ z. inl (quiet_both (end_of_run g (runs c K) cause.Shut) (IsShut c ∷ []) (quiet_run g (runs c K) cause.Shut) (refl, tt))) (λ z. inl tt)

      linked_fate : (k : ℕ) (o : Option Life) → Fate l (at_linked g k o K)
      linked_fate k None = inl tt
      linked_fate k (Some v) = choice F (is_linked k K) _ _ (λ z. inl tt) (λ z. one (Links k) refl)

      unlinked_fate : (k : ℕ) (o : Option Life) → Fate l (at_unlinked g k o)
      unlinked_fate k None = inl tt
      unlinked_fate k (Some v) = one (Ends k cause.Link) refl

      took_fate : (k n : ℕ) (o : Option Life) → Fate l (at_took g k n o K)
      took_fate k n None = inl tt
      took_fate k n (Some v) = one (Sends k (min n (gate g k K - taken k K))) refl

      -- ---- an entry

      pub input_fate : (i : Input) (H : List Mark) → is_slight g i H K → Fate l (at_input g i H K)
      input_fate (input.Datagram from o) H s = datagram_fate from (beacon_in o)
      input_fate (input.Opened c) H s = opened_fate c
      input_fate (input.Piece c o) H s = places_fate c (newly_completed g.id c H K) s
      input_fate (input.Shut c) H s = shut_fate c
      input_fate (input.Linked k) H s = linked_fate k (life k K)
      input_fate (input.Reply k o) H s = reply_fate k H (life k K)
      input_fate (input.Unlinked k) H s = unlinked_fate k (life k K)
      input_fate (input.Took k n) H s = took_fate k n (life k K)
      input_fate input.Tick H s = tick_fate
      input_fate (input.Do c) H s = command_fate c
      input_fate input.End H s = stop_fate

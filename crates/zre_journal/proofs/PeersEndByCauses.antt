-- What comes about at a place ends a known peer as the table of causes says.
use Rattle.std.proofs.Common.{◌≡◌, ℕ, ◌+◌, ◌%◌, Bool, true, false, cond, not, ◌&&◌, ◌||◌, eqb, ltb, leb, List, [], ◌∷◌, ◌++◌, length, map, Option, Some, None, filter, refl, sym, ap, ◌∙◌, subst, eq-eqb, eqb-true, append-nil}
use Rattle.std.proofs.Math.Bool.{and-false, and-true}
use Rattle.std.proofs.lemmas.List.Elements.{filter_map-append}
use Rattle.std.specs.List.{AllByRecursion, cons_option}
use Rattle.std.specs.Option.{option_and_then}
use Rattle.std.specs.Str.{bytes_eq}
use Rattle.zre_values.specs.declared.limits.TheConstants.{PEERS, CONNECTIONS, UNSENT_OCTETS, OWN_GROUPS, GROUP_OCTETS}
use Rattle.zre_values.specs.declared.peer_id.PeerId.{PeerId}
use Rattle.zre_values.specs.declared.endpoint.Endpoint.{Endpoint}
use Rattle.zre_values.specs.Endpoint.{endpoint_in}
use Rattle.zre_beacon.specs.Beacon.{beacon_in}
use Rattle.zre_mailbox.specs.declared.arrival.Arrival.TheVariants as arrival
use Rattle.zre_mailbox.specs.Talk.{Said, Arrived, Fault}
use Rattle.zre_msg.specs.declared.message.Body.{Body}
use Rattle.zre_msg.specs.declared.message.Body.TheVariants as body
use Rattle.zre_msg.specs.declared.message.Message.{Message}
use Rattle.zre_link.specs.Heard.{reply_fault}
use Rattle.zre_link.specs.Link.{answered, slow_at}
use Rattle.zre_link.specs.Text.{size_of}
use Rattle.zre_outside.specs.declared.entry.Command.{Command}
use Rattle.zre_outside.specs.declared.entry.Command.TheVariants as command
use Rattle.zre_outside.specs.declared.entry.Entry.{Entry}
use Rattle.zre_outside.specs.declared.entry.Input.{Input}
use Rattle.zre_outside.specs.declared.entry.Input.TheVariants as input
use Rattle.zre_peer.specs.Runs.{is_hello, due}
use Rattle.zre_peer.specs.Views.{view_of, is_small}
use Rattle.zre_peer.specs.declared.causes.Cause.{Cause}
use Rattle.zre_peer.specs.declared.causes.Cause.TheVariants as cause
use Rattle.zre_peer.specs.declared.causes.CloseWhy.TheVariants as close
use Rattle.zre_peer.specs.declared.causes.RefuseWhy.TheVariants as refuse
use Rattle.zre_values.specs.declared.settings.Settings.{Settings as Config}
use Rattle.zre_journal.specs.Arrivals.{at_opened, at_shut, end_of_run, taken_over, start_unknown, start, at_first, answer_to, at_later, at_message, at_ready, at_said, at_place}
use Rattle.zre_journal.specs.Causes.{where_so, is_run_by, is_last_beacon, may_join, due_by, slow_by, cause_at, answer_due, cause_of_message, cause_said, end_of, ends_in, EndsByTable}
use Rattle.zre_journal.specs.Chronicle.{Mark, Comes, Ends, Counts, Closes, ClosesAtStop, IsShut, IsEvasive, Puts, PutsPong, Joins, Leaves, Refuses, HearsBeacon, in_turn}
use Rattle.zre_journal.specs.Commands.{has_group, is_too_big, is_member, at_join, at_leave, at_whisper, at_shout, at_stop, at_command}
use Rattle.zre_journal.specs.Connections.{open_ones, is_open, is_new, identity, runs, is_live, other_with}
use Rattle.zre_journal.specs.Events.{chronicle}
use Rattle.zre_journal.specs.Happens.{is_welcome, at_beacon, at_datagram, at_input}
use Rattle.zre_journal.specs.LinkEntries.{cause_by_reply, at_linked, end_by, at_reply, at_unlinked, at_took}
use Rattle.zre_journal.specs.Links.{groups, status, line, is_linked, replies, newly_pinged, taken, unsent}
use Rattle.zre_journal.specs.Peers.{Life, lives, life, life_of, is_entered, counted}
use Rattle.zre_journal.specs.Places.{is_piece}
use Rattle.zre_journal.specs.Proper.{IsProper}
use Rattle.zre_journal.specs.Pushes.{push, push_all, birth}
use Rattle.zre_journal.specs.Ticks.{is_silent, is_evasive, is_stale, probe, at_tick}
use Rattle.zre_journal.proofs.WithinCounts.{AreNamed, named}
use Rattle.zre_journal.proofs.KnownPeers.{end_all, same_id}
use Rattle.zre_journal.proofs.PlacesInLedgers.{its_moment}
use Rattle.zre_journal.proofs.WhenMarksCome.{choice}
use Rattle.zre_journal.proofs.BroughtInTurn.{same_push, far_stays, all_turns, some_turns, Meets, Same, Other, meets}
use Rattle.zre_journal.proofs.ProperChronicles.{comes_proper}
use Rattle.zre_journal.proofs.MarksOfTicks.{E, F, C}

-- ---- marks that end nobody

abbrev Calm : Mark → Type 0
Calm (Ends k why) = ⊥
Calm _ = Unit {0}

abbrev AreCalm : List Mark → Type 0
AreCalm hs = AllByRecursion Calm hs

calm_map : {A : Type 0} (f : A → Mark) → ((x : A) → Calm (f x)) → (xs : List A) → AreCalm (map f xs)
calm_map f c [] = tt
calm_map f c (x ∷ xs) = (c x, calm_map f c xs)

module _ (l : ℕ) where
  calm_none : (hs : List Mark) → AreCalm hs → ends_in l hs ≡ []
  calm_none [] a = refl
  calm_none (h ∷ hs) a = one h a.0 (calm_none hs a.1)
    where
      one : (h : Mark) → Calm h → ends_in l hs ≡ [] → ends_in l (h ∷ hs) ≡ []
      one (Ends k why) z r = absurd z
      one _ z r = r

  calm_then : (hs ks : List Mark) → AreCalm hs → ends_in l (hs ++ ks) ≡ ends_in l ks
  calm_then hs ks a = filter_map-append (end_of l) hs ks ∙ ap (λ xs. xs ++ ends_in l ks) (calm_none hs a)

  then_calm : (hs ks : List Mark) → AreCalm ks → ends_in l (hs ++ ks) ≡ ends_in l hs
  then_calm hs ks a = filter_map-append (end_of l) hs ks ∙ ap (λ xs. ends_in l hs ++ xs) (calm_none ks a) ∙ append-nil (ends_in l hs)

  -- a push on another link
  far_push : (g : Config) (k : ℕ) (b : Body) (I : List Mark) → eqb l k ≡ false → ends_in l (push g k b I) ≡ []
  far_push g k b I far = choice (λ hs. ends_in l hs ≡ []) (ltb UNSENT_OCTETS (unsent g k I + size_of (line k I) b)) _ _ (λ z. rw far refl) (λ z. refl)

  -- and one on its own
  own_push : (g : Config) (b : Body) (I : List Mark) → ends_in l (push g l b I) ≡ cons_option (slow_by g l (Some b) I) []
  own_push g b I = by (ltb UNSENT_OCTETS (unsent g l I + size_of (line l I) b))
    where
      by : (t : Bool) → ends_in l (cond t (Ends l (cause.Slow (unsent g l I) (size_of (line l I) b)) ∷ []) (Puts l b ∷ [])) ≡ cons_option (where_so t (cause.Slow (unsent g l I) (size_of (line l I) b))) []
      by true = rw (eq-eqb l l refl) refl
      by false = refl

run_ends : (g : Config) (v : Life) (o : Option ℕ) (why : Cause) → ends_in v.link (end_of_run g o why) ≡ cons_option (where_so (is_run_by o v) why) []
run_ends g v None why = refl
run_ends g v (Some k) why = refl

-- ---- of many lives

-- the ends of many come in turn
in_turn_ends : (why : Cause) (us : List Life) (J : List Mark) → end_all why us ≡ in_turn (λ (u : Life) I. Ends u.link why ∷ []) us J
in_turn_ends why [] J = refl
in_turn_ends why (u ∷ us) J = ap (λ hs. Ends u.link why ∷ hs) (in_turn_ends why us (Ends u.link why ∷ J))

-- ---- one known peer

module _ (g : Config) (K : List Mark) (q : IsProper K) (names : AreNamed K) (v : Life) (known : life v.link K ≡ Some v) where
  abbrev l : ℕ
  l = v.link

  me : eqb l l ≡ true
  me = eq-eqb l l refl

  nobody : (p : PeerId) → life_of p K ≡ None → bytes_eq p.0 v.id.0 ≡ false
  nobody p e = by (bytes_eq p.0 v.id.0) refl
    where
      by : (t : Bool) → bytes_eq p.0 v.id.0 ≡ t → t ≡ false
      by false z = refl
      by true z = let both : None ≡ Some v = sym e ∙ ap (λ i. life_of i K) (sym (same_id p v.id z)) ∙ names l v known in cc

  -- one that isn't known by this link is another one
  other_link : (k : ℕ) → life k K ≡ None → eqb l k ≡ false
  other_link k e = by (eqb l k) refl
    where
      by : (t : Bool) → eqb l k ≡ t → t ≡ false
      by false z = refl
      by true z = let both : None ≡ Some v = sym e ∙ ap (λ i. life i K) (sym (eqb-true l k z)) ∙ known in cc

  -- ---- the ends of many, and messages to many

  joins : (hs ks : List Mark) → ends_in l (hs ++ ks) ≡ ends_in l hs ++ ends_in l ks
  joins hs ks = filter_map-append (end_of l) hs ks

  module _ (why : Cause) where
    abbrev end_out : Bool → List Cause
    end_out d = cons_option (where_so d why) []

    abbrev end_each : Life → List Mark → List Mark
    end_each u J = Ends u.link why ∷ []

    all_end : ends_in l (end_all why (lives K)) ≡ why ∷ []
    all_end = ap (ends_in l) (in_turn_ends why (lives K) K) ∙ all_turns (ends_in l) refl joins v K end_out refl end_each (λ u J z. rw z refl) (λ J x y. rw me refl) (λ u J z. (refl, refl)) q.living.apart known

    some_end : (t : Life → Bool) → ends_in l (end_all why (filter t (lives K))) ≡ end_out (t v)
    some_end t = ap (ends_in l) (in_turn_ends why (filter t (lives K)) K) ∙ some_turns (ends_in l) refl joins v K end_out refl end_each (λ u J z. rw z refl) (λ J x y. rw me refl) (λ u J z. (refl, refl)) q.living.apart known t

  module _ (b : Body) where
    abbrev push_out : Bool → List Cause
    push_out d = cons_option (slow_by g l (where_so d b) K) []

    abbrev push_each : Life → List Mark → List Mark
    push_each u J = push g u.link b J

    own_out : (J : List Mark) → line l J ≡ line l K → taken l J ≡ taken l K → ends_in l (push g l b J) ≡ push_out true
    own_out J x y = ap (ends_in l) (same_push g l b J K x y) ∙ own_push l g b K

    pushes : ends_in l (push_all g (lives K) b K) ≡ push_out true
    pushes = all_turns (ends_in l) refl joins v K push_out refl push_each (λ u J z. far_push l g u.link b J z) own_out (λ u J z. far_stays g l u.link b J J z) q.living.apart known

    some_pushes : (t : Life → Bool) → ends_in l (push_all g (filter t (lives K)) b K) ≡ push_out (t v)
    some_pushes t = some_turns (ends_in l) refl joins v K push_out refl push_each (λ u J z. far_push l g u.link b J z) own_out (λ u J z. far_stays g l u.link b J J z) q.living.apart known t

  probes : (t : Life → Bool) → ends_in l (probe g (filter t (lives K)) K) ≡ cons_option (slow_by g l (where_so (t v) body.Ping) K) []
  probes t = some_turns (ends_in l) refl joins v K (push_out body.Ping) refl (λ (u : Life) J. IsEvasive u.link ∷ push g u.link body.Ping J) (λ u J z. far_push l g u.link body.Ping J z) (own_out body.Ping)
      (λ u J z. far_stays g l u.link body.Ping J (IsEvasive u.link ∷ J) z) q.living.apart known t

  -- ---- entries

  abbrev Is : List Mark → Option Cause → Type 0
  Is hs o = ends_in l hs ≡ cons_option o []

  datagram : (from : List ℕ) (b : Option (PeerId × ℕ)) → Is (at_datagram g from b K) (where_so (is_last_beacon v b) cause.Beacon)
  datagram from None = refl
  datagram from (Some b) = by (life_of b.0 K) refl
    where
      met : (u : Life) → Meets v b.0 u → (t : Bool) → Is (cond t (Ends u.link cause.Beacon ∷ []) (HearsBeacon u.link ∷ [])) (where_so (bytes_eq b.0.0 v.id.0 && t) cause.Beacon)
      met u (Same z is) true = rw z (let me : eqb l u.link ≡ true = eq-eqb l u.link (ap (λ (w : Life). w.link) (sym is)) in rw me refl)
      met u (Same z is) false = rw z refl
      met u (Other z far) true = rw (z, far) refl
      met u (Other z far) false = rw z refl

      by : (o : Option Life) → life_of b.0 K ≡ o → Is (at_beacon g from b.0 b.1 o K) (where_so (bytes_eq b.0.0 v.id.0 && eqb b.1 0) cause.Beacon)
      by (Some u) e = met u (meets K q names v known b.0 u e) (eqb b.1 0)
      by None e = rw (nobody b.0 e) (choice (λ hs. ends_in l hs ≡ []) (is_welcome g b.0 b.1 (length (lives K))) (birth g b.0 (record { addr = from; port = b.1 }) K) [] (λ z. calm_none l (birth g b.0 (record { addr = from; port = b.1 }) K) (tt, (tt, tt))) (λ z. refl))

  shut : (c : ℕ) → Is (at_shut g c K) (where_so (is_open c K && is_run_by (runs c K) v) cause.Shut)
  shut c = by (is_open c K)
    where
      by : (t : Bool) → Is (cond t (end_of_run g (runs c K) cause.Shut ++ IsShut c ∷ []) []) (where_so (t && is_run_by (runs c K) v) cause.Shut)
      by true = then_calm l (end_of_run g (runs c K) cause.Shut) _ (tt, tt) ∙ run_ends g v (runs c K) cause.Shut
      by false = refl

  by_end : (k : ℕ) (o : Option Cause) → ends_in l (end_by g k o) ≡ cons_option (cond (eqb l k) o None) []
  by_end k None = at (eqb l k)
    where
      at : (t : Bool) → ends_in l [] ≡ cons_option (cond t None None) []
      at true = refl
      at false = refl
  by_end k (Some why) = refl

  reply : (k : ℕ) (H : List Mark) → let why = cause_by_reply (slow_at (unsent g k K) (newly_pinged k H K)) (reply_fault (replies k K)) in Is (at_reply g k (life k K) H K) (cond (eqb l k && is_linked k K) why None)
  reply k H = by (life k K) refl
    where
      why : Option Cause
      why = cause_by_reply (slow_at (unsent g k K) (newly_pinged k H K)) (reply_fault (replies k K))

      at : (t : Bool) → Is (cond t (map (λ c. PutsPong k c) (answered (unsent g k K) (newly_pinged k H K)) ++ end_by g k why) []) (cond (eqb l k && t) why None)
      at true = calm_then l _ _ (calm_map (λ c. PutsPong k c) (λ c. tt) (answered (unsent g k K) (newly_pinged k H K))) ∙ by_end k why ∙ ap (λ t. cons_option (cond t why None) []) (sym (and-true (eqb l k)))
      at false = ap (λ t. cons_option (cond t why None) []) (sym (and-false (eqb l k)))

      by : (o : Option Life) → life k K ≡ o → Is (at_reply g k o H K) (cond (eqb l k && is_linked k K) why None)
      by (Some u) e = at (is_linked k K)
      by None e = rw (other_link k e) refl

  unlinked : (k : ℕ) → Is (at_unlinked g k (life k K)) (where_so (eqb l k) cause.Link)
  unlinked k = by (life k K) refl
    where
      by : (o : Option Life) → life k K ≡ o → Is (at_unlinked g k o) (where_so (eqb l k) cause.Link)
      by (Some u) e = refl
      by None e = rw (other_link k e) refl

  tick : Is (at_tick g K) (cond (is_silent g g.expired K v) (Some cause.Expired) (slow_by g l (where_so (is_evasive g K v) body.Ping) K))
  tick = then_calm l (E g K ++ F g K ++ C g K) _ (tt, tt) ∙ then_calm l (E g K ++ F g K) (C g K) (calm_map (λ c. Closes c close.Timeout) (λ c. tt) (filter (is_stale g K) (open_ones K)))
      ∙ filter_map-append (end_of l) (E g K) (F g K) ∙ ap (λ xs. xs ++ ends_in l (F g K)) (some_end cause.Expired (is_silent g g.expired K)) ∙ ap (λ xs. cons_option (where_so (is_silent g g.expired K v) cause.Expired) [] ++ xs) (probes (is_evasive g K))
      ∙ by (is_silent g g.expired K v) refl
    where
      spared : (x y : Bool) → (x && not true && y) ≡ false
      spared true y = refl
      spared false y = refl

      by : (t : Bool) → is_silent g g.expired K v ≡ t
          → cons_option (where_so t cause.Expired) [] ++ cons_option (slow_by g l (where_so (is_evasive g K v) body.Ping) K) [] ≡ cons_option (cond t (Some cause.Expired) (slow_by g l (where_so (is_evasive g K v) body.Ping) K)) []
      by true z =
          let none : is_evasive g K v ≡ false = ap (λ s. is_entered K v && not s && is_silent g g.evasive K v) z ∙ spared (is_entered K v) (is_silent g g.evasive K v) in
          ap (λ s. cause.Expired ∷ cons_option (slow_by g l (where_so s body.Ping) K) []) none
      by false z = refl

  stop : Is (at_stop g K) (Some cause.Stop)
  stop = then_calm l (end_all cause.Stop (lives K) ++ map (λ c. ClosesAtStop c) (open_ones K)) _ (tt, (tt, tt))
      ∙ then_calm l (end_all cause.Stop (lives K)) _ (calm_map (λ c. ClosesAtStop c) (λ c. tt) (open_ones K)) ∙ all_end cause.Stop

  join : (group : List ℕ) → Is (at_join g group K) (slow_by g l (where_so (may_join g group K) (body.Join group ((status K + 1) % 256))) K)
  join group = by (ltb GROUP_OCTETS (length group)) (has_group group (groups K)) (leb OWN_GROUPS (length (groups K)))
    where
      b : Body
      b = body.Join group ((status K + 1) % 256)

      by : (x y z : Bool) → Is (cond x (Refuses refuse.TooBig ∷ []) (cond y (Refuses (refuse.Same group) ∷ []) (cond z (Refuses (refuse.Limit group) ∷ []) (Joins group ∷ push_all g (lives K) b K)))) (slow_by g l (where_so (not x && (not y && not z)) b) K)
      by true y z = refl
      by false true z = refl
      by false false true = refl
      by false false false = pushes b

  leave : (group : List ℕ) → Is (at_leave g group K) (slow_by g l (where_so (has_group group (groups K)) (body.Leave group ((status K + 1) % 256))) K)
  leave group = by (has_group group (groups K))
    where
      b : Body
      b = body.Leave group ((status K + 1) % 256)

      by : (x : Bool) → Is (cond x (Leaves group ∷ push_all g (lives K) b K) (Refuses (refuse.NoGroup group) ∷ [])) (slow_by g l (where_so x b) K)
      by true = pushes b
      by false = refl

  whisper : (p : PeerId) (content : List (List ℕ)) → Is (at_whisper g p content (life_of p K) K) (slow_by g l (due_by g (command.Whisper p content) K v) K)
  whisper p content = by (life_of p K) refl
    where
      b : Body
      b = body.Whisper content

      far : (u : Life) → eqb l u.link ≡ false → (x y : Bool) → ends_in l (cond x (Refuses (refuse.NoPeer p) ∷ []) (cond y (Refuses refuse.TooBig ∷ []) (push g u.link b K))) ≡ []
      far u z true y = refl
      far u z false true = refl
      far u z false false = far_push l g u.link b K z

      near : (x y : Bool) → Is (cond (not x) (Refuses (refuse.NoPeer p) ∷ []) (cond y (Refuses refuse.TooBig ∷ []) (push g l b K))) (slow_by g l (where_so (x && not y) b) K)
      near false y = refl
      near true true = refl
      near true false = own_push l g b K

      met : (u : Life) → Meets v p u → Is (at_whisper g p content (Some u) K) (slow_by g l (due_by g (command.Whisper p content) K v) K)
      met u (Same z is) = rw z (subst (λ (w : Life). Is (at_whisper g p content (Some w) K) (slow_by g l (where_so (is_entered K v && not (is_too_big g b)) b) K)) (sym is) (near (is_entered K v) (is_too_big g b)))
      met u (Other z away) = rw z (far u away (not (is_entered K u)) (is_too_big g b))

      by : (o : Option Life) → life_of p K ≡ o → Is (at_whisper g p content o K) (slow_by g l (due_by g (command.Whisper p content) K v) K)
      by (Some u) e = met u (meets K q names v known p u e)
      by None e = rw (nobody p e) refl

  shout : (group : List ℕ) (content : List (List ℕ)) → Is (at_shout g group content K) (slow_by g l (due_by g (command.Shout group content) K v) K)
  shout group content = by (ltb GROUP_OCTETS (length group) || is_too_big g b)
    where
      b : Body
      b = body.Shout group content

      by : (x : Bool) → Is (cond x (Refuses refuse.TooBig ∷ []) (push_all g (filter (is_member g group K) (lives K)) b K)) (slow_by g l (where_so (not x && is_member g group K v) b) K)
      by true = refl
      by false = some_pushes b (is_member g group K)

  command_ends : (c : Command) (H : List Mark) → Is (at_command g c K) (cause_at g (input.Do c) H K v)
  command_ends (command.Join group) H = join group
  command_ends (command.Leave group) H = leave group
  command_ends (command.Whisper p content) H = whisper p content
  command_ends (command.Shout group content) H = shout group content
  command_ends (command.Bad n) H = refl
  command_ends command.Quit H = stop

  opened : (c : ℕ) → ends_in l (at_opened g c K) ≡ []
  opened c = choice (λ hs. ends_in l hs ≡ []) (is_new c K) _ _ (λ z. choice (λ hs. ends_in l hs ≡ []) (ltb (length (open_ones K)) CONNECTIONS) _ _ (λ y. refl) (λ y. refl)) (λ z. refl)

  linked : (k : ℕ) (o : Option Life) → ends_in l (at_linked g k o K) ≡ []
  linked k None = refl
  linked k (Some u) = choice (λ hs. ends_in l hs ≡ []) (is_linked k K) _ _ (λ z. refl) (λ z. refl)

  took : (k n : ℕ) (o : Option Life) → ends_in l (at_took g k n o K) ≡ []
  took k n None = refl
  took k n (Some u) = refl

  entry : (i : Input) (H : List Mark) → is_piece i ≡ false → Is (at_input g i H K) (cause_at g i H K v)
  entry (input.Datagram from o) H n = datagram from (beacon_in o)
  entry (input.Opened c) H n = opened c
  entry (input.Piece c o) H n = let z : true ≡ false = n in cc
  entry (input.Shut c) H n = shut c
  entry (input.Linked k) H n = linked k (life k K)
  entry (input.Reply k o) H n = reply k H
  entry (input.Unlinked k) H n = unlinked k
  entry (input.Took k n) H z = took k n (life k K)
  entry input.Tick H n = tick
  entry (input.Do c) H n = command_ends c H
  entry input.End H n = stop

  -- ---- what is said

  first : (c : ℕ) (m : Message) (o : Option PeerId) → AreCalm (at_first g c o m K)
  first c m None = tt
  first c m (Some p) = choice AreCalm (not (is_hello m.body && eqb m.sequence 1)) _ _ (λ z. (tt, tt)) (λ z. choice AreCalm (not (is_small (view_of (m ∷ [])))) _ _ (λ y. (tt, tt)) (λ y. known_or_not (life_of p K)))
    where
      unknown : (o : Option Endpoint) → AreCalm (start_unknown g c p m o K)
      unknown None = (tt, tt)
      unknown (Some e) = choice AreCalm (ltb (length (lives K)) PEERS) _ _ (λ z. (tt, (tt, (tt, tt)))) (λ z. (tt, tt))

      known_or_not : (o : Option Life) → AreCalm (start g c p m o K)
      known_or_not (Some u) = (tt, tt)
      known_or_not None = unknown (endpoint_in (view_of (m ∷ [])).endpoint)

  answer : (b : Body) → Is (answer_to g l b K) (slow_by g l (answer_due g b) K)
  answer body.Ping = own_push l g body.PingOk K
  answer _ = refl

  far_answer : (k : ℕ) (b : Body) → eqb l k ≡ false → ends_in l (answer_to g k b K) ≡ []
  far_answer k body.Ping z = far_push l g k body.PingOk K z
  far_answer k _ z = refl

  later : (c : ℕ) (m : Message) → Is (at_later g c l m K) (cause_of_message g l m K)
  later c m = by (is_hello m.body) (eqb m.sequence (due (counted l K))) (is_small (view_of (counted l K ++ m ∷ [])))
    where
      order : Cause
      order = cause.Order (due (counted l K)) m.sequence

      by : (x y z : Bool) → Is (cond x (Ends l cause.Hello ∷ []) (cond (not y) (Ends l order ∷ []) (cond (not z) (Ends l cause.Limit ∷ []) (Counts c l m ∷ answer_to g l m.body K))))
          (cond x (Some cause.Hello) (cond (not y) (Some order) (cond (not z) (Some cause.Limit) (slow_by g l (answer_due g m.body) K))))
      by true y z = rw me refl
      by false false z = rw me refl
      by false true false = rw me refl
      by false true true = answer m.body

  far_later : (c k : ℕ) (m : Message) → eqb l k ≡ false → ends_in l (at_later g c k m K) ≡ []
  far_later c k m far = choice (λ hs. ends_in l hs ≡ []) (is_hello m.body) _ _ (λ z. rw far refl) (λ z. choice (λ hs. ends_in l hs ≡ []) (not (eqb m.sequence (due (counted k K)))) _ _ (λ y. rw far refl)
      (λ y. choice (λ hs. ends_in l hs ≡ []) (not (is_small (view_of (counted k K ++ m ∷ [])))) _ _ (λ x. rw far refl) (λ x. far_answer k m.body far)))

  message : (c : ℕ) (m : Message) (o : Option ℕ) → Is (at_message g c o m K) (cond (is_run_by o v) (cause_of_message g l m K) None)
  message c m None = calm_none l _ (first c m (identity c K))
  message c m (Some k) = by (eqb l k) refl
    where
      by : (t : Bool) → eqb l k ≡ t → Is (at_later g c k m K) (cond t (cause_of_message g l m K) None)
      by true z = subst (λ n. Is (at_later g c n m K) (cause_of_message g l m K)) (eqb-true l k z) (later c m)
      by false z = far_later c k m z

  on_ready : (c : ℕ) (p : PeerId) (o : Option PeerId) → identity c K ≡ o → Is (at_ready g c p o K) (cause_said g c (Arrived (arrival.Shaken p)) K v)
  on_ready c p (Some i) e = rw e refl
  on_ready c p None e = rw e (then_calm l (taken_over g (other_with p c K) K) _ (tt, tt) ∙ by (other_with p c K))
    where
      by : (o : Option ℕ) → Is (taken_over g o K) (where_so (is_run_by (option_and_then (λ d. runs d K) o) v) cause.Taken)
      by None = refl
      by (Some d) = then_calm l (end_of_run g (runs d K) cause.Taken) _ (tt, tt) ∙ run_ends g v (runs d K) cause.Taken

  said : (c : ℕ) (one : Said) → Is (at_said g c one K) (cause_said g c one K v)
  said c (Arrived arrival.Greeted) = refl
  said c (Arrived (arrival.Shaken p)) = on_ready c p (identity c K) refl
  said c (Arrived (arrival.Ping t)) = refl
  said c (Arrived (arrival.Message m)) = message c m (runs c K)
  said c (Fault f) = then_calm l (end_of_run g (runs c K) cause.Fault) _ (tt, tt) ∙ run_ends g v (runs c K) cause.Fault

  place : (c : ℕ) (one : Said) → Is (at_place g c one K) (cond (is_live c K) (cause_said g c one K v) None)
  place c one = by (is_live c K)
    where
      by : (t : Bool) → Is (cond t (at_said g c one K) []) (cond t (cause_said g c one K v) None)
      by true = said c one
      by false = refl

pub ends_by_table : (g : Config) (J : List Entry) → EndsByTable g J
ends_by_table g J = record {
  at_entries = λ earlier e later v at n k. entry g (Comes e ∷ chronicle g earlier) (comes_proper g earlier e) (λ l u f. named g earlier l u f) v k e.input (chronicle g earlier) n;
  as_said = λ c one K v a k. let it = its_moment g J c one K a in place g K it.proper it.named v k c one;
}

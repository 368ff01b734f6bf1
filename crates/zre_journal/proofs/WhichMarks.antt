-- Which marks an entry brings: but for OPENED, SHUT and UNLINKED none that opens, turns away or shuts a connection, and none that ends a peer since its link broke.
use Rattle.std.proofs.Common.{◌≡◌, ℕ, ◌+◌, ◌%◌, Bool, true, false, cond, not, ◌&&◌, ◌||◌, eqb, ltb, leb, List, [], ◌∷◌, ◌++◌, length, map, Option, Some, None, filter, refl, eq-eqb}
use Rattle.std.specs.List.{AllByRecursion}
use Rattle.zre_values.specs.declared.limits.TheConstants.{PEERS, UNSENT_OCTETS, OWN_GROUPS, GROUP_OCTETS}
use Rattle.zre_values.specs.declared.peer_id.PeerId.{PeerId}
use Rattle.zre_values.specs.declared.endpoint.Endpoint.{Endpoint}
use Rattle.zre_values.specs.Endpoint.{endpoint_in}
use Rattle.zre_zmtp.specs.declared.fault.ZmtpFault.{ZmtpFault}
use Rattle.zre_beacon.specs.Beacon.{beacon_in}
use Rattle.zre_mailbox.specs.declared.arrival.Arrival.TheVariants as arrival
use Rattle.zre_mailbox.specs.Talk.{Said, Arrived, Fault}
use Rattle.zre_msg.specs.declared.message.Body.{Body}
use Rattle.zre_msg.specs.declared.message.Body.TheVariants as body
use Rattle.zre_msg.specs.declared.message.Message.{Message}
use Rattle.zre_link.specs.Heard.{reply_fault}
use Rattle.zre_link.specs.Link.{answered, slow_at}
use Rattle.zre_link.specs.Text.{size_of}
use Rattle.zre_outside.specs.declared.entry.Command.{Command}
use Rattle.zre_outside.specs.declared.entry.Command.TheVariants as command
use Rattle.zre_outside.specs.declared.entry.Input.{Input}
use Rattle.zre_outside.specs.declared.entry.Input.TheVariants as input
use Rattle.zre_peer.specs.Runs.{is_hello, due}
use Rattle.zre_peer.specs.Views.{view_of, is_small}
use Rattle.zre_peer.specs.declared.causes.Cause.{Cause}
use Rattle.zre_peer.specs.declared.causes.Cause.TheVariants as cause
use Rattle.zre_peer.specs.declared.causes.CloseWhy.TheVariants as close
use Rattle.zre_values.specs.declared.settings.Settings.{Settings as Config}
use Rattle.zre_journal.specs.Arrivals.{end_of_run, taken_over, start_unknown, start, at_first, answer_to, at_later, at_message, at_ready, at_said, at_place}
use Rattle.zre_journal.specs.Chronicle.{Mark, Sends, Comes, Opens, TurnsAway, IsShut, Greets, AnswersPing, Ends, IsEvasive, PutsPong, Closes, ClosesAtStop, after, in_turn}
use Rattle.zre_journal.specs.Commands.{has_group, is_too_big, is_member, at_whisper, at_stop, at_command}
use Rattle.zre_journal.specs.Connections.{open_ones, identity, runs, is_live, other_with}
use Rattle.zre_journal.specs.Happens.{is_welcome, at_beacon, at_datagram, at_input}
use Rattle.zre_journal.specs.Heard.{newly_completed}
use Rattle.zre_journal.specs.LinkEntries.{cause_by_reply, at_linked, end_by, answers, at_reply, at_took}
use Rattle.zre_journal.specs.Links.{groups, status, line, is_linked, replies, newly_pinged, unsent}
use Rattle.zre_journal.specs.Peers.{Life, lives, life, life_of, is_entered, counted}
use Rattle.zre_journal.specs.Pushes.{push, push_all}
use Rattle.zre_journal.specs.Ticks.{is_silent, is_evasive, is_stale, at_tick}
use Rattle.zre_journal.proofs.NumberedLists.{All-join}
use Rattle.zre_journal.proofs.WhenMarksCome.{choice}
use Rattle.zre_journal.proofs.MarksOfTicks.{E, F, C}

-- whether an entry is a tick, which connection it has octets of, and whether it says that octets of a link went out
pub record Kind : Type 0 where
  pub ticks : Bool
  pub hears : ℕ → Bool
  pub takes : Bool

abbrev pub Mild : Kind → Mark → Type 0
Mild t (Comes e) = ⊥
Mild t (Opens c) = ⊥
Mild t (TurnsAway c) = ⊥
Mild t (IsShut c) = ⊥
Mild t (Greets c) = t.hears c ≡ true
Mild t (AnswersPing c context) = t.hears c ≡ true
Mild t (IsEvasive l) = t.ticks ≡ true
Mild t (Sends l n) = t.takes ≡ true
Mild t (Ends l cause.Link) = ⊥
Mild t (Ends l cause.Expired) = t.ticks ≡ true
Mild t _ = Unit {0}

abbrev pub AreMild : Kind → List Mark → Type 0
AreMild t hs = AllByRecursion (Mild t) hs

mild_map : {A : Type 0} (t : Kind) (f : A → Mark) → ((x : A) → Mild t (f x)) → (xs : List A) → AreMild t (map f xs)
mild_map t f c [] = tt
mild_map t f c (x ∷ xs) = (c x, mild_map t f c xs)

mild_turns : {A : Type 0} (t : Kind) (f : A → List Mark → List Mark) → ((x : A) (K : List Mark) → AreMild t (f x K)) → (xs : List A) (K : List Mark) → AreMild t (in_turn f xs K)
mild_turns t f c [] K = tt
mild_turns t f c (x ∷ xs) K = All-join (Mild t) (f x K) (in_turn f xs (after (f x K) K)) (c x K) (mild_turns t f c xs (after (f x K) K))

-- any of two, where both are mild
either : (t : Kind) (b : Bool) (hs ks : List Mark) → AreMild t hs → AreMild t ks → AreMild t (cond b hs ks)
either t b hs ks x y = choice (AreMild t) b hs ks (λ z. x) (λ z. y)

module _ (g : Config) (t : Kind) where
  mild_push : (l : ℕ) (b : Body) (K : List Mark) → AreMild t (push g l b K)
  mild_push l b K = either t (ltb UNSENT_OCTETS (unsent g l K + size_of (line l K) b)) _ _ (tt, tt) (tt, tt)

  mild_pushes : (vs : List Life) (b : Body) (K : List Mark) → AreMild t (push_all g vs b K)
  mild_pushes vs b K = mild_turns t (λ (v : Life) J. push g v.link b J) (λ v J. mild_push v.link b J) vs K

  pub mild_run : (o : Option ℕ) (why : Cause) → ((l : ℕ) → Mild t (Ends l why)) → AreMild t (end_of_run g o why)
  mild_run None why m = tt
  mild_run (Some l) why m = (m l, tt)

  mild_taken : (o : Option ℕ) (K : List Mark) → AreMild t (taken_over g o K)
  mild_taken None K = tt
  mild_taken (Some d) K = All-join (Mild t) (end_of_run g (runs d K) cause.Taken) _ (mild_run (runs d K) cause.Taken (λ l. tt)) (tt, tt)

  module _ (K : List Mark) where
    mild_datagram : (from : List ℕ) (o : Option (PeerId × ℕ)) → AreMild t (at_datagram g from o K)
    mild_datagram from None = tt
    mild_datagram from (Some b) = by (life_of b.0 K)
      where
        by : (o : Option Life) → AreMild t (at_beacon g from b.0 b.1 o K)
        by (Some v) = either t (eqb b.1 0) _ _ (tt, tt) (tt, tt)
        by None = either t (is_welcome g b.0 b.1 (length (lives K))) _ _ (tt, (tt, tt)) tt

    mild_linked : (l : ℕ) (o : Option Life) → AreMild t (at_linked g l o K)
    mild_linked l None = tt
    mild_linked l (Some v) = either t (is_linked l K) _ _ tt (tt, tt)

    mild_took : (l n : ℕ) (o : Option Life) → t.takes ≡ true → AreMild t (at_took g l n o K)
    mild_took l n None is = tt
    mild_took l n (Some v) is = (is, tt)

    mild_answers : (l : ℕ) (ts : List (List ℕ)) (f : Option ZmtpFault) → AreMild t (answers g l ts f K)
    mild_answers l ts f = All-join (Mild t) (map (λ s. PutsPong l s) (answered (unsent g l K) ts)) _ (mild_map t (λ s. PutsPong l s) (λ s. tt) (answered (unsent g l K) ts)) (by (slow_at (unsent g l K) ts) f)
      where
        by : (s : Option (ℕ × ℕ)) (f : Option ZmtpFault) → AreMild t (end_by g l (cause_by_reply s f))
        by (Some s) f = (tt, tt)
        by None (Some f) = (tt, tt)
        by None None = tt

    mild_reply : (l : ℕ) (o : Option Life) (H : List Mark) → AreMild t (at_reply g l o H K)
    mild_reply l None H = tt
    mild_reply l (Some v) H = either t (is_linked l K) _ _ (mild_answers l (newly_pinged l H K) (reply_fault (replies l K))) tt

    mild_tick : t.ticks ≡ true → AreMild t (at_tick g K)
    mild_tick is = All-join (Mild t) (E g K ++ F g K ++ C g K) _ (All-join (Mild t) (E g K ++ F g K) (C g K) (All-join (Mild t) (E g K) (F g K) (mild_map t (λ (v : Life). Ends v.link cause.Expired) (λ v. is) (filter (is_silent g g.expired K) (lives K)))
        (mild_turns t (λ (v : Life) J. IsEvasive v.link ∷ push g v.link body.Ping J) (λ v J. (is, mild_push v.link body.Ping J)) (filter (is_evasive g K) (lives K)) K))
        (mild_map t (λ c. Closes c close.Timeout) (λ c. tt) (filter (is_stale g K) (open_ones K)))) (tt, tt)

    mild_stop : AreMild t (at_stop g K)
    mild_stop = All-join (Mild t) (map (λ (v : Life). Ends v.link cause.Stop) (lives K) ++ map (λ c. ClosesAtStop c) (open_ones K)) _
        (All-join (Mild t) (map (λ (v : Life). Ends v.link cause.Stop) (lives K)) _ (mild_map t (λ (v : Life). Ends v.link cause.Stop) (λ v. tt) (lives K)) (mild_map t (λ c. ClosesAtStop c) (λ c. tt) (open_ones K))) (tt, (tt, tt))

    mild_whisper : (p : PeerId) (content : List (List ℕ)) (o : Option Life) → AreMild t (at_whisper g p content o K)
    mild_whisper p content None = (tt, tt)
    mild_whisper p content (Some v) = either t (not (is_entered K v)) _ _ (tt, tt) (either t (is_too_big g (body.Whisper content)) _ _ (tt, tt) (mild_push v.link (body.Whisper content) K))

    mild_command : (c : Command) → AreMild t (at_command g c K)
    mild_command (command.Join group) = either t (ltb GROUP_OCTETS (length group)) _ _ (tt, tt) (either t (has_group group (groups K)) _ _ (tt, tt) (either t (leb OWN_GROUPS (length (groups K))) _ _ (tt, tt) (tt, mild_pushes (lives K) (body.Join group ((status K + 1) % 256)) K)))
    mild_command (command.Leave group) = either t (has_group group (groups K)) _ _ (tt, mild_pushes (lives K) (body.Leave group ((status K + 1) % 256)) K) (tt, tt)
    mild_command (command.Whisper p content) = mild_whisper p content (life_of p K)
    mild_command (command.Shout group content) = either t (ltb GROUP_OCTETS (length group) || is_too_big g (body.Shout group content)) _ _ (tt, tt) (mild_pushes (filter (is_member g group K) (lives K)) (body.Shout group content) K)
    mild_command (command.Bad n) = (tt, tt)
    mild_command command.Quit = mild_stop

    -- ---- what is said

    mild_first : (c : ℕ) (m : Message) (o : Option PeerId) → AreMild t (at_first g c o m K)
    mild_first c m None = tt
    mild_first c m (Some p) = either t (not (is_hello m.body && eqb m.sequence 1)) _ _ (tt, tt) (either t (not (is_small (view_of (m ∷ [])))) _ _ (tt, tt) (known_or_not (life_of p K)))
      where
        unknown : (o : Option Endpoint) → AreMild t (start_unknown g c p m o K)
        unknown None = (tt, tt)
        unknown (Some e) = either t (ltb (length (lives K)) PEERS) _ _ (tt, (tt, (tt, tt))) (tt, tt)

        known_or_not : (o : Option Life) → AreMild t (start g c p m o K)
        known_or_not (Some u) = (tt, tt)
        known_or_not None = unknown (endpoint_in (view_of (m ∷ [])).endpoint)

    mild_answer : (l : ℕ) (b : Body) → AreMild t (answer_to g l b K)
    mild_answer l body.Ping = mild_push l body.PingOk K
    mild_answer l _ = tt

    mild_later : (c l : ℕ) (m : Message) → AreMild t (at_later g c l m K)
    mild_later c l m = either t (is_hello m.body) _ _ (tt, tt) (either t (not (eqb m.sequence (due (counted l K)))) _ _ (tt, tt)
        (either t (not (is_small (view_of (counted l K ++ m ∷ [])))) _ _ (tt, tt) (tt, mild_answer l m.body)))

    pub mild_message : (c : ℕ) (o : Option ℕ) (m : Message) → AreMild t (at_message g c o m K)
    mild_message c None m = mild_first c m (identity c K)
    mild_message c (Some l) m = mild_later c l m

    pub mild_ready : (c : ℕ) (p : PeerId) (o : Option PeerId) → AreMild t (at_ready g c p o K)
    mild_ready c p (Some i) = tt
    mild_ready c p None = All-join (Mild t) (taken_over g (other_with p c K) K) _ (mild_taken (other_with p c K) K) (tt, tt)

    mild_said : (c : ℕ) (one : Said) → t.hears c ≡ true → AreMild t (at_said g c one K)
    mild_said c (Arrived arrival.Greeted) own = (own, tt)
    mild_said c (Arrived (arrival.Shaken p)) own = mild_ready c p (identity c K)
    mild_said c (Arrived (arrival.Ping x)) own = (own, tt)
    mild_said c (Arrived (arrival.Message m)) own = mild_message c (runs c K) m
    mild_said c (Fault f) own = All-join (Mild t) (end_of_run g (runs c K) cause.Fault) _ (mild_run (runs c K) cause.Fault (λ l. tt)) (tt, tt)

  mild_place : (c : ℕ) (one : Said) (K : List Mark) → t.hears c ≡ true → AreMild t (at_place g c one K)
  mild_place c one K own = either t (is_live c K) _ _ (mild_said K c one own) tt

-- the inputs that bring other marks too
abbrev pub IsMilder : Input → Type 0
IsMilder (input.Opened c) = ⊥
IsMilder (input.Shut c) = ⊥
IsMilder (input.Unlinked l) = ⊥
IsMilder _ = Unit {0}

abbrev pub is_tick : Input → Bool
is_tick input.Tick = true
is_tick _ = false

abbrev pub is_heard : ℕ → Input → Bool
is_heard d (input.Piece c o) = eqb d c
is_heard d _ = false

abbrev pub is_took : Input → Bool
is_took (input.Took l n) = true
is_took _ = false

abbrev pub kind : Input → Kind
kind i = record { ticks = is_tick i; hears = λ d. is_heard d i; takes = is_took i }

module _ (g : Config) where
  pub mild_input : (i : Input) (H K : List Mark) → IsMilder i → AreMild (kind i) (at_input g i H K)
  mild_input (input.Datagram from o) H K m = mild_datagram g (kind (input.Datagram from o)) K from (beacon_in o)
  mild_input (input.Opened c) H K m = absurd m
  mild_input (input.Piece c o) H K m = let t = kind (input.Piece c o) in mild_turns t (at_place g c) (λ one J. mild_place g t c one J (eq-eqb c c refl)) (newly_completed g.id c H K) K
  mild_input (input.Shut c) H K m = absurd m
  mild_input (input.Linked l) H K m = mild_linked g (kind (input.Linked l)) K l (life l K)
  mild_input (input.Reply l o) H K m = mild_reply g (kind (input.Reply l o)) K l (life l K) H
  mild_input (input.Unlinked l) H K m = absurd m
  mild_input (input.Took l n) H K m = mild_took g (kind (input.Took l n)) K l n (life l K) refl
  mild_input input.Tick H K m = mild_tick g (kind input.Tick) K refl
  mild_input (input.Do c) H K m = mild_command g (kind (input.Do c)) K c
  mild_input input.End H K m = mild_stop g (kind input.End) K

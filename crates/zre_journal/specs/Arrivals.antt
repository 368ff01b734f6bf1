-- What comes about where a connection is opened or shut, and at what arrives on it: its greeting, READY, PINGs, its
-- first message and later ones.
use Rattle.std.specs.Prelude.{ℕ, ◌+◌, not, ◌&&◌, List, [], ◌∷◌, ◌++◌, Option, Some, None, if◌then◌else◌, nat_eq, nat_lt}
use Rattle.std.specs.Prelude.{length}
use Rattle.zre_values.specs.declared.peer_id.PeerId.{PeerId}
use Rattle.zre_values.specs.declared.endpoint.Endpoint.{Endpoint}
use Rattle.zre_mailbox.specs.declared.arrival.Arrival.{Arrival}
use Rattle.zre_mailbox.specs.declared.arrival.Arrival.TheVariants as arrival
use Rattle.zre_mailbox.specs.Talk.{Said, Arrived, Fault}
use Rattle.zre_values.specs.declared.limits.TheConstants.{PEERS, CONNECTIONS}
use Rattle.zre_values.specs.Endpoint.{endpoint_in}
use Rattle.zre_peer.specs.Runs.{is_hello, due}
use Rattle.zre_peer.specs.Views.{view_of, is_small}
use Rattle.zre_msg.specs.declared.message.Body.{Body}
use Rattle.zre_msg.specs.declared.message.Body.TheVariants as body
use Rattle.zre_msg.specs.declared.message.Message.{Message}
use Rattle.zre_peer.specs.declared.causes.Cause.{Cause}
use Rattle.zre_peer.specs.declared.causes.Cause.TheVariants as cause
use Rattle.zre_peer.specs.declared.causes.CloseWhy.TheVariants as close
use Rattle.zre_peer.specs.declared.causes.IgnoreWhy.TheVariants as ignore
use Rattle.zre_values.specs.declared.settings.Settings.{Settings as Config}
use Rattle.zre_journal.specs.Chronicle.{Mark, Opens, TurnsAway, Greets, Identifies, AnswersPing, Starts, Counts}
use Rattle.zre_journal.specs.Chronicle.{Ignores, Closes, IsShut, Ends, in_turn}
use Rattle.zre_journal.specs.Connections.{open_ones, is_open, is_new, identity, runs, is_live, other_with}
use Rattle.zre_journal.specs.Peers.{Life, lives, births, life_of, counted}
use Rattle.zre_journal.specs.Pushes.{push, birth}

module _ (g : Config) where
  abbrev pub at_opened : ℕ → List Mark → List Mark
  at_opened c K = if is_new c K
      then (if nat_lt (length (open_ones K)) CONNECTIONS then Opens c ∷ [] else TurnsAway c ∷ []) else []

  -- the peer that c runs, if it runs one, ends with this cause
  abbrev pub end_of_run : Option ℕ → Cause → List Mark
  end_of_run None why = []
  end_of_run (Some l) why = Ends l why ∷ []

  abbrev pub at_shut : ℕ → List Mark → List Mark
  at_shut c K = if is_open c K then end_of_run (runs c K) cause.Shut ++ IsShut c ∷ [] else []

  abbrev pub taken_over : Option ℕ → List Mark → List Mark
  taken_over None K = []
  taken_over (Some d) K = end_of_run (runs d K) cause.Taken ++ Closes d close.Taken ∷ []

  -- the first message of a waiting connection
  abbrev pub start_unknown : ℕ → PeerId → Message → Option Endpoint → List Mark → List Mark
  start_unknown c p m None K = Ignores c ignore.NoEndpoint ∷ []
  start_unknown c p m (Some e) K =
      if nat_lt (length (lives K)) PEERS then birth g p e K ++ Starts c (births K + 1) m ∷ []
      else Ignores c ignore.Full ∷ []

  abbrev pub start : ℕ → PeerId → Message → Option Life → List Mark → List Mark
  start c p m (Some v) K = Starts c v.link m ∷ []
  start c p m None K = start_unknown c p m (endpoint_in (view_of (m ∷ [])).endpoint) K

  -- it has to be HELLO with the number 1, of a peer that READY introduced (RFC 36, HELLO)
  abbrev pub at_first : ℕ → Option PeerId → Message → List Mark → List Mark
  at_first c None m K = []
  at_first c (Some p) m K =
      if not (is_hello m.body && nat_eq m.sequence 1) then Ignores c ignore.NotHello ∷ []
      else if not (is_small (view_of (m ∷ []))) then Ignores c ignore.Limit ∷ []
      else start c p m (life_of p K) K

  -- PING is answered by PING-OK (RFC 36, PING and PING-OK)
  abbrev pub answer_to : ℕ → Body → List Mark → List Mark
  answer_to l body.Ping K = push g l body.PingOk K
  answer_to l _ K = []

  -- a message on a connection that runs the peer of link l: it has the next number, and is no HELLO (RFC 36)
  abbrev pub at_later : ℕ → ℕ → Message → List Mark → List Mark
  at_later c l m K =
      if is_hello m.body then Ends l cause.Hello ∷ []
      else if not (nat_eq m.sequence (due (counted l K))) then Ends l (cause.Order (due (counted l K)) m.sequence) ∷ []
      else if not (is_small (view_of (counted l K ++ m ∷ []))) then Ends l cause.Limit ∷ []
      else Counts c l m ∷ answer_to l m.body K

  abbrev pub at_message : ℕ → Option ℕ → Message → List Mark → List Mark
  at_message c None m K = at_first c (identity c K) m K
  at_message c (Some l) m K = at_later c l m K

  -- READY introduces the peer p (RFC 23, the NULL mechanism), and takes over from another connection of p; a second
  -- READY would have no effect
  abbrev pub at_ready : ℕ → PeerId → Option PeerId → List Mark → List Mark
  at_ready c p None K = taken_over (other_with p c K) K ++ Identifies c p ∷ []
  at_ready c p (Some q) K = []

  abbrev pub at_arrival : ℕ → Arrival → List Mark → List Mark
  at_arrival c arrival.Greeted K = Greets c ∷ []
  at_arrival c (arrival.Shaken p) K = at_ready c p (identity c K) K
  at_arrival c (arrival.Ping t) K = AnswersPing c t ∷ []
  at_arrival c (arrival.Message m) K = at_message c (runs c K) m K

  abbrev pub at_said : ℕ → Said → List Mark → List Mark
  at_said c (Arrived a) K = at_arrival c a K
  at_said c (Fault f) K = end_of_run (runs c K) cause.Fault ++ Closes c (close.Zmtp f) ∷ []

  -- one place: where c isn't live it has no effect
  abbrev pub at_place : ℕ → Said → List Mark → List Mark
  at_place c said K = if is_live c K then at_said c said K else []

  -- all that is newly said on c, one place after the other
  abbrev pub at_places : ℕ → List Said → List Mark → List Mark
  at_places c all K = in_turn (at_place c) all K

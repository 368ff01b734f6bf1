-- What holds of every journal.
use Rattle.std.specs.Prelude.{◌≡◌, ℕ, ◌≤◌, true, false, List, ◌∷◌, ◌++◌, Option, Some, None, IsSome}
use Rattle.std.specs.Prelude.{if◌then◌else◌, nat_eq, length}
use Rattle.std.specs.List.{filter}
use Rattle.zre_values.specs.declared.limits.TheConstants.{PEERS, CONNECTIONS}
use Rattle.zre_values.specs.declared.peer_id.PeerId.{PeerId}
use Rattle.zre_msg.specs.declared.message.Message.{Message}
use Rattle.zre_peer.specs.Runs.{in_order}
use Rattle.zre_peer.specs.Views.{view_of}
use Rattle.zre_peer.specs.declared.causes.IgnoreWhy.{IgnoreWhy}
use Rattle.zre_outside.specs.declared.entry.Entry.{Entry}
use Rattle.zre_values.specs.declared.settings.Settings.{Settings as Config}
use Rattle.zre_journal.specs.Chronicle.{Mark, Starts, Counts, Ignores, each}
use Rattle.zre_journal.specs.Connections.{open_ones, is_open, identity, runs, is_waiting, is_end_of, has_ended}
use Rattle.zre_journal.specs.Peers.{Life, lives, life, runner, counted, view}
use Rattle.zre_journal.specs.Happens.{has_stopped, chronicle_after}
use Rattle.zre_journal.specs.Events.{events_after, acts_after, chronicle, events, acts}

-- What J brought about stays, and K adds to it.
pub record Continues (g : Config) (J K : List Entry) : Type 0 where
  pub happened : chronicle g (J ++ K) ≡ chronicle_after g K (chronicle g J)
  pub told : events g (J ++ K) ≡ events g J ++ events_after g K (chronicle g J)
  pub done : acts g (J ++ K) ≡ acts g J ++ acts_after g K (chronicle g J)

-- The node has stopped in J, and K changes nothing.
pub record HasEnded (g : Config) (J K : List Entry) : Type 0 where
  pub stopped : has_stopped (chronicle g (J ++ K)) ≡ true
  pub told : events g (J ++ K) ≡ events g J
  pub done : acts g (J ++ K) ≡ acts g J

-- One run a peer: no other connection runs it, and the one that does is open and has introduced itself as that peer.
pub record RunsAlone (H : List Mark) : Type 0 where
  pub no_other : (c d l : ℕ) → runs c H ≡ Some l → runs d H ≡ Some l → c ≡ d
  pub is_there : (c l : ℕ) → runs c H ≡ Some l → is_open c H ≡ true
  pub its_own : (c l : ℕ) → runs c H ≡ Some l → (v : Life) × (life l H ≡ Some v) × (identity c H ≡ Some v.id)

-- A connection starts a run, or is refused, only while it waits for its first message: what came before such a mark
-- left it waiting.
pub record StartsWhereItWaits (H : List Mark) : Type 0 where
  pub starts : (later before : List Mark) (c l : ℕ) (m : Message) → H ≡ later ++ Starts c l m ∷ before
      → is_waiting c before ≡ true
  pub refused : (later before : List Mark) (c : ℕ) (why : IgnoreWhy) → H ≡ later ++ Ignores c why ∷ before
      → is_waiting c before ≡ true

-- No two open connections have one identity.
abbrev pub AreStrangers : List Mark → Type 0
AreStrangers H =
    (c d : ℕ) (p : PeerId) → is_open c H ≡ true → is_open d H ≡ true → identity c H ≡ Some p → identity d H ≡ Some p
    → c ≡ d

-- No two known peers have one id, and at most 256 are known; at most 512 connections are open.
pub record AreFew (H : List Mark) : Type 0 where
  pub each_once : (l k : ℕ) (v w : Life) → life l H ≡ Some v → life k H ≡ Some w → v.id ≡ w.id → v ≡ w
  pub few_peers : length (lives H) ≤ PEERS
  pub few_connections : length (open_ones H) ≤ CONNECTIONS

-- A peer ends at most once, so with one cause, and isn't known from then on.
pub record EndsOnce (H : List Mark) : Type 0 where
  pub one_end : (l : ℕ) → length (filter (is_end_of l) H) ≤ 1
  pub is_gone : (l : ℕ) → IsSome (life l H) → has_ended l H ≡ false

-- the messages of c: the one that started its run, and those counted
abbrev pub message_on : ℕ → Mark → Option Message
message_on c (Starts d l m) = if nat_eq c d then Some m else None
message_on c (Counts d l m) = if nat_eq c d then Some m else None
message_on c _ = None

abbrev pub counted_on : ℕ → List Mark → List Message
counted_on c H = each (message_on c) H

-- The messages that were counted on a connection are in order. A known peer that c has run is still run by c, all its
-- messages came on c, and its view is what they lead to.
pub record ShowsItsMessages (H : List Mark) : Type 0 where
  pub are_ordered : (c : ℕ) → in_order (counted_on c H) ≡ true
  pub still_runs : (c l : ℕ) → IsSome (life l H) → runner l H ≡ Some c → runs c H ≡ Some l
  pub are_its_own : (c l : ℕ) → IsSome (life l H) → runner l H ≡ Some c → counted l H ≡ counted_on c H
  pub shows : (c l : ℕ) → IsSome (life l H) → runner l H ≡ Some c → view l H ≡ view_of (counted_on c H)

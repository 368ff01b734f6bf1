-- A ledger: the numbered list of messages that is sent on each connection, and which of them come. What a node makes of
-- messages that come from such lists, and how one that is missing, repeated or out of order shows.
use Rattle.std.specs.Prelude.{◌≡◌, ◌≢◌, ℕ, ◌+◌, ◌%◌, ◌==◌, true, false, List, [], ◌∷◌, ◌++◌, length, take, slice_get}
use Rattle.std.specs.Prelude.{Some, IsSome, if◌then◌else◌}
use Rattle.std.specs.List.{range_with_len}
use Rattle.zre_msg.specs.declared.message.Message.{Message}
use Rattle.zre_peer.specs.declared.causes.Cause.{Cause}
use Rattle.zre_peer.specs.declared.causes.Cause.TheVariants as cause
use Rattle.zre_peer.specs.declared.event.Event.{Event}
use Rattle.zre_peer.specs.Ledger.{IsNumbered, IsPicked, IsNear, ArePicked, AreNear}
use Rattle.zre_peer.specs.Runs.{told}
use Rattle.zre_peer.specs.Views.{view_of, is_small}
use Rattle.zre_values.specs.declared.settings.Settings.{Settings as Config}
use Rattle.zre_outside.specs.declared.entry.Entry.{Entry}
use Rattle.zre_mailbox.specs.declared.arrival.Arrival.TheVariants as arrival
use Rattle.zre_mailbox.specs.Talk.{Arrived}
use Rattle.zre_journal.specs.Arrivals.{answer_to, at_message}
use Rattle.zre_journal.specs.Chronicle.{Mark, Counts, Ends, after}
use Rattle.zre_journal.specs.Events.{chronicle}
use Rattle.zre_journal.specs.Connections.{runs}
use Rattle.zre_journal.specs.Hearing.{heard_on}
use Rattle.zre_journal.specs.Laws.{counted_on}
use Rattle.zre_journal.specs.Peers.{Life, life, runner, counted, view}
use Rattle.zre_journal.specs.Places.{Arrives}
use Rattle.zre_journal.specs.Spoken.{run_of}

-- for each connection the list that is sent on it, and the places in it of the messages that come, counted from 1
pub record Ledger : Type 0 where
  pub sent : ℕ → List Message
  pub picks : ℕ → List ℕ

-- The lists are numbered as RFC 36 has it, and the messages that the octets of a connection say are those at its
-- places, one after another.
pub record IsDrawn (g : Config) (b : Ledger) (H : List Mark) : Type 0 where
  pub are_numbered : (c : ℕ) → IsNumbered (b.sent c)
  pub are_picked : (c : ℕ) → ArePicked (b.sent c) (b.picks c) (heard_on g c H)

-- each message that was counted after the first of its connection came fewer than 65536 places from the one due
abbrev pub IsWithinWindow : Ledger → List Mark → Type 0
IsWithinWindow b H = (c : ℕ) → AreNear 0 (take (length (counted_on c H)) (b.picks c))

-- the beginning of what is sent on c, as long as what was counted on it
abbrev pub begun_on : Ledger → ℕ → List Mark → List Message
begun_on b c H = take (length (counted_on c H)) (b.sent c)

-- What was counted on a connection is the beginning of what is sent on it: none is missing, none came twice, and they
-- are in order. Of a known peer that c runs, the view is what these lead to, and what was told of it since its ENTER is
-- what they tell.
pub record KeepsLedger (b : Ledger) (es : List Event) (H : List Mark) : Type 0 where
  pub are_first : (c : ℕ) → counted_on c H ≡ begun_on b c H
  pub in_turn : (c : ℕ) → take (length (counted_on c H)) (b.picks c) ≡ range_with_len 1 (length (counted_on c H))
  pub shows : (c l : ℕ) → IsSome (life l H) → runner l H ≡ Some c → view l H ≡ view_of (begun_on b c H)
  pub tells : (c l : ℕ) (v : Life) → life l H ≡ Some v → runner l H ≡ Some c
      → run_of v.id es ≡ told v.id (begun_on b c H)

-- the cause where the message at place pick comes after n others and isn't the next one
abbrev pub cause_of_another : ℕ → ℕ → Cause
cause_of_another n pick = if pick == 1 then cause.Hello else cause.Order ((n + 1) % 65536) (pick % 65536)

-- What comes about where c runs the peer of link l and the message at place pick comes: the next one is counted unless
-- the view after it would pass a limit, and any other ends the peer at once.
pub record IsJudged (g : Config) (c l pick : ℕ) (m : Message) (K : List Mark) : Type 0 where
  pub accepted : pick ≡ length (counted l K) + 1 → is_small (view_of (counted l K ++ m ∷ [])) ≡ true
      → at_message g c (runs c K) m K ≡ Counts c l m ∷ answer_to g l m.body K
  pub too_much : pick ≡ length (counted l K) + 1 → is_small (view_of (counted l K ++ m ∷ [])) ≡ false
      → at_message g c (runs c K) m K ≡ Ends l cause.Limit ∷ []
  pub another : pick ≢ length (counted l K) + 1
      → at_message g c (runs c K) m K ≡ Ends l (cause_of_another (length (counted l K)) pick) ∷ []

-- ---- where messages come

-- each message that comes on a connection that runs a peer comes fewer than 65536 places from the one due
abbrev pub IsNearWhereItComes : Config → Ledger → List Entry → Type 0
IsNearWhereItComes g b J =
    (c l pick : ℕ) (m : Message) (K : List Mark) → Arrives g J c (Arrived (arrival.Message m)) K → runs c K ≡ Some l
    → slice_get (b.picks c) (length (counted l K)) ≡ Some pick → IsNear (length (counted l K)) pick

-- Where c runs the peer of link l then, m is the message at the place that the ledger has for it, it is judged by that
-- place, and the chronicle of J goes on with what comes of it.
pub record IsPlaced (g : Config) (b : Ledger) (J : List Entry) (c l : ℕ) (m : Message) (K : List Mark) : Type 0 where
  pub pick : ℕ
  pub at_its_turn : slice_get (b.picks c) (length (counted l K)) ≡ Some pick
  pub is_message : IsPicked (b.sent c) pick m
  pub is_judged : IsNear (length (counted l K)) pick → IsJudged g c l pick m K
  pub newer : List Mark
  pub goes_on : chronicle g J ≡ newer ++ after (at_message g c (runs c K) m K) K

-- A journal of which these events were told keeps its ledgers: where its messages are drawn from them, each fewer than
-- 65536 places from the one due, what was counted is the beginning of what was sent, and what was told is told of it;
-- and each message that comes is judged by its place.
abbrev pub KeepsLedgers : Config → List Entry → List Event → Type 0
KeepsLedgers g J es =
    (b : Ledger) → IsDrawn g b (chronicle g J) → IsNearWhereItComes g b J
    → KeepsLedger b es (chronicle g J)
    × ((c l : ℕ) (m : Message) (K : List Mark) → Arrives g J c (Arrived (arrival.Message m)) K → runs c K ≡ Some l
    → IsPlaced g b J c l m K)

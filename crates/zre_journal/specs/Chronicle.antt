-- The chronicle: what has happened, as one list of marks, each entry of the journal and what came about at it, the
-- newest first: in Ends 1 w ∷ Puts 1 b ∷ Born 1 p e ∷ [] a peer was born, then a message was put on its link, and then
-- it ended. So in h ∷ H the mark h came after all of H, and `after hs H` puts the marks hs, in their order, on top.
-- Every fact about a moment is a question that is asked of this list.
use Rattle.std.specs.Prelude.{ℕ, Bool, false, true, List, [], ◌∷◌, ◌++◌, Option, Some, None, cond}
use Rattle.std.specs.Option.{option_or}
use Rattle.zre_values.specs.declared.peer_id.PeerId.{PeerId}
use Rattle.zre_values.specs.declared.endpoint.Endpoint.{Endpoint}
use Rattle.zre_outside.specs.declared.entry.Entry.{Entry}
use Rattle.zre_msg.specs.declared.message.Message.{Message}
use Rattle.zre_msg.specs.declared.message.Body.{Body}
use Rattle.zre_peer.specs.declared.causes.Cause.{Cause}
use Rattle.zre_peer.specs.declared.causes.CloseWhy.{CloseWhy}
use Rattle.zre_peer.specs.declared.causes.IgnoreWhy.{IgnoreWhy}
use Rattle.zre_peer.specs.declared.causes.RefuseWhy.{RefuseWhy}

pub data Mark : Type 0 where
  -- an entry of the journal comes
  Comes : (e : Entry) → Mark
  -- a connection opens; is turned away, since too many are open
  Opens : (c : ℕ) → Mark
  TurnsAway : (c : ℕ) → Mark
  -- its greeting is whole; its READY is, with this identity (RFC 23, greeting and the NULL mechanism); a PING with this
  -- context is answered (RFC 37, heartbeats)
  Greets : (c : ℕ) → Mark
  Identifies : (c : ℕ) → (p : PeerId) → Mark
  AnswersPing : (c : ℕ) → (context : List ℕ) → Mark
  -- its first message, HELLO, starts a run of the peer on link l; a later one is counted (RFC 36, numbers of messages)
  Starts : (c l : ℕ) → (m : Message) → Mark
  Counts : (c l : ℕ) → (m : Message) → Mark
  -- its first message is refused, and it is ignored from then on
  Ignores : (c : ℕ) → (why : IgnoreWhy) → Mark
  -- it is closed, and the user is told why; it has been shut; it is closed at a stop
  Closes : (c : ℕ) → (why : CloseWhy) → Mark
  IsShut : (c : ℕ) → Mark
  ClosesAtStop : (c : ℕ) → Mark
  -- a peer is born, and gets the link l; a beacon of it is heard; it ends (RFC 36, discovery and presence)
  Born : (l : ℕ) → (p : PeerId) → (to : Endpoint) → Mark
  HearsBeacon : (l : ℕ) → Mark
  Ends : (l : ℕ) → (cause : Cause) → Mark
  -- nothing was heard of it for the time that makes it evasive (RFC 36, PING)
  IsEvasive : (l : ℕ) → Mark
  -- a message is put on its link; a PONG is, which answers a PING with this context; the link is up; so many octets of
  -- it have gone out
  Puts : (l : ℕ) → (b : Body) → Mark
  PutsPong : (l : ℕ) → (context : List ℕ) → Mark
  Links : (l : ℕ) → Mark
  Sends : (l n : ℕ) → Mark
  -- the node joins a group; leaves one (RFC 36, JOIN and LEAVE); a command is refused
  Joins : (group : List ℕ) → Mark
  Leaves : (group : List ℕ) → Mark
  Refuses : (why : RefuseWhy) → Mark
  -- the node's own beacon goes out (RFC 36, the beacon)
  SendsBeacon : (port : ℕ) → Mark
  -- the node stops
  Stops : Mark

-- what the newest mark says that says anything
abbrev pub latest : {A : Type 0} → (Mark → Option A) → List Mark → Option A
latest f [] = None
latest f (h ∷ H) = option_or (f h) (latest f H)

abbrev pub followed : {A : Type 0} → List A → Option A → List A
followed xs None = xs
followed xs (Some a) = xs ++ a ∷ []

-- what all marks say, the oldest first
abbrev pub each : {A : Type 0} → (Mark → Option A) → List Mark → List A
each f [] = []
each f (h ∷ H) = followed (each f H) (f h)

-- whether some mark is of this kind
abbrev pub ever : (Mark → Bool) → List Mark → Bool
ever test [] = false
ever test (h ∷ H) = cond (test h) true (ever test H)

-- the chronicle H, after these marks in their order
abbrev pub after : List Mark → List Mark → List Mark
after [] H = H
after (h ∷ hs) H = after hs (h ∷ H)

-- one after another, what each of these brings: f x K is what x brings where K is the chronicle by then
abbrev pub in_turn : {A : Type 0} → (A → List Mark → List Mark) → List A → List Mark → List Mark
in_turn f [] K = []
in_turn f (x ∷ xs) K = f x K ++ in_turn f xs (after (f x K) K)

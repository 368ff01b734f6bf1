-- What comes on one connection, and what it leaves as it is: every peer but the one that the connection introduced
-- itself as, and every other connection but those of that peer. And all that it can do.
use Rattle.std.specs.Prelude.{◌≡◌, ◌≢◌, ℕ, ◌+◌, max, Bool, true, false, List, ◌∷◌, ◌++◌, Option, Some, None, nat_eq}
use Rattle.std.specs.List.{list_any}
use Rattle.zre_values.specs.declared.peer_id.PeerId.{PeerId}
use Rattle.zre_peer.specs.declared.causes.CloseWhy.TheVariants as close
use Rattle.zre_outside.specs.declared.entry.Entry.{Entry}
use Rattle.zre_outside.specs.declared.entry.Input.{Input}
use Rattle.zre_outside.specs.declared.entry.Input.TheVariants as input
use Rattle.zre_peer.specs.declared.event.Event.{Event}
use Rattle.zre_values.specs.declared.settings.Settings.{Settings as Config}
use Rattle.zre_journal.specs.Chronicle.{Mark, Comes, Opens, TurnsAway, Greets, Identifies, AnswersPing, Starts, Counts}
use Rattle.zre_journal.specs.Chronicle.{Ignores, Closes, IsShut, Born, Ends, Puts, after, ever}
use Rattle.zre_journal.specs.Connections.{identity, is_same, is_open, started, refuses}
use Rattle.zre_journal.specs.Events.{chronicle, events_at}
use Rattle.zre_journal.specs.Happens.{has_stopped, marks, with_entry}
use Rattle.zre_journal.specs.Heard.{clock, bytes}
use Rattle.zre_journal.specs.Links.{groups, status, line, is_linked, replies, taken, gate, unsent, front}
use Rattle.zre_journal.specs.Peers.{Life, life, life_of, births, runner, counted, view, active}
use Rattle.zre_journal.specs.Spoken.{subject}

-- the entry is about the connection c: it is opened, octets of it come, or it is shut
abbrev pub is_about : ℕ → Input → Bool
is_about c (input.Opened d) = nat_eq c d
is_about c (input.Piece d octets) = nat_eq c d
is_about c (input.Shut d) = nat_eq c d
is_about c _ = false

-- an event of p
abbrev pub is_of_peer : PeerId → Event → Bool
is_of_peer p e = is_same p (subject e)

-- of a known peer with this link: which connection has run it, its messages, its view, its activity, and its link
pub record IsAsBefore (g : Config) (l : ℕ) (H K : List Mark) : Type 0 where
  pub run : runner l K ≡ runner l H
  pub messages : counted l K ≡ counted l H
  pub viewed : view l K ≡ view l H
  pub activity : active l K ≡ active l H
  pub put : line l K ≡ line l H
  pub linked : is_linked l K ≡ is_linked l H
  pub replied : replies l K ≡ replies l H
  pub gone : taken l K ≡ taken l H
  pub may_go : gate g l K ≡ gate g l H
  pub waits : unsent g l K ≡ unsent g l H
  pub to_send : front g l K ≡ front g l H

-- H is what was before an entry, K what is after it, and es what it told: p is known as before, or unknown as before,
-- is as before, and nothing was told of it.
pub record IsLeftAlone (g : Config) (p : PeerId) (H K : List Mark) (es : List Event) : Type 0 where
  pub same_life : life_of p K ≡ life_of p H
  pub same_peer : (v : Life) → life_of p H ≡ Some v → IsAsBefore g v.link H K
  pub none_told : list_any (is_of_peer p) es ≡ false

-- of a connection: whether it is open, which identity came on it, its octets, and whether it started a run or was
-- refused
pub record IsConnAsBefore (d : ℕ) (H K : List Mark) : Type 0 where
  pub stands : is_open d K ≡ is_open d H
  pub who : identity d K ≡ identity d H
  pub octets : bytes d K ≡ bytes d H
  pub run : started d K ≡ started d H
  pub refused : ever (refuses d) K ≡ ever (refuses d) H

-- ---- what a stranger can do

-- link l is that of the known peer with this identity
pub record IsLinkOf (who : Option PeerId) (l : ℕ) (K : List Mark) : Type 0 where
  pub peer : Life
  pub is_known : life l K ≡ Some peer
  pub is_its_own : who ≡ Some peer.id

-- All that can come about at an entry about c, where c has introduced itself as `who` by then and K is what came before
-- the mark: nothing but this. It is opened, turned away, greeted, introduced, answered, refused, closed or shut; a
-- message on it starts a run of the peer with its identity, or is counted; that peer is born on the next link, ends, or
-- something is put on its link; and another connection with the same identity is closed as taken. So others notice it
-- by four things alone: it takes over from a connection with its identity, it takes room (a connection by Opens, a
-- peer by Born), it takes the number of the next link (Born), and the clock goes on.
abbrev pub IsDoneOn : ℕ → Option PeerId → Mark → List Mark → Type 0
IsDoneOn c who (Opens d) K = d ≡ c
IsDoneOn c who (TurnsAway d) K = d ≡ c
IsDoneOn c who (Greets d) K = d ≡ c
IsDoneOn c who (Identifies d p) K = (d ≡ c) × (who ≡ Some p)
IsDoneOn c who (AnswersPing d context) K = d ≡ c
IsDoneOn c who (Starts d l m) K = (d ≡ c) × IsLinkOf who l K
IsDoneOn c who (Counts d l m) K = (d ≡ c) × IsLinkOf who l K
IsDoneOn c who (Ignores d why) K = d ≡ c
IsDoneOn c who (Closes d close.Taken) K = (p : PeerId) × (who ≡ Some p) × (identity d K ≡ Some p) × (d ≢ c)
IsDoneOn c who (Closes d why) K = d ≡ c
IsDoneOn c who (IsShut d) K = d ≡ c
IsDoneOn c who (Born l p to) K = (l ≡ births K + 1) × (who ≡ Some p)
IsDoneOn c who (Ends l why) K = IsLinkOf who l K
IsDoneOn c who (Puts l b) K = IsLinkOf who l K
IsDoneOn c who _ K = ⊥

-- What comes on c, and its end, leaves every peer alone but the one that c has introduced itself as, by then, and every
-- other connection but one of that identity, which isn't open any more once c has introduced itself so; and the node's
-- own groups and status, and whether it has stopped. All that comes about is its own doing, and the clock goes on to
-- the entry's reading.
pub record Isolates (g : Config) (J : List Entry) : Type 0 where
  pub peers : (earlier : List Entry) (e : Entry) (later : List Entry) (c : ℕ) (p : PeerId) → J ≡ earlier ++ e ∷ later
      → is_about c e.input ≡ true → let H = chronicle g earlier in identity c (with_entry g e H) ≢ Some p
      → IsLeftAlone g p H (with_entry g e H) (events_at g e H)
  pub conns : (earlier : List Entry) (e : Entry) (later : List Entry) (c d : ℕ) → J ≡ earlier ++ e ∷ later
      → is_about c e.input ≡ true → d ≢ c → let H = chronicle g earlier in let K = with_entry g e H in
      ((p : PeerId) → identity c K ≡ Some p → identity d H ≢ Some p) → IsConnAsBefore d H K
  pub takes_over : (earlier : List Entry) (e : Entry) (later : List Entry) (c d : ℕ) (p : PeerId)
      → J ≡ earlier ++ e ∷ later → is_about c e.input ≡ true → d ≢ c → let H = chronicle g earlier in
      let K = with_entry g e H in identity c H ≡ None → identity c K ≡ Some p → identity d H ≡ Some p
      → is_open d K ≡ false
  pub itself : (earlier : List Entry) (e : Entry) (later : List Entry) (c : ℕ) → J ≡ earlier ++ e ∷ later
      → is_about c e.input ≡ true → let H = chronicle g earlier in let K = with_entry g e H in
      (groups K ≡ groups H) × (status K ≡ status H) × (has_stopped K ≡ has_stopped H)
  pub does : (earlier : List Entry) (e : Entry) (later : List Entry) (c : ℕ) (front rest : List Mark) (h : Mark)
      → J ≡ earlier ++ e ∷ later → is_about c e.input ≡ true → let H = chronicle g earlier in
      marks g e H ≡ front ++ h ∷ rest → IsDoneOn c (identity c (with_entry g e H)) h (after front (Comes e ∷ H))
  pub clock_is : (earlier : List Entry) (e : Entry) (later : List Entry) (c : ℕ) → J ≡ earlier ++ e ∷ later
      → is_about c e.input ≡ true → let H = chronicle g earlier in clock (with_entry g e H) ≡ max e.at (clock H)

-- Network agreement: what a node shows of another is what that one was, by its own account, as it queued the last
-- message that was processed.
use Rattle.std.specs.Prelude.{◌≡◌, ℕ, ◌≤◌, true, false, List, [], ◌++◌, Option, Some, None, if◌then◌else◌, nat_eq}
use Rattle.std.specs.Prelude.{length, take, flat_map}
use Rattle.std.specs.Option.{option_map_or}
use Rattle.std.specs.List.{filter_map, AllByRecursion}
use Rattle.zre_peer.specs.Runs.{told}
use Rattle.zre_journal.specs.Chronicle.{Mark}
use Rattle.zre_journal.specs.Connections.{runs}
use Rattle.zre_journal.specs.Heard.{bytes, was_opened}
use Rattle.zre_journal.specs.Ledger.{Ledger, IsNearWhereItComes}
use Rattle.zre_journal.specs.Peers.{Life, life, counted, view}
use Rattle.zre_journal.specs.Speaking.{moment}
use Rattle.zre_journal.specs.Spoken.{run_of}
use Rattle.zre_journal.specs.Told.{told_in}
use Rattle.zre_journal.specs.Truth.{own_view}
use Rattle.zre_net.specs.declared.moves.Move.{Move}
use Rattle.zre_net.specs.declared.moves.Move.TheVariants as move
use Rattle.zre_net.specs.declared.moves.Part.{Part}
use Rattle.zre_net.specs.declared.moves.Part.TheVariants as part
use Rattle.zre_net.specs.Carried.{spelling, pending}
use Rattle.zre_net.specs.Lists.{nth}
use Rattle.zre_net.specs.History.{Incarnation, Happening, Happens, IsKnown, gathered, journal, chronicle_of}
use Rattle.zre_net.specs.Numbers.{Route, CarriedConn, conns, queued_on}
use Rattle.zre_net.specs.Comes.{history}

-- ---- what is carried

abbrev pub part_on : ℕ → Happening → Option Part
part_on x (Happens (move.Carry y p) t) = if nat_eq x y then Some p else None
part_on x _ = None

-- the parts that connection x was made to carry, in order
abbrev pub carried : ℕ → List Happening → List Part
carried x H = gathered (part_on x) H

-- ---- what comes on a connection

-- all octets of some parts of a link
abbrev pub streamed : Route → List Happening → List Part → List ℕ
streamed s H parts = flat_map (spelling s H) parts

-- Connection x of the schedule is this one. The octets that have come on it at its node, where it opened, and those
-- that it has yet to hand in, joined, are the spellings of the parts that it was made to carry: what has come is a
-- front of them. Nothing comes on it at another node.
pub record IsHandedIn (H : List Happening) (x : ℕ) (c : CarriedConn) : Type 0 where
  pub in_order : was_opened x (chronicle_of c.to H) ≡ true
      → bytes x (chronicle_of c.to H) ++ pending x H ≡ streamed c.along H (carried x H)
  pub elsewhere : (b : Incarnation) → IsKnown H b → nat_eq b.number c.to.number ≡ false
      → was_opened x (chronicle_of b H) ≡ false

-- so it is of each connection, after each part of the schedule
abbrev pub HandsInOrder : List Move → Type 0
HandsInOrder s =
    (before later : List Move) → s ≡ before ++ later
    → (x : ℕ) (c : CarriedConn) → nth x (conns (history before)) ≡ Some c → IsHandedIn (history before) x c

-- ---- the messages that come

abbrev pub number_in : Part → Option ℕ
number_in (part.Message k) = Some k
number_in _ = None

-- What is sent on a connection are the messages that were queued so far on the link that it carries; and of these come,
-- one after another, the ones that it was made to carry.
abbrev pub ledger_of : List Happening → Ledger
ledger_of H = record {
  sent = λ x. option_map_or (λ (c : CarriedConn). queued_on c.along H) (nth x (conns H)) [];
  picks = λ x. filter_map number_in (carried x H);
}

-- ---- the window

-- At each node, each message that comes on a connection that runs a peer lies fewer than 65536 places of its link from
-- the one that is due.
abbrev pub IsWithinWindow : List Happening → Type 0
IsWithinWindow H = (b : Incarnation) → IsKnown H b → IsNearWhereItComes b.settings (ledger_of H) (journal b H)

-- each connection is made to carry at most 65535 messages, and none past the 65535th of its link
abbrev pub CarryFew : List Happening → Type 0
CarryFew H =
    (x : ℕ) → (length ((ledger_of H).picks x) ≤ 65535) × AllByRecursion (λ k. k ≤ 65535) ((ledger_of H).picks x)

-- ---- agreement

-- at the moment K of the node b, its connection x runs the peer v
pub record IsShown (H : List Happening) (b : Incarnation) (x : ℕ) (K : List Mark) (v : Life) : Type 0 where
  pub is_node : IsKnown H b
  pub later : List Mark
  pub is_moment : chronicle_of b H ≡ later ++ K
  pub is_known : life v.link K ≡ Some v
  pub is_run : runs x K ≡ Some v.link

-- x is a connection c of the schedule that opened at b, and the peer has the identity of the node whose link c carries.
-- The messages that b has counted are the first of that link, in order. Name, endpoint, headers, groups and status that
-- b has of the peer are what that node was, by its own account, just after it queued the last of them. What b told of
-- it in this run, but for EVASIVE, is what these messages tell, in order, and they are no fewer than at any earlier
-- moment of the run.
pub record Agrees (H : List Happening) (b : Incarnation) (x : ℕ) (K : List Mark) (v : Life) : Type 0 where
  pub c : CarriedConn
  pub is_conn : nth x (conns H) ≡ Some c
  pub is_here : c.to ≡ b
  pub is_its_peer : v.id ≡ c.along.from.settings.id
  pub are_first : counted v.link K ≡ take (length (counted v.link K)) (queued_on c.along H)
  pub shows_it : view v.link K ≡ own_view c.along.from.settings
      (moment c.along.link (length (counted v.link K)) (chronicle_of c.along.from H))
  pub tells_it : run_of v.id (told_in K) ≡ told v.id (take (length (counted v.link K)) (queued_on c.along H))
  pub grows : (J since : List Mark) → K ≡ since ++ J → runs x J ≡ Some v.link
      → length (counted v.link J) ≤ length (counted v.link K)

-- so it is at each moment of each node, of each peer that a connection runs
abbrev pub AllAgree : List Happening → Type 0
AllAgree H = (b : Incarnation) (x : ℕ) (K : List Mark) (v : Life) → IsShown H b x K v → Agrees H b x K v

-- Nodes agree: after each part of the schedule that is within the window.
abbrev pub IsAgreed : List Move → Type 0
IsAgreed s =
    (before later : List Move) → s ≡ before ++ later → IsWithinWindow (history before) → AllAgree (history before)

-- What a stop leaves, in which order links and connections are made and closed, and that the node is not its own peer.
use Rattle.std.specs.Prelude.{◌≡◌, ◌≢◌, ℕ, ◌+◌, true, false, List, [], ◌∷◌, ◌++◌, Option, Some, None, length, nat_eq}
use Rattle.std.specs.List.{filter_map, list_any}
use Rattle.zre_outside.specs.declared.act.Act.{Act}
use Rattle.zre_outside.specs.declared.act.Act.TheVariants as act
use Rattle.zre_peer.specs.declared.event.Event.{Event}
use Rattle.zre_peer.specs.declared.event.Event.TheVariants as event
use Rattle.zre_values.specs.declared.settings.Settings.{Settings as Config}
use Rattle.zre_journal.specs.Chronicle.{Mark}
use Rattle.zre_journal.specs.Connections.{open_ones, identity}
use Rattle.zre_journal.specs.Peers.{lives, life_of}

-- No peer is known, no connection is open, and the last event is STOP.
pub record LeavesNothing (es : List Event) (H : List Mark) : Type 0 where
  pub none_known : lives H ≡ []
  pub none_open : open_ones H ≡ []
  pub before : List Event
  pub stop_is_last : es ≡ before ++ event.Stop ∷ []

-- ---- acts

abbrev pub connects : Act → Option ℕ
connects (act.Connect l to) = Some l
connects _ = None

abbrev pub closes_link : Act → Option ℕ
closes_link (act.CloseLink l) = Some l
closes_link _ = None

abbrev pub closes_conn : Act → Option ℕ
closes_conn (act.CloseConn c) = Some c
closes_conn _ = None

-- the links that these acts connect and close, and the connections that they close, in their order
abbrev pub connected : List Act → List ℕ
connected done = filter_map connects done

abbrev pub closed_links : List Act → List ℕ
closed_links done = filter_map closes_link done

abbrev pub closed_conns : List Act → List ℕ
closed_conns done = filter_map closes_conn done

-- An act after others connects the link of the next number, closes a link that was connected and not closed, or a
-- connection that was not closed.
abbrev pub IsPaired : List Act → Act → Type 0
IsPaired before (act.Connect l to) = l ≡ length (connected before) + 1
IsPaired before (act.CloseLink l) =
    (list_any (nat_eq l) (connected before) ≡ true) × (list_any (nat_eq l) (closed_links before) ≡ false)
IsPaired before (act.CloseConn c) = list_any (nat_eq c) (closed_conns before) ≡ false
IsPaired before _ = Unit {0}

-- So the links of all CONNECTs are 1, 2, 3 and so on, a link is closed at most once and only after its CONNECT, and a
-- connection at most once.
abbrev pub ArePaired : List Act → Type 0
ArePaired done = (before later : List Act) (a : Act) → done ≡ before ++ a ∷ later → IsPaired before a

-- ---- the node itself

-- The node's own identity is that of no known peer, and none has come on a connection that is its own: it ignores its
-- own beacon (RFC 36, the beacon), and its READY (RFC 23).
pub record IsNoPeer (g : Config) (H : List Mark) : Type 0 where
  pub unknown : life_of g.id H ≡ None
  pub never_comes : (c : ℕ) → identity c H ≢ Some g.id

-- Acts: what the node asks of the outside, mark by mark, and the offers at the end of each entry.
use Rattle.std.specs.Prelude.{ℕ, if◌then◌else◌, Bool, false, ◌&&◌, ◌||◌, List, [], ◌∷◌, ◌++◌, None, nat_eq, nat_lt, map}
use Rattle.std.specs.List.{filter, list_any}
use Rattle.zre_values.specs.declared.peer_id.PeerId.{PeerId}
use Rattle.zre_beacon.specs.Beacon.{beacon_octets}
use Rattle.zre_zmtp.specs.declared.writing.SocketType.TheVariants as socket
use Rattle.zre_zmtp.specs.Written.{own_greeting, ready_frame, pong_frame}
use Rattle.zre_outside.specs.declared.entry.Entry.{Entry}
use Rattle.zre_outside.specs.declared.entry.Input.{Input}
use Rattle.zre_outside.specs.declared.entry.Input.TheVariants as input
use Rattle.zre_peer.specs.declared.causes.Cause.{Cause}
use Rattle.zre_peer.specs.declared.causes.Cause.TheVariants as cause
use Rattle.zre_outside.specs.declared.act.Act.{Act}
use Rattle.zre_outside.specs.declared.act.Act.TheVariants as act
use Rattle.zre_values.specs.declared.settings.Settings.{Settings as Config}
use Rattle.zre_journal.specs.Chronicle.{Mark, Opens, TurnsAway, Greets, AnswersPing, Closes, ClosesAtStop, Born, Ends}
use Rattle.zre_journal.specs.Chronicle.{Puts, SendsBeacon}
use Rattle.zre_journal.specs.Peers.{Life, lives}
use Rattle.zre_journal.specs.Links.{gate, taken}
use Rattle.zre_journal.specs.Happens.{has_stopped, marks, with_entry}

-- a link that broke needn't be closed
abbrev pub close_link : ℕ → Cause → List Act
close_link l cause.Link = []
close_link l _ = act.CloseLink l ∷ []

-- what a mark does
abbrev pub done_at : PeerId → Mark → List Act
done_at own (Born l p e) = act.Connect l e ∷ []
done_at own (Ends l why) = close_link l why
done_at own (TurnsAway c) = act.CloseConn c ∷ []
done_at own (Closes c why) = act.CloseConn c ∷ []
done_at own (ClosesAtStop c) = act.CloseConn c ∷ []
done_at own (Opens c) = act.Answer c own_greeting ∷ []
done_at own (Greets c) = act.Answer c (ready_frame socket.Router None) ∷ []
done_at own (AnswersPing c t) = act.Answer c (pong_frame t) ∷ []
done_at own (SendsBeacon port) = act.Beacon (beacon_octets own port) ∷ []
done_at own _ = []

-- what marks do, one after the other; own is the node's identity
abbrev pub done : PeerId → List Mark → List Act
done own [] = []
done own (h ∷ hs) = done_at own h ++ done own hs

-- whether the mark puts something on link l, and whether the entry names l
abbrev pub puts : ℕ → Mark → Bool
puts l (Puts k b) = nat_eq l k
puts l _ = false

abbrev pub names : ℕ → Input → Bool
names l (input.Linked k) = nat_eq l k
names l (input.Reply k o) = nat_eq l k
names l (input.Took k n) = nat_eq l k
names l _ = false

abbrev pub is_offered : Config → Entry → List Mark → List Mark → Life → Bool
is_offered g e hs K v = (list_any (puts v.link) hs || names v.link e.input) && nat_lt (taken v.link K) (gate g v.link K)

-- the known peers' links with something to offer, after the marks hs of the entry e
abbrev pub offers : Config → Entry → List Mark → List Mark → List Act
offers g e hs K = map (λ (v : Life). act.Offer v.link) (filter (is_offered g e hs K) (lives K))

-- the acts of one entry after H; after a stop there are none
abbrev pub acts_at : Config → Entry → List Mark → List Act
acts_at g e H = if has_stopped H then [] else done g.id (marks g e H) ++ offers g e (marks g e H) (with_entry g e H)

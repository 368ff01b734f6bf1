-- How many octets the rows of the tables hold, and up to the greatest number that is told.
use Rattle.std.specs.Prelude.{◌≡◌, ℕ, ◌+◌, ◌-◌, ◌^◌, min, Bool, List, length, Option, Some, None, option_and_then}
use Rattle.zre_values.specs.declared.peer_id.PeerId.{PeerId}
use Rattle.zre_mailbox.specs.Conn.{ConnHearing, conn_after, held_of}
use Rattle.zre_link.specs.Heard.{held_of as held_of_replies}
use Rattle.zre_link.specs.Link.{link_after}
use Rattle.zre_link.specs.Text.{Member}
use Rattle.zre_peer.specs.declared.view.View.{View}
use Rattle.zre_journal.specs.Held.{view_octets}
use Rattle.zre_tables.specs.declared.connection.Connection.{Connection}
use Rattle.zre_tables.specs.declared.peer.Peer.{Peer}
use Rattle.zre_tables.specs.Rows.{row_at}
use Rattle.zre_tables.specs.Views.{view_of_row}

-- a number, or the greatest that is told
abbrev pub capped : ℕ → ℕ
capped n = min n (2 ^ 64 - 1)

-- of what reads a connection, where something does
abbrev pub reader_octets : Option ConnHearing → ℕ
reader_octets None = 0
reader_octets (Some h) = held_of h

-- of the row of a connection
abbrev pub conn_row_octets : Connection → ℕ
conn_row_octets k = reader_octets k.conn

-- what reads the connection of a number, where it is open and something does
abbrev pub reader_at : ℕ → List (ℕ × Connection) → Option ConnHearing
reader_at n es = option_and_then (λ (k : Connection). k.conn) (row_at n es)

-- nothing reads it, or it stands after octets that came
abbrev pub IsReading : Option ConnHearing → Type 0
IsReading None = Unit {0}
IsReading (Some h) = (own : PeerId) × (o : List ℕ) × (h ≡ conn_after own o)

-- of a view, where there is one
abbrev pub shown_octets : Option View → ℕ
shown_octets None = 0
shown_octets (Some v) = view_octets v

-- of the row of a peer: the replies on its link, what waits there, and its view
abbrev pub peer_row_octets : Peer → ℕ
peer_row_octets k = held_of_replies k.link.replies + length k.link.queue + shown_octets (view_of_row k)

-- its link stands with its line, after what came back and what has gone out
pub record IsSending (k : Peer) : Type 0 where
  pub own : PeerId
  pub line : List Member
  pub linked : Bool
  pub replied : List ℕ
  pub gone : ℕ
  pub link_is : k.link ≡ link_after own line linked replied gone

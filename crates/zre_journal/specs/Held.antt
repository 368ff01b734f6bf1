-- The octets that a node holds of its peers, and how many they are at most.
use Rattle.std.specs.Prelude.{ℕ, ◌+◌, ◌*◌, ◌≤◌, List, length, if◌then◌else◌, sum_by}
use Rattle.std.specs.List.{filter, AllByRecursion}
use Rattle.zre_values.specs.declared.limits.TheConstants.{PEERS, CONNECTIONS, MESSAGE_OCTETS, COMMAND_OCTETS, GROUPS}
use Rattle.zre_values.specs.declared.limits.TheConstants.{HEADERS, GROUP_OCTETS, OWN_GROUPS, UNSENT_OCTETS}
use Rattle.zre_zmtp.specs.declared.want.Want.{Want}
use Rattle.zre_zmtp.specs.declared.want.Want.TheVariants.{Router, Dealer}
use Rattle.zre_zmtp.specs.Stream.{Whole, opened, split}
use Rattle.zre_peer.specs.declared.view.View.{View}
use Rattle.zre_values.specs.declared.settings.Settings.{Settings as Config}
use Rattle.zre_journal.specs.Chronicle.{Mark}
use Rattle.zre_journal.specs.Heard.{bytes}
use Rattle.zre_mailbox.specs.Conn.{conn_after, held_of}
use Rattle.zre_link.specs.Heard.{heard_after, held_of as held_of_replies}
use Rattle.zre_journal.specs.Connections.{open_ones, is_ignored, is_live}
use Rattle.zre_journal.specs.Peers.{Life, lives, is_entered, view}
use Rattle.zre_journal.specs.Links.{groups, is_linked, replies, unsent}

-- of the octets of a stream: the bodies of an unfinished message, and an unfinished greeting or frame
abbrev pub unfinished : Want → List ℕ → ℕ
unfinished want o = sum_by length (opened Whole (split want Whole o).0) + length (split want Whole o).1

-- of the names and values of headers
abbrev pub header_octets : List (List ℕ × List ℕ) → ℕ
header_octets hs = sum_by (λ (h : List ℕ × List ℕ). length h.0 + length h.1) hs

-- of a view
abbrev pub view_octets : View → ℕ
view_octets v = length v.name + length v.endpoint + header_octets v.headers + sum_by length v.groups

module _ (g : Config) (H : List Mark) where
  -- of a connection that is live
  abbrev pub conn_octets : ℕ → ℕ
  conn_octets c = unfinished (Dealer g.id) (bytes c H)

  -- of the replies on a link
  abbrev pub reply_octets : ℕ → ℕ
  reply_octets l = if is_linked l H then unfinished Router (replies l H) else 0

  -- of a known peer: replies, what is unsent, and its view where it is entered
  abbrev pub peer_octets : Life → ℕ
  peer_octets v = reply_octets v.link + unsent g v.link H + (if is_entered H v then view_octets (view v.link H) else 0)

  -- of the node itself
  abbrev pub own_octets : ℕ
  own_octets = length g.name + header_octets g.headers + sum_by length (groups H)

  -- all of them
  abbrev pub held : ℕ
  held = sum_by conn_octets (filter (λ c. is_live c H) (open_ones H)) + sum_by peer_octets (lives H) + own_octets

-- ---- what readers keep of it, and may look at again

module _ (g : Config) (H : List Mark) where
  -- of a connection: nothing, where it is ignored or has a fault
  abbrev pub conn_kept : ℕ → ℕ
  conn_kept c = if is_ignored c H then 0 else held_of (conn_after g.id (bytes c H))

  -- of the replies on a link
  abbrev pub replies_kept : Life → ℕ
  replies_kept v = held_of_replies (heard_after (replies v.link H))

  -- of all open connections and all links of known peers
  abbrev pub kept : ℕ
  kept = sum_by conn_kept (open_ones H) + sum_by replies_kept (lives H)

-- ---- at most

-- of a stream: the bodies of an unfinished message, a header, and the body of a command
abbrev pub stream_most : ℕ
stream_most = MESSAGE_OCTETS + 9 + COMMAND_OCTETS

-- of a view: what a HELLO has room for, and its groups
abbrev pub view_most : ℕ
view_most = MESSAGE_OCTETS + GROUPS * GROUP_OCTETS

-- of the node itself: its name, its headers and its groups
abbrev pub own_most : ℕ
own_most = 255 + HEADERS * (255 + 1024) + OWN_GROUPS * GROUP_OCTETS

pub record Within (g : Config) (H : List Mark) : Type 0 where
  -- few peers are known
  pub few_peers : length (lives H) ≤ PEERS
  -- few connections are open
  pub few_connections : length (open_ones H) ≤ CONNECTIONS
  -- each connection that is live leaves no more unfinished than a stream without a fault can
  pub by_connections : AllByRecursion (λ c. conn_octets g H c ≤ stream_most) (filter (λ c. is_live c H) (open_ones H))
  -- so do the replies on the link of each known peer
  pub by_replies : AllByRecursion (λ (v : Life). reply_octets g H v.link ≤ stream_most) (lives H)
  -- its link has no more to send than makes it slow
  pub by_unsent : AllByRecursion (λ (v : Life). unsent g v.link H ≤ UNSENT_OCTETS) (lives H)
  -- its view is no larger than a HELLO and groups make it
  pub by_views : AllByRecursion (λ (v : Life). view_octets (view v.link H) ≤ view_most) (lives H)
  -- the node's own texts are within the limits of settings and groups
  pub by_itself : own_octets g H ≤ own_most

-- what a node holds at most, with this many known peers and open connections
abbrev pub bound : ℕ → ℕ → ℕ
bound peers connections = 6618121 * peers + 1114121 * connections + 588799

-- What a node says of itself on its links.
use Rattle.std.specs.Prelude.{◌≡◌, ℕ, Bool, true, false, not, ◌&&◌, List, [], ◌∷◌, IsSome}
use Rattle.std.specs.List.{list_any}
use Rattle.zre_msg.specs.declared.message.Body.{Body}
use Rattle.zre_peer.specs.Members.{first_named}
use Rattle.zre_peer.specs.Runs.{is_hello}
use Rattle.zre_peer.specs.Views.{view_of}
use Rattle.zre_peer.specs.declared.view.View.{View}
use Rattle.zre_values.specs.declared.settings.Settings.{Settings as Config}
use Rattle.zre_journal.specs.Chronicle.{Mark}
use Rattle.zre_journal.specs.Config.{own_endpoint}
use Rattle.zre_journal.specs.Links.{groups, status, bodies, queued}
use Rattle.zre_journal.specs.Peers.{life}

-- the view of the node that is true now: its settings, its groups and its status
abbrev pub own_view : Config → List Mark → View
own_view g H =
    record {
      name = g.name;
      endpoint = own_endpoint g;
      headers = first_named g.headers;
      groups = groups H;
      status = status H;
    }

-- the first of these is HELLO, and no other is
abbrev pub only_begins_with_hello : List Body → Bool
only_begins_with_hello [] = false
only_begins_with_hello (b ∷ bs) = is_hello b && not (list_any is_hello bs)

-- On the link of each known peer HELLO is the first message and no other is, and who reads all that was put there has
-- the true view of the node (RFC 36, HELLO, JOIN and LEAVE).
pub record TellsTruth (g : Config) (H : List Mark) : Type 0 where
  pub hello_first : (l : ℕ) → IsSome (life l H) → only_begins_with_hello (bodies l H) ≡ true
  pub is_true : (l : ℕ) → IsSome (life l H) → view_of (queued l H) ≡ own_view g H

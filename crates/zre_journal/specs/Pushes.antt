-- What is put on the links of the peers (RFC 36, the messages HELLO and JOIN to SHOUT).
use Rattle.std.specs.Prelude.{ℕ, ◌+◌, List, [], ◌∷◌, if◌then◌else◌, nat_lt}
use Rattle.zre_values.specs.declared.peer_id.PeerId.{PeerId}
use Rattle.zre_values.specs.declared.endpoint.Endpoint.{Endpoint}
use Rattle.zre_values.specs.declared.limits.TheConstants.{UNSENT_OCTETS}
use Rattle.zre_msg.specs.declared.message.Body.{Body}
use Rattle.zre_msg.specs.declared.message.Body.TheVariants as body
use Rattle.zre_peer.specs.declared.causes.Cause.TheVariants as cause
use Rattle.zre_link.specs.Text.{size_of}
use Rattle.zre_values.specs.declared.settings.Settings.{Settings as Config}
use Rattle.zre_journal.specs.Chronicle.{Mark, Born, Ends, Puts, in_turn}
use Rattle.zre_journal.specs.Config.{own_endpoint}
use Rattle.zre_journal.specs.Peers.{Life, births}
use Rattle.zre_journal.specs.Links.{groups, status, line, unsent}

module _ (g : Config) where
  -- HELLO, as it is put on a link that is made now
  abbrev pub hello : List Mark → Body
  hello K = body.Hello (own_endpoint g) (groups K) (status K) g.name g.headers

  -- a body is put on link l, unless that makes its peer slow
  abbrev pub push : ℕ → Body → List Mark → List Mark
  push l b K =
      let size = size_of (line l K) b in
      if nat_lt UNSENT_OCTETS (unsent g l K + size) then Ends l (cause.Slow (unsent g l K) size) ∷ [] else Puts l b ∷ []

  -- the same for each of these peers
  abbrev pub push_all : List Life → Body → List Mark → List Mark
  push_all vs b K = in_turn (λ (v : Life) J. push v.link b J) vs K

  -- p is born with this endpoint (RFC 36, discovery and presence). Its link is the number of births
  abbrev pub birth : PeerId → Endpoint → List Mark → List Mark
  birth p e K = Born (births K + 1) p e ∷ Puts (births K + 1) (hello K) ∷ []

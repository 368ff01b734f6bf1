-- What `follow` makes of the octets of one connection of a peer, after its handshake.
use Rattle.std.specs.Prelude.{ℕ, Bool, not, ◌&&◌, List, [], is_some, if◌then◌else◌}
use Rattle.zre_values.specs.declared.peer_id.PeerId.{PeerId}
use Rattle.zre_peer.specs.Lines.{lines}
use Rattle.zre_commands.specs.Stream.{bad_end, is_bad as is_bad_stream}
use Rattle.zre_commands.specs.pump.Meaning.{Meaning}
use Rattle.zre_zmtp.specs.Stream.{Traffic, fault}
use Rattle.zre_zmtp.specs.declared.want.Want.TheVariants.{Any}
use Rattle.zre_commands.specs.follow.Messages.{messages}
use Rattle.zre_commands.specs.follow.Runs.{events_after, is_over}

-- the run has ended: what follows isn't examined
abbrev pub over : List ℕ → Bool
over o = is_over [] (messages o)

-- the lines of the events of the messages
abbrev pub text : PeerId → List ℕ → List ℕ
text id o = lines (events_after id [] (messages o))

-- what isn't over is refused where it has a fault of ZMTP
abbrev pub is_stopped : List ℕ → Bool
is_stopped o = not (over o) && is_some (fault Any Traffic o)

-- and at its end where it isn't at rest
abbrev pub is_bad : List ℕ → Bool
is_bad o = not (over o) && is_bad_stream Traffic o

-- all that `follow` makes of octets
abbrev pub follow : PeerId → Meaning
follow id = record {
  text = text id;
  is_stopped = is_stopped;
  is_bad = is_bad;
  ending = λ o. if is_bad o then bad_end Traffic o else [];
}

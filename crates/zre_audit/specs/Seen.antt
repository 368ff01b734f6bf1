-- What can be seen of an entry from outside: what it asks to be said, and who is born with it.
use Rattle.std.specs.Prelude.{Bool, true, false, List, [], ◌∷◌, Option, Some, None, option_map, if◌then◌else◌}
use Rattle.std.specs.List.{list_any}
use Rattle.std.specs.Option.{option_or}
use Rattle.zre_values.specs.declared.peer_id.PeerId.{PeerId}
use Rattle.zre_beacon.specs.Beacon.{beacon_in}
use Rattle.zre_msg.specs.declared.message.Body.{Body}
use Rattle.zre_msg.specs.declared.message.Body.TheVariants.{Whisper, Shout}
use Rattle.zre_outside.specs.declared.act.Act.{Act}
use Rattle.zre_outside.specs.declared.act.Act.TheVariants.{Connect}
use Rattle.zre_outside.specs.declared.entry.Command.TheVariants as command
use Rattle.zre_outside.specs.declared.entry.Input.{Input}
use Rattle.zre_outside.specs.declared.entry.Input.TheVariants.{Datagram, Do}
use Rattle.zre_peer.specs.declared.event.Event.{Event}
use Rattle.zre_peer.specs.declared.event.Event.TheVariants.{Enter}

-- the message that a user asks to be said
abbrev pub asked_by : Input → Option Body
asked_by (Do (command.Whisper p content)) = Some (Whisper content)
asked_by (Do (command.Shout group content)) = Some (Shout group content)
asked_by _ = None

-- the peer that it is to be said to, where it is to be said to one
abbrev pub whispered_by : Input → Option PeerId
whispered_by (Do (command.Whisper p content)) = Some p
whispered_by _ = None

-- the peer that a datagram announces
abbrev pub announced_by : Input → Option PeerId
announced_by (Datagram from octets) = option_map (λ b. b.0) (beacon_in octets)
announced_by _ = None

abbrev pub is_connect : Act → Bool
is_connect (Connect l to) = true
is_connect _ = false

abbrev pub entered_by : Event → Option PeerId
entered_by (Enter id name endpoint headers) = Some id
entered_by _ = None

-- the peer that enters first
abbrev pub first_entered : List Event → Option PeerId
first_entered [] = None
first_entered (e ∷ es) = option_or (entered_by e) (first_entered es)

-- the peer that is born with an entry: a link is made, to the peer that is announced or to the one that enters
abbrev pub born_with : Option PeerId → List Act → List Event → Option PeerId
born_with announced acts events = if list_any is_connect acts then option_or announced (first_entered events) else None

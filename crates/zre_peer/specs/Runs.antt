-- The messages of one peer: their events, and which of them are in order.
use Rattle.std.specs.Prelude.{ℕ, ◌+◌, ◌%◌, Bool, true, false, not, ◌&&◌, ◌==◌, List, [], ◌∷◌, ◌++◌, length, map, Option}
use Rattle.std.specs.Prelude.{Some, None, if◌then◌else◌}
use Rattle.zre_values.specs.declared.peer_id.PeerId.{PeerId}
use Rattle.zre_msg.specs.declared.message.Message.{Message}
use Rattle.zre_msg.specs.declared.message.Body.{Body}
use Rattle.zre_msg.specs.declared.message.Body.TheVariants.{Hello, Whisper, Shout, Join, Leave, Ping, PingOk, Other}
use Rattle.zre_peer.specs.Members.{distinct, first_named}
use Rattle.zre_peer.specs.Views.{is_small, view_of}
use Rattle.zre_peer.specs.declared.event.Event.{Event}
use Rattle.zre_peer.specs.declared.event.Event.TheVariants as events
use Rattle.zre_peer.specs.declared.view.View.{View}
use Rattle.zre_peer.specs.declared.peer_run.RunFault.{RunFault}
use Rattle.zre_peer.specs.declared.peer_run.RunFault.TheVariants as faults

-- the events of a message of this peer, whose view before it is v
abbrev pub events_of : PeerId → View → Body → List Event
events_of id v (Hello endpoint groups status name headers) =
    events.Enter id name endpoint (first_named headers) ∷ map (λ g. events.Join id name g) (distinct groups)
events_of id v (Whisper content) = events.Whisper id v.name content ∷ []
events_of id v (Shout group content) = events.Shout id v.name group content ∷ []
events_of id v (Join group status) = events.Join id v.name group ∷ []
events_of id v (Leave group status) = events.Leave id v.name group ∷ []
events_of id v Ping = []
events_of id v PingOk = []
events_of id v (Other number rest more) = []

abbrev pub is_hello : Body → Bool
is_hello (Hello endpoint groups status name headers) = true
is_hello (Whisper content) = false
is_hello (Shout group content) = false
is_hello (Join group status) = false
is_hello (Leave group status) = false
is_hello Ping = false
is_hello PingOk = false
is_hello (Other number rest more) = false

-- the number of the message after some messages: they are numbered 1, 2, 3 and so on, modulo 65536
abbrev pub due : List Message → ℕ
due messages = (length messages + 1) % 65536

-- whether a message may stand after these, which are in order: the first is HELLO and no later one is, each has
-- the number that is due, and the view after it is within the limits
abbrev pub may_follow : List Message → Message → Bool
may_follow [] m = is_hello m.body && (m.sequence == 1) && is_small (view_of (m ∷ []))
may_follow (d ∷ ds) m = not (is_hello m.body) && (m.sequence == due (d ∷ ds)) && is_small (view_of ((d ∷ ds) ++ m ∷ []))

-- why it may not: the first that holds
abbrev pub fault_of : List Message → Message → RunFault
fault_of [] m = if is_hello m.body && (m.sequence == 1) then faults.Limit else faults.NotHello
fault_of (d ∷ ds) m =
    if is_hello m.body then faults.SecondHello
    else if m.sequence == due (d ∷ ds) then faults.Limit
    else faults.Broken (due (d ∷ ds)) m.sequence

-- some messages after others are in order: each may follow those before it
abbrev pub in_order_after : List Message → List Message → Bool
in_order_after done [] = true
in_order_after done (m ∷ ms) = may_follow done m && in_order_after (done ++ m ∷ []) ms

abbrev pub in_order : List Message → Bool
in_order messages = in_order_after [] messages

-- the events of messages in order, message by message
abbrev pub told_later : PeerId → List Message → List Message → List Event
told_later id done [] = []
told_later id done (m ∷ ms) = events_of id (view_of done) m.body ++ told_later id (done ++ m ∷ []) ms

abbrev pub told : PeerId → List Message → List Event
told id messages = told_later id [] messages

-- the view that a run shows: none before the first message
abbrev pub shown : List Message → Option View
shown [] = None
shown (m ∷ ms) = Some (view_of (m ∷ ms))

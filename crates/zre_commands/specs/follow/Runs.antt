-- The events of the messages of one connection, up to the end of its run.
use Rattle.std.specs.Prelude.{Bool, true, false, List, [], ◌∷◌, ◌++◌, Option, Some, None, if◌then◌else◌}
use Rattle.zre_values.specs.declared.peer_id.PeerId.{PeerId}
use Rattle.zre_msg.specs.declared.message.Message.{Message}
use Rattle.zre_peer.specs.Runs.{events_of, may_follow, fault_of, shown}
use Rattle.zre_peer.specs.Views.{view_of}
use Rattle.zre_peer.specs.declared.causes.Cause.{Cause}
use Rattle.zre_peer.specs.declared.causes.Cause.TheVariants as causes
use Rattle.zre_peer.specs.declared.causes.IgnoreWhy.{IgnoreWhy}
use Rattle.zre_peer.specs.declared.causes.IgnoreWhy.TheVariants as whys
use Rattle.zre_peer.specs.declared.event.Event.{Event}
use Rattle.zre_peer.specs.declared.event.Event.TheVariants.{Exit, Ignored}
use Rattle.zre_peer.specs.declared.peer_run.RunFault.{RunFault}
use Rattle.zre_peer.specs.declared.peer_run.RunFault.TheVariants as faults
use Rattle.zre_peer.specs.declared.view.View.{View}

-- the cause of an EXIT, by why a message doesn't belong to the run
abbrev pub cause_of : RunFault → Cause
cause_of (faults.Broken due got) = causes.Order due got
cause_of faults.NotHello = causes.Hello
cause_of faults.SecondHello = causes.Hello
cause_of faults.Limit = causes.Limit
cause_of faults.OutOfMemory = causes.Limit

-- the reason of an IGNORED
abbrev pub why_of : RunFault → IgnoreWhy
why_of faults.NotHello = whys.NotHello
why_of faults.SecondHello = whys.NotHello
why_of (faults.Broken due got) = whys.NotHello
why_of faults.Limit = whys.Limit
why_of faults.OutOfMemory = whys.Limit

-- the event at the end of a run: IGNORED of connection 1 where nothing of the peer was told yet, else EXIT
abbrev pub end_of : PeerId → Option View → RunFault → Event
end_of id None fault = Ignored 1 (why_of fault)
end_of id (Some v) fault = Exit id v.name (cause_of fault)

-- the events of one message after others: its own, or the end of the run
abbrev pub told : PeerId → List Message → Message → List Event
told id done m =
    if may_follow done m then events_of id (view_of done) m.body else end_of id (shown done) (fault_of done m) ∷ []

-- the events of messages after others, up to the end of the run
unfoldable pub events_after : PeerId → List Message → List Message → List Event
events_after id done [] = []
events_after id done (m ∷ ms) =
    told id done m ++ (if may_follow done m then events_after id (done ++ m ∷ []) ms else [])

-- whether the run ends within the messages: one of them may not follow those before it
unfoldable pub is_over : List Message → List Message → Bool
is_over done [] = false
is_over done (m ∷ ms) = if may_follow done m then is_over (done ++ m ∷ []) ms else true

-- Events: what the user is told, mark by mark.
use Rattle.std.specs.Prelude.{List, [], ◌∷◌, ◌++◌, Option, Some, None, if◌then◌else◌}
use Rattle.zre_peer.specs.declared.causes.Cause.{Cause}
use Rattle.zre_peer.specs.declared.causes.CloseWhy.TheVariants as close
use Rattle.zre_peer.specs.declared.event.Event.{Event}
use Rattle.zre_peer.specs.declared.event.Event.TheVariants as event
use Rattle.zre_msg.specs.declared.message.Message.{Message}
use Rattle.zre_journal.specs.Chronicle.{Mark, TurnsAway, Starts, Counts, Ignores, Closes, Ends, IsEvasive, Refuses}
use Rattle.zre_journal.specs.Chronicle.{Stops}
use Rattle.zre_peer.specs.Runs.{events_of}
use Rattle.zre_journal.specs.Peers.{Life, life, is_entered, view}

-- EXIT, where the peer is entered
abbrev pub exit : Option Life → Cause → List Mark → List Event
exit None why H = []
exit (Some v) why H = if is_entered H v then event.Exit v.id (view v.link H).name why ∷ [] else []

abbrev pub by_message : Option Life → Message → List Mark → List Event
by_message None m H = []
by_message (Some v) m H = events_of v.id (view v.link H) m.body

abbrev pub becoming_evasive : Option Life → List Mark → List Event
becoming_evasive None H = []
becoming_evasive (Some v) H = event.Evasive v.id (view v.link H).name ∷ []

-- what a mark tells; H is the chronicle before it
abbrev pub told_at : Mark → List Mark → List Event
told_at (TurnsAway c) H = event.Closed c close.TooMany ∷ []
told_at (Closes c why) H = event.Closed c why ∷ []
told_at (Ignores c why) H = event.Ignored c why ∷ []
told_at (Starts c l m) H = by_message (life l H) m H
told_at (Counts c l m) H = by_message (life l H) m H
told_at (Ends l why) H = exit (life l H) why H
told_at (IsEvasive l) H = becoming_evasive (life l H) H
told_at (Refuses why) H = event.Refused why ∷ []
told_at Stops H = event.Stop ∷ []
told_at _ H = []

abbrev pub told : List Mark → List Mark → List Event
told [] H = []
told (h ∷ hs) H = told_at h H ++ told hs (h ∷ H)

-- what all marks of a chronicle told, the oldest first
abbrev pub told_in : List Mark → List Event
told_in [] = []
told_in (h ∷ H) = told_in H ++ told_at h H

-- The lines of events: fields with one space between, and a line feed.
use Rattle.std.specs.Prelude.{ℕ, List, ◌++◌, codes, decimal}
use Rattle.std.specs.List.{flat_map}
use Rattle.zre_values.specs.Text.{id_text, quoted, quoted_list, quoted_pairs}
use Rattle.zre_values.specs.declared.peer_id.PeerId.{PeerId}
use Rattle.zre_peer.specs.Causes.{cause_text, close_text, ignore_text, refuse_text}
use Rattle.zre_peer.specs.declared.event.Event.{Event}
use Rattle.zre_peer.specs.declared.event.Event.TheVariants.{Enter, Join, Leave, Whisper, Shout, Evasive, Exit, Stop}
use Rattle.zre_peer.specs.declared.event.Event.TheVariants.{Closed, Ignored, Refused}

-- who the peer is, before further fields: its identity and its name
abbrev pub who_text : PeerId → List ℕ → List ℕ
who_text id name = id_text id ++ codes " " ++ quoted name ++ codes " "

-- what stands after that: a group, frames of content, or both
abbrev pub group_end : List ℕ → List ℕ
group_end group = quoted group ++ codes "\n"

abbrev pub content_end : List (List ℕ) → List ℕ
content_end content = quoted_list content ++ codes "\n"

abbrev pub shout_end : List ℕ → List (List ℕ) → List ℕ
shout_end group content = quoted group ++ codes " " ++ content_end content

abbrev pub enter_end : List ℕ → List (List ℕ × List ℕ) → List ℕ
enter_end endpoint headers = quoted endpoint ++ codes " " ++ quoted_pairs headers ++ codes "\n"

-- the line of an event
abbrev pub line : Event → List ℕ
line (Enter id name endpoint headers) = codes "ENTER " ++ who_text id name ++ enter_end endpoint headers
line (Join id name group) = codes "JOIN " ++ who_text id name ++ group_end group
line (Leave id name group) = codes "LEAVE " ++ who_text id name ++ group_end group
line (Whisper id name content) = codes "WHISPER " ++ who_text id name ++ content_end content
line (Shout id name group content) = codes "SHOUT " ++ who_text id name ++ shout_end group content
line (Evasive id name) = codes "EVASIVE " ++ id_text id ++ codes " " ++ quoted name ++ codes "\n"
line (Exit id name cause) = codes "EXIT " ++ who_text id name ++ cause_text cause ++ codes "\n"
line Stop = codes "STOP\n"
line (Closed conn why) = codes "CLOSED " ++ decimal conn ++ codes " " ++ close_text why ++ codes "\n"
line (Ignored conn why) = codes "IGNORED " ++ decimal conn ++ codes " " ++ ignore_text why ++ codes "\n"
line (Refused why) = codes "REFUSED " ++ refuse_text why ++ codes "\n"

-- the lines of some events, one after the other
abbrev pub lines : List Event → List ℕ
lines events = flat_map line events

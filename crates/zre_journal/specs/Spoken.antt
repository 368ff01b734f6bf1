-- Which events are of a peer, and whether it is in, as the events tell.
use Rattle.std.specs.Prelude.{◌≡◌, ℕ, Bool, true, false, not, List, [], ◌∷◌, ◌++◌, Option, Some, None, if◌then◌else◌}
use Rattle.std.specs.Option.{option_map_or}
use Rattle.std.specs.List.{fold}
use Rattle.std.specs.Str.{bytes_eq}
use Rattle.zre_values.specs.declared.peer_id.PeerId.{PeerId}
use Rattle.zre_peer.specs.Runs.{told}
use Rattle.zre_peer.specs.declared.event.Event.{Event}
use Rattle.zre_peer.specs.declared.event.Event.TheVariants as event
use Rattle.zre_journal.specs.Chronicle.{Mark}
use Rattle.zre_journal.specs.Connections.{is_same}
use Rattle.zre_journal.specs.Peers.{Life, life, life_of, runner, is_entered}
use Rattle.zre_journal.specs.Laws.{counted_on}

-- the peer that an event is of
abbrev pub subject : Event → Option PeerId
subject (event.Enter id name endpoint headers) = Some id
subject (event.Join id name group) = Some id
subject (event.Leave id name group) = Some id
subject (event.Whisper id name content) = Some id
subject (event.Shout id name group content) = Some id
subject (event.Evasive id name) = Some id
subject (event.Exit id name why) = Some id
subject _ = None

abbrev pub is_enter : Event → Bool
is_enter (event.Enter id name endpoint headers) = true
is_enter _ = false

-- whether p is in after an event, where b says whether it was before it
abbrev pub in_after : PeerId → Bool → Event → Bool
in_after p b (event.Enter id name endpoint headers) = if bytes_eq p.0 id.0 then true else b
in_after p b (event.Exit id name why) = if bytes_eq p.0 id.0 then false else b
in_after p b _ = b

-- whether p is in after these events: it has entered, and hasn't gone since
abbrev pub is_in : PeerId → List Event → Bool
is_in p es = fold (in_after p) false es

-- whether p is known, and entered
abbrev pub has_entered : PeerId → List Mark → Bool
has_entered p H = option_map_or (is_entered H) (life_of p H) false

-- An event of a peer is its ENTER where the peer isn't in, and another where it is. So all that is told of it stands
-- between an ENTER and the next EXIT, and H, from which the events come, says the same of who is in.
pub record AreInTurn (es : List Event) (H : List Mark) : Type 0 where
  pub enters_first : (before later : List Event) (e : Event) (p : PeerId) → es ≡ before ++ e ∷ later
      → subject e ≡ Some p → is_enter e ≡ not (is_in p before)
  pub stands : (p : PeerId) → is_in p es ≡ has_entered p H

-- the events of a run of p, with one more event, where these were so far: ENTER begins a run anew, and EVASIVE isn't
-- counted
abbrev pub run_with : PeerId → List Event → Event → List Event
run_with p es (event.Enter id name endpoint headers) =
    if bytes_eq p.0 id.0 then event.Enter id name endpoint headers ∷ [] else es
run_with p es (event.Evasive id name) = es
run_with p es e = if is_same p (subject e) then es ++ e ∷ [] else es

-- the events of p from its last ENTER on, but for EVASIVE
abbrev pub run_of : PeerId → List Event → List Event
run_of p es = fold (run_with p) [] es

-- What was told of an entered peer since its ENTER is what the messages of its connection tell, in their order and
-- without a gap.
abbrev pub FollowsMessages : List Event → List Mark → Type 0
FollowsMessages es H =
    (c l : ℕ) (v : Life) → life l H ≡ Some v → runner l H ≡ Some c → run_of v.id es ≡ told v.id (counted_on c H)

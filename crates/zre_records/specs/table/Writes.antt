-- The writes that a journal brings to the table of a group.
use Rattle.std.specs.Prelude.{ℕ, Bool, true, false, not, ◌&&◌, List, [], ◌∷◌, ◌++◌, flat_map, filter_map, if◌then◌else◌}
use Rattle.std.specs.List.{list_any}
use Rattle.std.specs.Str.{bytes_eq}
use Rattle.zre_outside.specs.declared.entry.Command.{Command}
use Rattle.zre_outside.specs.declared.entry.Command.TheVariants as command
use Rattle.zre_outside.specs.declared.entry.Entry.{Entry}
use Rattle.zre_outside.specs.declared.entry.Input.{Input}
use Rattle.zre_outside.specs.declared.entry.Input.TheVariants.{Do}
use Rattle.zre_peer.specs.declared.event.Event.{Event}
use Rattle.zre_peer.specs.declared.event.Event.TheVariants.{Whisper, Shout, Refused}
use Rattle.zre_values.specs.declared.settings.Settings.{Settings as Config}
use Rattle.zre_journal.specs.Chronicle.{Mark}
use Rattle.zre_journal.specs.Events.{events_at}
use Rattle.zre_journal.specs.Happens.{has_stopped, with_entry}
use Rattle.zre_shared.specs.Writes.{write_of}
use Rattle.zre_shared.specs.declared.write.Write.{Write}

-- the content of a whisper, or of a shout to the group
abbrev pub frames_told : List ℕ → Event → List (List ℕ)
frames_told group (Whisper id name content) = content
frames_told group (Shout id name to content) = if bytes_eq to group then content else []
frames_told group _ = []

-- the content that a command asks to shout to the group
abbrev pub frames_asked : List ℕ → Command → List (List ℕ)
frames_asked group (command.Shout to content) = if bytes_eq to group then content else []
frames_asked group _ = []

abbrev pub frames_shouted : List ℕ → Input → List (List ℕ)
frames_shouted group (Do c) = frames_asked group c
frames_shouted group _ = []

-- a command isn't done
abbrev pub is_refusal : Event → Bool
is_refusal (Refused why) = true
is_refusal _ = false

module _ (g : Config) (group : List ℕ) where
  -- what the user asks for by an entry after H is done: the node hasn't stopped, and tells no refusal
  abbrev pub is_done : Entry → List Mark → Bool
  is_done e H = not (has_stopped H) && not (list_any is_refusal (events_at g e H))

  -- the frames of content of one entry after H: those that its events bring, and those of a shout that is done
  abbrev pub frames_at : Entry → List Mark → List (List ℕ)
  frames_at e H =
      flat_map (frames_told group) (events_at g e H) ++ (if is_done e H then frames_shouted group e.input else [])

  -- those of entries that come after H, in their order
  abbrev pub frames_after : List Entry → List Mark → List (List ℕ)
  frames_after [] H = []
  frames_after (e ∷ es) H = frames_at e H ++ frames_after es (with_entry g e H)

  -- those of a journal
  abbrev pub frames : List Entry → List (List ℕ)
  frames J = frames_after J []

  -- the writes among them
  abbrev pub writes : List Entry → List Write
  writes J = filter_map write_of (frames J)

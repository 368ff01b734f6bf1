-- The headline's two lists: what a journal tells, and what it does.
use Rattle.std.specs.Prelude.{List, [], ◌∷◌, ◌++◌}
use Rattle.zre_outside.specs.declared.entry.Entry.{Entry}
use Rattle.zre_outside.specs.declared.act.Act.{Act}
use Rattle.zre_peer.specs.declared.event.Event.{Event}
use Rattle.zre_values.specs.declared.settings.Settings.{Settings as Config}
use Rattle.zre_journal.specs.Chronicle.{Mark, Comes}
use Rattle.zre_journal.specs.Happens.{marks, with_entry, chronicle_after}
use Rattle.zre_journal.specs.Told.{told}
use Rattle.zre_journal.specs.Done.{acts_at}

module _ (g : Config) where
  -- the events of one entry after H
  abbrev pub events_at : Entry → List Mark → List Event
  events_at e H = told (marks g e H) (Comes e ∷ H)

  -- the events of entries that come after H
  abbrev pub events_after : List Entry → List Mark → List Event
  events_after [] H = []
  events_after (e ∷ es) H = events_at e H ++ events_after es (with_entry g e H)

  -- the acts of entries that come after H
  abbrev pub acts_after : List Entry → List Mark → List Act
  acts_after [] H = []
  acts_after (e ∷ es) H = acts_at g e H ++ acts_after es (with_entry g e H)

  -- what happened in a journal
  abbrev pub chronicle : List Entry → List Mark
  chronicle journal = chronicle_after g journal []

  -- the journal's events: what the node tells
  abbrev pub events : List Entry → List Event
  events journal = events_after journal []

  -- the journal's acts: what the node asks of the outside
  abbrev pub acts : List Entry → List Act
  acts journal = acts_after journal []

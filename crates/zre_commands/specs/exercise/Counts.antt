-- What events come to.
use Rattle.std.specs.Prelude.{ℕ, ◌+◌, List, length, sum_by}
use Rattle.zre_peer.specs.declared.event.Event.{Event}
use Rattle.zre_peer.specs.declared.event.Event.TheVariants.{Enter, Join, Leave, Whisper, Shout, Exit}
use Rattle.zre_commands.specs.declared.exercise.counts.Counts.{Counts}

abbrev pub nothing : Counts
nothing = record { entries = 0; enter = 0; join = 0; leave = 0; whisper = 0; shout = 0; exit = 0; content = 0 }

-- what an event is counted as: one of its kind, and the octets of its content frames
abbrev pub counts_of : Event → Counts
counts_of (Enter id name endpoint headers) = record nothing { enter = 1 }
counts_of (Join id name group) = record nothing { join = 1 }
counts_of (Leave id name group) = record nothing { leave = 1 }
counts_of (Whisper id name content) = record nothing { whisper = 1; content = sum_by length content }
counts_of (Shout id name group content) = record nothing { shout = 1; content = sum_by length content }
counts_of (Exit id name cause) = record nothing { exit = 1 }
counts_of _ = nothing

-- the counts of so many entries that raised these events
abbrev pub tally : ℕ → List Event → Counts
tally entries es = record {
  entries = entries;
  enter = sum_by (λ e. (counts_of e).enter) es;
  join = sum_by (λ e. (counts_of e).join) es;
  leave = sum_by (λ e. (counts_of e).leave) es;
  whisper = sum_by (λ e. (counts_of e).whisper) es;
  shout = sum_by (λ e. (counts_of e).shout) es;
  exit = sum_by (λ e. (counts_of e).exit) es;
  content = sum_by (λ e. (counts_of e).content) es;
}

-- ---- counting

abbrev pub with_entry : Counts → Counts
with_entry c = record c { entries = c.entries + 1 }

abbrev pub with_event : Counts → Event → Counts
with_event c e = record {
  entries = c.entries;
  enter = c.enter + (counts_of e).enter;
  join = c.join + (counts_of e).join;
  leave = c.leave + (counts_of e).leave;
  whisper = c.whisper + (counts_of e).whisper;
  shout = c.shout + (counts_of e).shout;
  exit = c.exit + (counts_of e).exit;
  content = c.content + (counts_of e).content;
}

-- How a chat ended, and what became of what was handed in.
use Rattle.std.specs.Prelude.{◌≡◌, ◌≤◌, ℕ, Option, None}
use Rattle.zre_outside.specs.Refusals.{Refusals}
use Rattle.zre_commands.specs.declared.pump.status.Status.{Status}
use Rattle.zre_console.specs.Statuses.{IsFirst, IsReadSo}
use Rattle.zre_chat.specs.declared.chat.Chat.{Chat}
use Rattle.zre_chat.specs.Chat.{IsChat}
use Rattle.zre_chat.specs.Views.{Views, Handed, seen_of}

-- h was handed in to a chat, and h' came back; refused, refused': the reads that the source tells that it refused;
-- each of writes, records and worlds says of an object that none of its calls was refused
pub record ChatOutcome {I W O R P : Type 0} (v : Views I W O R P) (plan : Chat) (limit : ℕ) (status : Status)
    (h h' : Handed I W O R P) (refused refused' : Option Refusals) (writes records worlds : Type 0) : Type 0 where
  -- what was read, given, done, written and recorded, and the status
  pub chat : IsChat plan.config plan.start plan.capture limit (seen_of v h) (seen_of v h') status
  -- the status is the first of what occurred
  pub first : IsFirst status writes records worlds (v.refusals h'.spawner ≡ v.refusals h.spawner)
  pub read : IsReadSo status refused refused'
  -- without a capture the recorder comes back as it was; counts of faults never fall
  pub unrecorded : plan.capture ≡ None → h'.rec ≡ h.rec
  pub faults : (v.streams.read_faults h.input ≤ v.streams.read_faults h'.input)
      × (v.streams.write_faults h.out ≤ v.streams.write_faults h'.out) × (v.refusals h.spawner ≤ v.refusals h'.spawner)

use Rattle.std.proofs.Common.{refl, sym, ap, ◌∙◌, ◌∷◌, List}
use Rattle.zre_outside.specs.declared.entry.Entry.{Entry}
use Rattle.zre_capture.specs.Exercise.{introduced}
use Rattle.zre_capture.specs.Left.{left_at}
use Rattle.zre_capture.proofs.EntriesLeft.{at_messages, messages_end, same_left}
use Rattle.zre_capture.proofs.exercise.Exercise.next.Goals as goal
use Rattle.zre_capture.proofs.exercise.Exercise.next.Goals.{in-Beacon+in_ok-entry-in-Beacon, in-Opened, in-Introduction+in_ok-entry-in-Introduction, in-Messages, in-First+in_ok-entry-in-First, in-Second+in_ok-entry-in-Second}

pub returns-clause-given : goal.returns-clause-given
returns-clause-given c =
    let s = c.begin.new.self in
    sym c.begin.ensures.same ∙ elim c.match-self.branch [
      | in-Beacon+in_ok-entry-in-Beacon w ↦ rw (w.self-is, w.entry-is, w.in_ok-entry-in-Beacon.ensures) (ap (λ t. left_at t s) w.in-Beacon.is)
      | in-Opened w ↦ rw (w.self-is, w.entry-is, w.opened-entry.ensures) (ap (λ t. left_at t s) w.in-Opened.is)
      | in-Introduction+in_ok-entry-in-Introduction w ↦
          let i = w.in-Introduction.peer in
          rw (w.self-is, w.entry-is, w.in_ok-entry-in-Introduction.ensures)
          (ap (λ t. left_at t s) w.in-Introduction.is ∙ ap (λ (es : List Entry). introduced i ∷ es) (sym w.after-self.ensures ∙ same_left w.after-self.result s _ refl refl refl refl refl refl))
      | in-Messages w ↦ rw (w.self-is, w.entry-is, w.quits-entry.ensures) (at_messages s w.in-Messages.is ∙ messages_end s.peers s.x s.message s.messages (c.begin.ensures.end w.in-Messages.is))
      | in-First+in_ok-entry-in-First w ↦ rw (w.self-is, w.entry-is, w.in_ok-entry-in-First.ensures, w.first.ensures) (ap (λ t. left_at t s) w.in-First.is)
      | in-Second+in_ok-entry-in-Second w ↦ rw (w.self-is, w.entry-is, w.in_ok-entry-in-Second.ensures, w.second.ensures) (ap (λ t. left_at t s) w.in-Second.is)
    ]

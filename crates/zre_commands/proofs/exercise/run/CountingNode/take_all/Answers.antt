use Rattle.zre_capture.specs.Left.{left}
use Rattle.zre_commands.proofs.exercise.NodeOnJournal.{takes_none, takes_one, takes_on, takes_all, less_left, gave, gave_none}
use Rattle.zre_commands.proofs.exercise.run.CountingNode.take_all.Goals as goal

pub entries-init : goal.entries-init
entries-init c = takes_none (left c.args.exercise.now) c.args.self.now

pub entries-preserved : goal.entries-preserved
entries-preserved c =
    takes_on _ (left c.next.new.self) (left c.take_messages.new.exercise) _ c.take.new.self c.take_messages.new.self
    (takes_one _ (left c.entries.exercise) (left c.next.new.self) c.in-Some.entry _ c.entries.self c.take.new.self
    (gave c.in_ok-entry.field-0 c.in-Some.entry (left c.entries.exercise) (left c.next.new.self) c.in-Some.is c.in_ok-entry.ensures.given)
    c.entries.invariant c.in_ok-take.ensures)
    c.in_ok-take_messages.ensures

pub entries-smaller : goal.entries-smaller
entries-smaller c =
    less_left (left c.entries.exercise) (left c.next.new.self) (left c.take_messages.new.exercise) c.in-Some.entry c.take.new.self c.take_messages.new.self
    (gave c.in_ok-entry.field-0 c.in-Some.entry (left c.entries.exercise) (left c.next.new.self) c.in-Some.is c.in_ok-entry.ensures.given)
    c.in_ok-take_messages.ensures

pub returns : goal.returns
returns c = λ g J counted.
    takes_all g J (left c.args.exercise.now) (left c.entries.exercise) c.args.self.now c.entries.self
    (gave_none c.in_ok-entry.field-0 (left c.entries.exercise) (left c.next.new.self) c.in_ok-entry.ensures.given c.in_default.not-Some)
    c.entries.invariant counted

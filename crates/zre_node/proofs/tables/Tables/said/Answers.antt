use Rattle.std.proofs.Common.{map}
use Rattle.zre_mailbox.specs.Talk.{Arrived, arrivals_in, fault_said}
use Rattle.zre_mailbox.specs.declared.arrival.Arrival.{Arrival}
use Rattle.zre_journal.specs.Chronicle.{in_turn}
use Rattle.zre_journal.specs.Arrivals.{at_place}
use Rattle.zre_journal.proofs.JoinedEntries.{in_turn-append}
use Rattle.zre_node.specs.Stands.{Did}
use Rattle.zre_values.proofs.AnswersThatAreOk.{on_ok}
use Rattle.zre_node.proofs.MarksAfterMarks.{did_as, did_then}
use Rattle.zre_node.proofs.tables.Tables.said.Goals as goal

pub returns : goal.returns
returns c = λ g K h.
    let f = at_place g c.args.conn in
    let xs = map (λ (a : Arrival). Arrived a) (arrivals_in c.args.items.now) in
    let ys = fault_said c.args.fault in
    let first = c.in_ok-arrive_all.ensures g K h in
    on_ok c.fault.result (c.fault.ensures g _ first.holds) (λ second.
    did_as g _ _ K _ _ _ (in_turn-append f xs ys K)
    (did_then g (in_turn f xs K) _ K c.arrive_all.new.self c.fault.new.self c.args.out.now c.arrive_all.new.out c.fault.new.out first second))

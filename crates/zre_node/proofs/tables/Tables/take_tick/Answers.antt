use Rattle.std.proofs.Common.{◌∷◌}
use Rattle.zre_journal.specs.Chronicle.{Comes}
use Rattle.zre_journal.specs.Happens.{at_input}
use Rattle.zre_values.proofs.AnswersThatAreOk.{on_ok}
use Rattle.zre_node.proofs.MarksAfterMarks.{did_as}
use Rattle.zre_node.proofs.WholeEntries.{took}
use Rattle.zre_node.proofs.TicksOfTables.{tick_named, tick_input}
use Rattle.zre_node.proofs.tables.Tables.take_tick.Goals as goal

pub returns : goal.returns
returns c = λ g H e at_is is none h.
    let K = Comes e ∷ H in
    let q = tick_named e is in
    let d = did_as g (at_input g e.input H K) _ K c.tick.new.self c.args.out.now c.tick.new.out (tick_input g e H K is) (c.in_ok-tick.ensures g K (c.come.ensures g H e at_is q.1 h)) in
    on_ok c.offer.result (c.offer.ensures g _ d.holds) (λ o. took g e H c.tick.new.self c.args.out.now c.tick.new.out c.offer.new.out h.keeps.going q.0 none d o)

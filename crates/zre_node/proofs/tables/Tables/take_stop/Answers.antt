use Rattle.zre_values.proofs.AnswersThatAreOk.{on_ok}
use Rattle.zre_node.proofs.WholeEntries.{ending, took_stop}
use Rattle.zre_node.proofs.tables.Tables.take_stop.Goals as goal

pub returns : goal.returns
returns c = λ g H e at_is end h.
    let q = ending g e.input H _ end in
    on_ok c.stop.result (c.stop.ensures g _ (c.come.ensures g H e at_is q.1 h)) (λ s. took_stop g e H c.stop.new.self c.args.out.now c.stop.new.out h.keeps.going q.0 s)

use Rattle.std.proofs.Common.{◌≡◌, Some, sym, ◌∙◌, subst}
use Rattle.std.specs.Result.{OnOk}
use Rattle.zre_journal.specs.Arrivals.{at_message}
use Rattle.zre_journal.specs.Connections.{runs}
use Rattle.zre_node.specs.Stands.{Did}
use Rattle.zre_node.proofs.tables.Tables.arrive_message.Goals as goal

pub returns-in-Some : goal.returns-in-Some
returns-in-Some c = λ g H h live run who.
    let on : runs c.args.conn H ≡ Some c.in-Some.link = sym run ∙ c.in-Some.is in
    subst (λ r. OnOk c.later_whole-taken.result (Did g (at_message g c.args.conn r c.args.message H) H c.later_whole-taken.new.self c.args.out.now c.later_whole-taken.new.out)) (sym on)
    (c.later_whole-taken.ensures g H c.args.conn h on)

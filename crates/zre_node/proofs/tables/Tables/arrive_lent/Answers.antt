use Rattle.std.proofs.Common.{List, ℕ, subst}
use Rattle.std.specs.Result.{OnOk}
use Rattle.zre_mailbox.specs.Talk.{arrival_of}
use Rattle.zre_zmtp.specs.declared.item.What.TheVariants.{Message}
use Rattle.zre_node.specs.Said.{at_item}
use Rattle.zre_node.specs.Stands.{Did}
use Rattle.zre_node.proofs.tables.Tables.arrive_lent.Goals as goal

pub returns : goal.returns
returns c = λ g H h live run who.
    subst (λ (fs : List (List ℕ)). OnOk c.arrive_copied-taken.result (Did g (at_item g c.args.conn (arrival_of (Message fs)) H) H c.arrive_copied-taken.new.self c.args.out.now c.arrive_copied-taken.new.out)) c.in_ok-copied.ensures (c.arrive_copied-taken.ensures g H h live run who)

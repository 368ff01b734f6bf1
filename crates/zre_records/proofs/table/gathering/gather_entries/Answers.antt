use Rattle.zre_records.proofs.table.WritesOfEntry.{gathered_none, gathered_more}
use Rattle.zre_records.proofs.table.gathering.gather_entries.Goals as goal

pub loop-entry-init : goal.loop-entry-init
loop-entry-init c = λ g J k. gathered_none g c.args.group.now J c.args.node.now c.args.replica.now k

pub loop-entry-preserved : goal.loop-entry-preserved
loop-entry-preserved c = λ g J k.
    gathered_more g c.args.group.now J c.loop-entry.yielded c.in-Some.entry c.gather_entry.new.node c.gather_entry.new.replica (c.in_ok-gather_entry.ensures g _ (c.loop-entry.invariant g J k))

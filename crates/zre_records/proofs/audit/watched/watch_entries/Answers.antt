use Rattle.zre_records.proofs.audit.WatchAfterSettings.{watches_none, watches_more}
use Rattle.zre_records.proofs.audit.watched.watch_entries.Goals as goal

pub loop-entry-init : goal.loop-entry-init
loop-entry-init c = λ g J k. watches_none g J c.args.watch.now k

pub loop-entry-preserved : goal.loop-entry-preserved
loop-entry-preserved c = λ g J k. watches_more g J c.loop-entry.yielded c.in-Some.entry c.step.new.self (c.in_ok-step.ensures g _ (c.loop-entry.invariant g J k))

use Rattle.std.proofs.Common.{◌∙◌}
use Rattle.zre_tables.proofs.RowsInOrder.{lies, replaced, rising_with, rising_set}
use Rattle.zre_tables.proofs.rows.Rows.insert.Goals as goal

pub returns-in-Ok-clause-ok : goal.returns-in-Ok-clause-ok
returns-in-Ok-clause-ok g c =
    let old = c.args.self.now.all.items in
    let it = lies old c.args.number c.in-Ok.at c.index_mut.result.now c.requires c.in-Ok.ensures.ok c.index_mut.ensures.value in
    it.set c.args.row ∙ replaced c.args.number c.index_mut.result.now.1 c.args.row old c.requires it.there_is

pub returns-in-Ok-clause-rising : goal.returns-in-Ok-clause-rising
returns-in-Ok-clause-rising g c =
    let old = c.args.self.now.all.items in
    let it = lies old c.args.number c.in-Ok.at c.index_mut.result.now c.requires c.in-Ok.ensures.ok c.index_mut.ensures.value in
    rw (it.set c.args.row) (rising_set c.args.number c.args.row old c.requires)

pub returns-in_ok-insert-in-Err-clause-rising : goal.returns-in_ok-insert-in-Err-clause-rising
returns-in_ok-insert-in-Err-clause-rising g c =
    let old = c.args.self.now.all.items in
    rw (c.in_ok-insert-in-Err.ensures.items ∙ c.in-Err.ensures.err.2 c.args.row) (rising_with c.args.number c.args.row old c.requires)

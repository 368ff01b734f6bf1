use Rattle.std.proofs.Common.{arith, sym, ◌∙◌}
use Rattle.std.proofs.lemmas.Option.{slice_get_within}
use Rattle.zre_tables.proofs.RowsInOrder.{lies, rising_without, without_none}
use Rattle.zre_tables.proofs.rows.Rows.remove.Goals as goal

pub returns-in_err-at-clause-rows : goal.returns-in_err-at-clause-rows
returns-in_err-at-clause-rows g c = sym (without_none c.args.number c.args.self.now.all.items c.in_err-at.ensures)

pub remove-requires : goal.remove-requires
remove-requires g c = omega (arith, slice_get_within c.args.self.now.all.items c.in_ok-at.at _ c.in_ok-at.ensures.1, c.args.self.now.all.ok.0)

pub returns-clause-value : goal.returns-clause-value
returns-clause-value g c =
    sym (lies c.args.self.now.all.items c.args.number c.in_ok-at.at c.remove.result c.requires c.in_ok-at.ensures c.remove.ensures.value).there_is

pub returns-clause-rows : goal.returns-clause-rows
returns-clause-rows g c =
    c.remove.ensures.items ∙ (lies c.args.self.now.all.items c.args.number c.in_ok-at.at c.remove.result c.requires c.in_ok-at.ensures c.remove.ensures.value).taken

pub returns-clause-rising : goal.returns-clause-rising
returns-clause-rising g c =
    rw (c.remove.ensures.items ∙ (lies c.args.self.now.all.items c.args.number c.in_ok-at.at c.remove.result c.requires c.in_ok-at.ensures c.remove.ensures.value).taken)
    (rising_without c.args.number c.args.self.now.all.items c.requires)

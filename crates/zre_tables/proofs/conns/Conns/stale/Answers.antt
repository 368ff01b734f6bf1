use Rattle.std.proofs.Common.{sym, ap, ◌∙◌}
use Rattle.zre_tables.specs.Rows.{numbers_of}
use Rattle.zre_tables.specs.Searches.{row_stale}
use Rattle.zre_tables.proofs.IdleConnections.{none_stale}
use Rattle.zre_tables.proofs.conns.Conns.stale.Goals as goal

pub returns-then-not-has_passed-clause-found : goal.returns-then-not-has_passed-clause-found
returns-then-not-has_passed-clause-found c =
    let i = c.self.inside in
    c.new.ensures ∙ sym (none_stale c.args.limit c.args.now i.first i.rows.all.items (sym c.has_passed.ensures ∙ c.if-not-has_passed.true) c.self.invariant.1) ∙ ap (numbers_of (row_stale c.args.limit c.args.now)) c.self.view_is

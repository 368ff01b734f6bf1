use Rattle.std.proofs.Common.{◌∙◌, ap, not}
use Rattle.zre_tables.specs.declared.connection.Connection.{Connection}
use Rattle.zre_node.proofs.EndsOfPeers.{no_conn, row_conn, live_by, not_live}
use Rattle.zre_node.proofs.tables.Tables.standing.Goals as goal

pub returns-in_default : goal.returns-in_default
returns-in_default c = λ g H h. not_live c.args.conn H (no_conn g H c.args.self.now h.keeps c.args.conn c.in_default.ensures.value)

pub returns-then-is_none : goal.returns-then-is_none
returns-then-is_none c = λ g H h.
    let r = row_conn g H c.args.self.now h.keeps c.args.conn c.in-Some.found.now c.in-Some.ensures.value in
    live_by g H c.args.conn c.in-Some.found.now r.0 r.1 ∙ c.is_none.ensures ∙ ap not c.if-is_none.true

pub returns : goal.returns
returns c = λ g H h.
    let r = row_conn g H c.args.self.now h.keeps c.args.conn c.in-Some.found.now c.in-Some.ensures.value in
    (live_by g H c.args.conn c.in-Some.found.now r.0 r.1 ∙ c.is_none.ensures ∙ ap not c.if-is_none.false, ap (λ (x : Connection). x.run) r.1, ap (λ (x : Connection). x.identity) r.1)

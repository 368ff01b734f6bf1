use Rattle.std.proofs.Common.{refl, sym, ◌∙◌}
use Rattle.zre_journal.specs.Chronicle.{HearsBeacon}
use Rattle.zre_node.proofs.MarksOfDatagrams.{ends_it, renews_it, bears_it, leaves_it, welcome_is, known_by, unknown_by}
use Rattle.zre_node.proofs.MarksAfterMarks.{idle_did, silent_did}
use Rattle.zre_node.proofs.RowsOfKnownPeers.{nearly}
use Rattle.zre_node.proofs.tables.Tables.datagram.Goals as goal

pub returns-then-port-eq0 : goal.returns-then-port-eq0
returns-then-port-eq0 c = λ g H h.
    let b = c.in-Some.field-0 in
    let v = known_by g H c.args.self.now b.id c.in-Some-link_of.link h c.in-Some-link_of.ensures in
    rw (ends_it g c.args.from c.args.bytes.now H b.id b.port (sym c.in-Some.ensures.read) v.0 v.1 c.if-port-eq0.true, v.2) (c.end.ensures g H (nearly g H c.in-Some-link_of.link c.args.self.now h) v.3)

pub returns-else-port-eq0 : goal.returns-else-port-eq0
returns-else-port-eq0 c = λ g H h.
    let b = c.in-Some.field-0 in
    let v = known_by g H c.args.self.now b.id c.in-Some-link_of.link h c.in-Some-link_of.ensures in
    rw (renews_it g c.args.from c.args.bytes.now H b.id b.port (sym c.in-Some.ensures.read) v.0 v.1 c.if-port-eq0.false, v.2)
    (silent_did g (HearsBeacon c.in-Some-link_of.link) H c.renew.new.self c.args.out.now (c.renew.ensures g H h v.3) refl refl (λ l. refl))

pub returns-then-not-is_welcome : goal.returns-then-not-is_welcome
returns-then-not-is_welcome c = λ g H h.
    let b = c.in-Some.field-0 in
    let w = sym (welcome_is g H c.args.self.now b.id b.port h) ∙ sym c.is_welcome.ensures ∙ c.if-not-is_welcome.true in
    rw (leaves_it g c.args.from c.args.bytes.now H b.id b.port (sym c.in-Some.ensures.read) (unknown_by g H c.args.self.now b.id h c.in-None.ensures) w) (idle_did g H c.args.self.now c.args.out.now h)

pub returns-else-not-is_welcome : goal.returns-else-not-is_welcome
returns-else-not-is_welcome c = λ g H h.
    let b = c.in-Some.field-0 in
    let w = sym (welcome_is g H c.args.self.now b.id b.port h) ∙ sym c.is_welcome.ensures ∙ c.if-not-is_welcome.false in
    rw (bears_it g c.args.from c.args.bytes.now H b.id b.port (sym c.in-Some.ensures.read) (unknown_by g H c.args.self.now b.id h c.in-None.ensures) w) (c.born.ensures g H h)

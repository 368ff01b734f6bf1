use Rattle.std.proofs.Common.{◌≡◌, Bool, cond, [], Some, true, false, refl, sym, ap, ◌∙◌, subst}
use Rattle.std.specs.Result.{OnOk, result_ok}
use Rattle.zre_msg.specs.Reading.{read_frames}
use Rattle.zre_mailbox.specs.Talk.{arrival_of}
use Rattle.zre_zmtp.specs.Lending.{bodies_in}
use Rattle.zre_zmtp.specs.declared.item.What.TheVariants.{Message}
use Rattle.zre_journal.specs.Connections.{is_live, runs}
use Rattle.zre_node.specs.Said.{at_item, at_read}
use Rattle.zre_node.specs.Stands.{Did}
use Rattle.zre_node.proofs.LentPieces.{one_arrives, comes_later}
use Rattle.zre_node.proofs.MarksAfterMarks.{did_as, idle_did}
use Rattle.zre_node.proofs.tables.Tables.said_lent.Goals as goal

pub returns-in_default : goal.returns-in_default
returns-in_default c = λ g K h.
    let off = c.in_default.ensures g K h in
    did_as g _ [] K c.args.self.now c.args.out.now c.args.out.now
    (one_arrives g c.args.conn (arrival_of (Message (bodies_in c.args.bodies.now))) K ∙ ap (λ (b : Bool). cond b (at_item g c.args.conn (arrival_of (Message (bodies_in c.args.bodies.now))) K) []) off)
    (idle_did g K c.args.self.now c.args.out.now h)

pub returns-in-Some-run : goal.returns-in-Some-run
returns-in-Some-run c = λ g K h.
    let stands = c.in-Some.ensures g K h in
    let a = arrival_of (Message (bodies_in c.args.bodies.now)) in
    let on : runs c.args.conn K ≡ Some c.in-Some-run.link = sym stands.1 ∙ c.in-Some-run.is in
    subst (λ hs. OnOk c.later_lent.result (Did g hs K c.later_lent.new.self c.args.out.now c.later_lent.new.out))
    (comes_later g c.args.conn c.in-Some-run.link (result_ok (read_frames (bodies_in c.args.bodies.now))) K on ∙ ap (λ (b : Bool). cond b (at_item g c.args.conn a K) []) (sym stands.0) ∙ sym (one_arrives g c.args.conn a K))
    (c.later_lent.ensures g K c.args.conn h on)

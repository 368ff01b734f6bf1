use Rattle.std.proofs.Common.{◌≡◌, ◌∷◌, sym, subst, true}
use Rattle.zre_outside.specs.declared.entry.Input.{Input}
use Rattle.zre_journal.specs.Chronicle.{Comes}
use Rattle.zre_journal.specs.Happens.{at_input}
use Rattle.zre_node.specs.Kinds.{is_incoming}
use Rattle.zre_node.specs.Links.{Notes}
use Rattle.zre_node.specs.Stands.{Did}
use Rattle.zre_values.proofs.AnswersThatAreOk.{on_ok}
use Rattle.zre_node.proofs.WholeEntries.{quiet_incoming, took_noted}
use Rattle.zre_node.proofs.tables.Tables.take_incoming.Goals as goal

pub returns : goal.returns
returns c = λ g H e at_is is covered none h.
    let held = c.come.ensures g H e at_is (quiet_incoming e.input (subst (λ (i : Input). is_incoming i ≡ true) (sym is) covered)) h in
    let d = subst (λ (i : Input). Did g (at_input g i H (Comes e ∷ H)) (Comes e ∷ H) c.bring.new.self c.note.new.out c.bring.new.out) (sym is) (c.in_ok-bring.ensures g H _ covered held) in
    let notes = subst (λ (i : Input). Notes i c.args.out.now c.note.new.out) (sym is) c.in_ok-note.ensures in
    on_ok c.offer.result (c.offer.ensures g _ d.holds) (λ o. took_noted g e H c.bring.new.self c.args.out.now c.note.new.out c.bring.new.out c.offer.new.out h.keeps.going none notes d o)

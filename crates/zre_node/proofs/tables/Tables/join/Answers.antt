use Rattle.std.proofs.Common.{ℕ, ◌≤◌, List, ◌∷◌, length, sym, ap, ◌∙◌, subst}
use Rattle.zre_group.specs.Own.{with_joined}
use Rattle.zre_msg.specs.declared.message.Body.TheVariants as body
use Rattle.zre_journal.specs.Chronicle.{Joins}
use Rattle.zre_journal.specs.Pushes.{push_all}
use Rattle.zre_journal.specs.Peers.{lives}
use Rattle.zre_node.specs.declared.tables.Tables.{Tables}
use Rattle.zre_node.proofs.MarksOfCommands.{next_is, had_room, joined, joins, joins_tell}
use Rattle.zre_values.proofs.AnswersThatAreOk.{on_ok}
use Rattle.zre_node.proofs.MarksAfterMarks.{did_as}
use Rattle.zre_node.proofs.tables.Tables.join.Goals as goal

pub returns-in-Ok : goal.returns-in-Ok
returns-in-Ok c = λ g K h.
    let t = c.args.self.now in
    let group = c.args.group in
    let is = c.as_slice.ensures in
    let short : length group ≤ 255 = subst (λ (n : ℕ). n ≤ 255) c.len.ensures c.if-len-gt-GROUP_OCTETS.false in
    let room = had_room g K t h group _ is (λ q. let z = c.in-Ok.ensures.same q in cc) (λ q n. let z = c.in-Ok.ensures.limit q n in cc) (subst (λ (n : ℕ). n ≤ 1024) c.len-2.ensures.exact c.len-2.ensures.limit) in
    let held = joined g K t h group c.join.new.self (c.in-Ok.ensures.ok ∙ ap (λ (x : List ℕ). with_joined t.own x) is) short in
    let number = c.in-Ok.ensures.status ∙ next_is g K t h group _ is in
    let m : Tables = record t { own = c.join.new.self } in
    on_ok c.push_everywhere.result (c.push_everywhere.ensures g (Joins group ∷ K) held) (λ second.
    did_as g _ _ K _ _ _ (joins g K group short room.0 room.1 ∙ ap (λ (n : ℕ). Joins group ∷ push_all g (lives K) (body.Join group n) K) (sym number))
    (joins_tell g K group (body.Join group c.in-Ok.status) m c.push_everywhere.new.self c.args.out.now c.push_everywhere.new.out held second))

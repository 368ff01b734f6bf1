use Rattle.std.proofs.Common.{◌≡◌, ℕ, ◌<◌, List, ◌∷◌, length, false, sym, ap, ◌∙◌, subst}
use Rattle.zre_group.specs.Own.{is_joined, with_left}
use Rattle.zre_msg.specs.declared.message.Body.TheVariants as body
use Rattle.zre_journal.specs.Chronicle.{Leaves}
use Rattle.zre_journal.specs.Pushes.{push_all}
use Rattle.zre_journal.specs.Links.{groups}
use Rattle.zre_journal.specs.Peers.{lives}
use Rattle.zre_node.specs.declared.tables.Tables.{Tables}
use Rattle.zre_node.proofs.MarksOfCommands.{next_is, had_group, not_joined, left, no_group, leaves, leaves_tell}
use Rattle.zre_values.proofs.AnswersThatAreOk.{on_ok}
use Rattle.zre_node.proofs.MarksAfterMarks.{did_as}
use Rattle.zre_node.proofs.FirstMessages.{on_did_as}
use Rattle.zre_node.proofs.tables.Tables.leave.Goals as goal

pub returns-then-len-gt-GROUP_OCTETS : goal.returns-then-len-gt-GROUP_OCTETS
returns-then-len-gt-GROUP_OCTETS c = λ g K h.
    let group = c.args.group in
    let long : 255 < length group = subst (λ (n : ℕ). 255 < n) c.len.ensures c.if-len-gt-GROUP_OCTETS.true in
    on_did_as g _ _ K _ _ _ c.decline.result (no_group g K group (not_joined group (groups K) long h.keeps.groups_fit)) (c.decline.ensures g K c.args.self.now h)

pub returns-in-Ok : goal.returns-in-Ok
returns-in-Ok c = λ g K h.
    let t = c.args.self.now in
    let group = c.args.group in
    let is = c.as_slice.ensures in
    let had = had_group g K t h group _ is (λ (q : is_joined t.own c.as_slice.result.now ≡ false). let z = c.in-Ok.ensures.no_group.1 q in cc) in
    let held = left g K t h group c.leave.new.self (c.in-Ok.ensures.ok ∙ ap (λ (x : List ℕ). with_left t.own x) is) in
    let number = c.in-Ok.ensures.status ∙ next_is g K t h group _ is in
    let m : Tables = record t { own = c.leave.new.self } in
    on_ok c.push_everywhere.result (c.push_everywhere.ensures g (Leaves group ∷ K) held) (λ second.
    did_as g _ _ K _ _ _ (leaves g K group had ∙ ap (λ (n : ℕ). Leaves group ∷ push_all g (lives K) (body.Leave group n) K) (sym number))
    (leaves_tell g K group (body.Leave group c.in-Ok.status) m c.push_everywhere.new.self c.args.out.now c.push_everywhere.new.out held second))

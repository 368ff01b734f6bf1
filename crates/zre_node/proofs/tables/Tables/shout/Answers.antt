use Rattle.std.proofs.Common.{◌≡◌, ℕ, ◌≤◌, List, filter, length, sym, ap, ◌∙◌, subst, OnOk}
use Rattle.zre_msg.specs.declared.message.Body.{Body}
use Rattle.zre_msg.specs.declared.message.Body.TheVariants as body
use Rattle.zre_journal.specs.Chronicle.{in_turn}
use Rattle.zre_journal.specs.Commands.{is_member}
use Rattle.zre_journal.specs.Peers.{lives}
use Rattle.zre_journal.specs.Pushes.{push}
use Rattle.zre_tables.specs.Views.{row_in}
use Rattle.zre_node.specs.Stands.{AreKnown, Did}
use Rattle.zre_tables.specs.Rows.{numbers_of}
use Rattle.zre_node.proofs.BodyOnSeveralLinks.{push_links, members_are, some_known}
use Rattle.zre_node.proofs.MarksOfCommands.{shouts}
use Rattle.zre_node.proofs.FirstMessages.{on_did_as}
use Rattle.zre_node.proofs.StopOfNode.{link_list}
use Rattle.zre_node.proofs.tables.Tables.shout.Goals as goal

pub returns : goal.returns
returns c = λ g K h.
    let t = c.args.self.now in
    let group = c.args.group in
    let content = c.args.content in
    let vs = filter (is_member g group K) (lives K) in
    let short : length group ≤ 255 = subst (λ (n : ℕ). n ≤ 255) c.len.ensures c.if-len-gt-GROUP_OCTETS.false in
    let links : c.as_slice-2.result.now ≡ link_list vs = c.as_slice-2.ensures ∙ c.in_ok-links.ensures ∙ ap (λ (x : List ℕ). numbers_of (row_in x) t.peers) c.as_slice.ensures ∙ members_are g K t h group in
    let shown = c.in-Shout.is in
    let named = c.as_slice-3.ensures in
    let spelled = c.in_ok-tail.ensures in
    let said : body.Shout c.as_slice-3.result.now c.in_ok-tail.tail ≡ body.Shout group content = cc in
    on_did_as g _ _ K _ _ _ c.shout_all-shouted.result (shouts g K group content short (sym c.is_big.ensures ∙ c.if-is_big.false) ∙ push_links g c.as_slice-2.result.now vs (body.Shout group content) K links)
    (subst (λ (m : Body). OnOk c.shout_all-shouted.result (Did g (in_turn (λ l J. push g l m J) c.as_slice-2.result.now K) K c.shout_all-shouted.new.self c.args.out.now c.shout_all-shouted.new.out)) said
    (c.shout_all-shouted.ensures g K h (subst (λ (ls : List ℕ). AreKnown K ls) (sym links) (some_known g K t h (is_member g group K)))))

use Rattle.std.proofs.Common.{List, take}
use Rattle.zre_msg.specs.declared.message.Body.TheVariants as body
use Rattle.zre_journal.specs.Chronicle.{Mark, in_turn, after}
use Rattle.zre_journal.specs.Pushes.{push}
use Rattle.zre_node.proofs.BodyOnSeveralLinks.{known_in_turn}
use Rattle.zre_node.proofs.MarksAfterMarks.{one_more_link, all_links}
use Rattle.zre_node.proofs.tables.Tables.shout_all.Goals as goal

pub loop-link-preserved : goal.loop-link-preserved
loop-link-preserved c = λ g K h k.
    let i = c.loop-link.link-index in
    let links = c.args.links.now in
    let b = body.Shout c.args.group.now c.args.tail.now in
    let so_far = c.loop-link.invariant g K h k in
    let known = known_in_turn g b links K i c.loop-link-test.true k in
    let J : List Mark = after (in_turn (λ l J. push g l b J) (take i links) K) K in
    one_more_link g (λ l J. push g l b J) links i K c.loop-link.self c.push_shout.new.self c.args.out.now c.loop-link.out c.push_shout.new.out c.loop-link-test.true so_far
    (c.in_ok-push_shout.ensures g J so_far.holds known)

pub returns : goal.returns
returns c = λ g K h k.
    let b = body.Shout c.args.group.now c.args.tail.now in
    all_links g (λ l J. push g l b J) c.args.links.now c.loop-link.link-index K c.loop-link.self c.args.out.now c.loop-link.out c.loop-link-test.false (c.loop-link.invariant g K h k)

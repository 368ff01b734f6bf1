use Rattle.std.proofs.Common.{subst, sym, ◌∙◌, List, take, get_or}
use Rattle.zre_msg.specs.declared.message.Body.{Body}
use Rattle.zre_msg.specs.Spelling.{FitsBody}
use Rattle.zre_journal.specs.Chronicle.{Mark, in_turn, after}
use Rattle.zre_journal.specs.Pushes.{push}
use Rattle.zre_node.specs.Stands.{Did}
use Rattle.zre_node.proofs.BodyOnSeveralLinks.{known_in_turn}
use Rattle.zre_node.proofs.MarksAfterMarks.{one_more_link, all_links}
use Rattle.zre_node.proofs.tables.Tables.push_all.Goals as goal

pub push-requires : goal.push-requires
push-requires c = subst FitsBody (sym c.loop-link.invariant.lent) c.requires

pub loop-link-preserved : goal.loop-link-preserved
loop-link-preserved c = record {
  lent = c.push.ensures.lent ∙ c.loop-link.invariant.lent;
  did = λ g K h k.
      let i = c.loop-link.link-index in
      let links = c.args.links.now in
      let b = c.args.body.now in
      let so_far = c.loop-link.invariant.did g K h k in
      let known = known_in_turn g b links K i c.loop-link-test.true k in
      let J : List Mark = after (in_turn (λ l J. push g l b J) (take i links) K) K in
      one_more_link g (λ l J. push g l b J) links i K c.loop-link.self c.push.new.self c.args.out.now c.loop-link.out c.push.new.out c.loop-link-test.true so_far
      (subst (λ (x : Body). Did g (push g (get_or links i 0) x J) J c.push.new.self c.loop-link.out c.push.new.out) c.loop-link.invariant.lent (c.in_ok-push.ensures.did g J so_far.holds known));
}

pub returns-clause-did : goal.returns-clause-did
returns-clause-did c = λ g K h k. all_links g (λ l J. push g l c.args.body.now J) c.args.links.now c.loop-link.link-index K c.loop-link.self c.args.out.now c.loop-link.out c.loop-link-test.false (c.loop-link.invariant.did g K h k)

use Rattle.zre_node.proofs.EffectsOnLinks.{linked_did, took_did, other_input}
use Rattle.zre_node.proofs.tables.Tables.bring_link.Goals as goal
use Rattle.zre_node.proofs.tables.Tables.bring_link.Goals.{in-Linked, in-Unlinked, in-Took, in_default}

pub returns : goal.returns
returns c = λ g H K about h. elim c.match-input.branch [
  | in-Linked w ↦ rw (w.self-is, w.out-is, w.result-is, w.in-Linked.is) (linked_did g K w.in-Linked.link w.linked.new.self c.args.out.now (w.linked.ensures g K h))
  | in-Unlinked w ↦ rw (w.self-is, w.out-is, w.result-is, w.in-Unlinked.is) (w.unlinked.ensures g K h)
  | in-Took w ↦ rw (w.self-is, w.out-is, w.result-is, w.in-Took.is) (took_did g K w.in-Took.link w.in-Took.count w.took.new.self c.args.out.now (w.took.ensures g K h))
  | in_default w ↦ other_input c.args.input w.in_default.not-Linked w.in_default.not-Unlinked w.in_default.not-Took about
]

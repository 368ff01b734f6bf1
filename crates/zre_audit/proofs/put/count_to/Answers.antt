use Rattle.std.proofs.Common.{sym}
use Rattle.zre_audit.proofs.CountedMessages.{count_one, count_none}
use Rattle.zre_audit.proofs.put.count_to.Goals as goal
use Rattle.zre_audit.proofs.put.count_to.Goals.{in-Some+in_ok-push, in_default}

pub returns : goal.returns
returns c = λ g J s. elim c.match-link_of.branch [
  | in-Some+in_ok-push w ↦ rw w.counts-is (count_one g J c.args.id w.in-Some.link c.new-counts.result w.push.new.self w.count_on.result c.new-counts.ensures (sym (w.in-Some.ensures g J s)) (w.count_on.ensures g J s) w.in_ok-push.ensures.ok)
  | in_default w ↦ rw w.counts-is (count_none g J c.args.id c.new-counts.result c.new-counts.ensures (sym (w.in_default.ensures g J s)))
]

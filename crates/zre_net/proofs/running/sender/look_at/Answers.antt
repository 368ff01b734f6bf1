use Rattle.std.proofs.Common.{arith}
use Rattle.zre_values.proofs.AnswersThatAreOk.{on_ok}
use Rattle.zre_net.proofs.LooksAtLinks.{look_seen}
use Rattle.zre_net.proofs.running.sender.look_at.Goals as goal

pub returns : goal.returns
returns c = λ g J s. on_ok c.note.result c.note.ensures (λ n.
    let p = c.in-Some-checked_sub.ensures in
    look_seen g J c.args.link c.in-Some-checked_sub.place c.in-Some.sent c.in-Some-waiting.waits.now c.args.lines.now c.note.new.self (omega (arith, p.0, p.1)) (c.in-Some.ensures g J s) (c.in-Some-waiting.ensures.octets g J s) (c.in-Some-waiting.ensures.within g J s) n)

use Rattle.std.proofs.Common.{arith}
use Rattle.zre_net.specs.Comes.{history}
use Rattle.zre_net.proofs.HandedOutEvents.{runs_on, told_on}
use Rattle.zre_net.proofs.running.network.Network.take.Goals as goal

pub returns-then-self-before-clause-good : goal.returns-then-self-before-clause-good
returns-then-self-before-clause-good c = λ ms h. (c.in_ok-good.ensures (history ms) h.stands).fits

pub returns-then-self-before-clause-runs : goal.returns-then-self-before-clause-runs
returns-then-self-before-clause-runs c = λ ms h.
    runs_on ms c.args.one c.in_ok-good.good c.args.self.now c.advance.new.self c.hand_out.new.self h (c.in_ok-good.ensures (history ms) h.stands)
    (λ s. c.hand_out.ensures.left _ s (let q = c.in-Some.ensures in let n = c.len.ensures in let t = c.if-self-before.true in omega (arith, q.0, q.1, n, t)))

pub returns-then-self-before-clause-told : goal.returns-then-self-before-clause-told
returns-then-self-before-clause-told c = λ ms h.
    told_on ms c.args.one c.in_ok-good.good c.args.self.now c.advance.new.self c.hand_out.new.told h (c.in_ok-good.ensures (history ms) h.stands) c.if-self-before.true c.hand_out.ensures.told

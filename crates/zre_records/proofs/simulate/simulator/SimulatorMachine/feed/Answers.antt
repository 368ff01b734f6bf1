use Rattle.std.proofs.Common.{arith}
use Rattle.zre_records.proofs.simulate.LongTextIsRefused.{fed_on}
use Rattle.zre_records.proofs.simulate.simulator.SimulatorMachine.feed.Goals as goal

pub returns-clause-fed : goal.returns-clause-fed
returns-clause-fed c = λ o f e. record {
  kept = fed_on o c.args.piece.now c.args.self.now.kept _ c.append.new.self c.saturating_sub-room.result c.min.result f.kept (let s = c.saturating_sub-room.ensures in let l = c.len.ensures in omega (arith, s, l)) c.min.ensures c.split_at.ensures.front c.in_ok-append.ensures.ok;
}

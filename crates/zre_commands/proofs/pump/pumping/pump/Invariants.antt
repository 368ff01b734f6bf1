use Rattle.std.proofs.Common.{◌≡◌, ◌≤◌, ◌-◌, vec_len}
use Rattle.zre_outside.specs.Refusals.{RefusesNone}
use Rattle.zre_commands.proofs.pump.PumpProgress.{Reached}
use Rattle.zre_commands.proofs.pump.pumping.pump.Given as goal

abbrev pub invariant-loop-taken : goal.invariant-loop-taken
invariant-loop-taken g l = record {
  reached : Reached (g.M.Machine.fed l.machine) (g.M.Machine.says l.fn.machine) (g.I.Source.left l.fn.input) (g.I.Source.left l.input) (g.I.Source.taken l.fn.input) (g.I.Source.taken l.input) (g.O.Sink.written l.fn.out) (g.O.Sink.written l.out) l.taken;
  same : g.M.Machine.says l.machine ≡ g.M.Machine.says l.fn.machine;
  within : l.taken ≤ l.limit;
  room : vec_len l.buf ≡ 2048;
  reads : g.I.Source.faults l.fn.input ≤ g.I.Source.faults l.input;
  refused : RefusesNone (g.I.Source.refused l.fn.input) (g.I.Source.refused l.input);
  writes : g.O.Sink.faults l.fn.out ≤ g.O.Sink.faults l.out;
}

abbrev pub decreases-loop-taken : goal.decreases-loop-taken
decreases-loop-taken g l = l.limit - l.taken

use Rattle.std.proofs.Common.{◌≡◌, length}
use Rattle.zre_gate.proofs.threads.AnswerLines.new.Given as goal

abbrev pub invariant-each : goal.invariant-each
invariant-each g l = record {
  ins : length l.ins.items ≡ l.counter;
  outs : length l.outs.items ≡ l.counter;
}

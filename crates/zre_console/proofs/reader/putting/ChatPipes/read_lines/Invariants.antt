use Rattle.std.proofs.Common.{◌≡◌, ◌≤◌, ◌-◌, vec_len}
use Rattle.zre_outside.specs.Refusals.{RefusesNone}
use Rattle.zre_actor.specs.Passes.{IsCallerOf}
use Rattle.zre_console.proofs.reader.ReaderProgress.{Reached}
use Rattle.zre_console.proofs.reader.putting.ChatPipes.read_lines.Given as goal

abbrev pub invariant-loop-taken : goal.invariant-loop-taken
invariant-loop-taken g l = record {
  pipes : IsCallerOf l.self.pipes.now l.pass;
  reached : Reached l.typist l.fn.pass l.pass (g.I.Source.left l.fn.input) (g.I.Source.left l.input) (g.I.Source.taken l.fn.input) (g.I.Source.taken l.input) l.taken;
  within : l.taken ≤ l.limit;
  room : vec_len l.buf ≡ 8192;
  refused : RefusesNone (g.I.Source.refused l.fn.input) (g.I.Source.refused l.input);
  later : g.I.Source.faults l.fn.input ≤ g.I.Source.faults l.input;
}

abbrev pub decreases-loop-taken : goal.decreases-loop-taken
decreases-loop-taken g l = l.limit - l.taken

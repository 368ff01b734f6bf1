use Rattle.std.proofs.Common.{ap, ◌∙◌, arith}
use Rattle.zre_outside.proofs.AnswersThatAreErrors.{on_err}
use Rattle.zre_shared.specs.Replicas.{HeldWrites}
use Rattle.zre_shared.proofs.LinesWritten.{none_came, one_came, front_came}
use Rattle.zre_shared.proofs.replica.Replica.write_lines.Goals as goal

pub loop-write-init : goal.loop-write-init
loop-write-init g c = record {
  came = none_came c.args.gathered.now (g.O.Sink.written c.args.out.now) c.args.self.now.writes c.into_iter-write-iterator.result
      (c.into_iter-write-iterator.ensures.into_iter_gives ∙ c.values-write-items.ensures.rest ∙ ap (λ (h : HeldWrites). h.writes) c.self.view_is);
  later = omega arith;
}

pub loop-write-preserved : goal.loop-write-preserved
loop-write-preserved g c = record {
  came = one_came _ _ _ _ _ _ _ _ _ c.in-Some.write.now c.loop-write.invariant.came c.in-Some.ensures.steps c.in_ok-write_line.ensures.through;
  later = omega (arith, c.loop-write.invariant.later, c.write_line.ensures.later);
}

pub returns-in_err-write_line-clause-front : goal.returns-in_err-write_line-clause-front
returns-in_err-write_line-clause-front g c =
    on_err c.from_residual.result (front_came _ _ _ _ _ _ _ _ c.in-Some.write.now c.loop-write.invariant.came c.in-Some.ensures.steps c.in_err-write_line.ensures.front)

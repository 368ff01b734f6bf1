use Rattle.std.proofs.Common.{◌++◌, ◌∙◌, ap, is_some, subst}
use Rattle.zre_net.specs.Answer.{bad_in}
use Rattle.zre_net.proofs.NodeAndLinksAfterEntry.{if_ok}
use Rattle.zre_outside.specs.Told.{AppendsFront, WritesThrough}
use Rattle.zre_values.proofs.AnswersThatAreOk.{on_ok}
use Rattle.zre_records.specs.simulate.Simulate.{answer}
use Rattle.zre_records.proofs.simulate.LongTextIsRefused.{as_kept, as_answered, on_err_too}
use Rattle.zre_records.proofs.simulate.simulator.SimulatorMachine.finish.Goals as goal

pub returns-clause-bad : goal.returns-clause-bad
returns-clause-bad g c = λ o f e. if_ok _ _ c.write_answer.result c.write_answer.ensures.bad (λ b q. q ∙ ap (λ k. is_some (bad_in k)) (c.as_slice.ensures ∙ f.kept) ∙ ap (λ r. is_some r) (as_kept o))

pub returns-clause-ending : goal.returns-clause-ending
returns-clause-ending g c = λ o f e.
    on_ok c.write_answer.result c.write_answer.ensures.text.0 (λ q. subst (WritesThrough c.args.text.now c.write_answer.new.gathered (g.O.Sink.written c.args.out.now) (g.O.Sink.written c.write_answer.new.out)) (ap answer (c.as_slice.ensures ∙ f.kept) ∙ as_answered o) q)

pub returns-clause-front : goal.returns-clause-front
returns-clause-front g c = λ o f e.
    on_err_too c.write_answer.result c.write_answer.ensures.text.1 (λ q. subst (λ a. AppendsFront (g.O.Sink.written c.args.out.now) (g.O.Sink.written c.write_answer.new.out) (c.args.text.now ++ a)) (ap answer (c.as_slice.ensures ∙ f.kept) ∙ as_answered o) q)

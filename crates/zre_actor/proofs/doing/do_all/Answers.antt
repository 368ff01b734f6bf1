use Rattle.std.proofs.Common.{[], take, drop, true≢false, refl, sym, ◌∙◌, arith, append-nil}
use Rattle.std.proofs.lemmas.List.{take-append-drop, take_all}
use Rattle.zre_journal.specs.Events.{chronicle}
use Rattle.zre_actor.proofs.DeedsOfActs.{went-none, did_more, take_next, due_at}
use Rattle.zre_actor.proofs.doing.do_all.Goals as goal

pub loop-act-init : goal.loop-act-init
loop-act-init g c = record { done = λ _ J _ _. ([], tt, went-none _); world = (refl, refl, refl) }

pub loop-act-preserved : goal.loop-act-preserved
loop-act-preserved g c =
    let h = c.loop-act.invariant in let acts = c.args.acts.now in let i = c.loop-act.act-index in let w = c.do_one.ensures.world in
    let next = take_next acts i c.act-item.result c.loop-act-test.true c.act-item.is in
    record {
      done = λ f J stands due. (let old = h.done f J stands due in let one = c.do_one.ensures.done f J stands (due_at f (chronicle f J) acts i c.act-item.result c.loop-act-test.true c.act-item.is due) c.if-not-do_one.false in
          rw next (did_more f J (take i acts) c.act-item.result one.0 old.0 _ _ _ old.1 old.2 one.1 one.2));
      world = (w.0 ∙ h.world.0, w.1 ∙ h.world.1, w.2 ∙ h.world.2);
    }

pub returns-then-not-do_one-clause-done : goal.returns-then-not-do_one-clause-done
returns-then-not-do_one-clause-done g c = λ f J stands due. (let old = c.loop-act.invariant.done f J stands due in record {
  did = take c.loop-act.act-index c.args.acts.now;
  undone = drop c.loop-act.act-index c.args.acts.now;
  deeds = old.0;
  are_acts = sym (take-append-drop c.loop-act.act-index c.args.acts.now);
  are_deeds = old.1;
  is_told = c.do_one.ensures.undone c.if-not-do_one.true ∙ old.2;
  all_done = λ e. absurd (true≢false (sym e));
})

pub returns-clause-done : goal.returns-clause-done
returns-clause-done g c = λ f J stands due. (let old = c.loop-act.invariant.done f J stands due in
    let all = take_all c.loop-act.act-index c.args.acts.now (omega (arith, c.loop-act-test.false)) in record {
      did = take c.loop-act.act-index c.args.acts.now;
      undone = [];
      deeds = old.0;
      are_acts = sym all ∙ sym (append-nil (take c.loop-act.act-index c.args.acts.now));
      are_deeds = old.1;
      is_told = old.2;
      all_done = λ _. refl;
    })

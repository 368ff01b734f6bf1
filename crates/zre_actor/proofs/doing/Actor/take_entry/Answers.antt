use Rattle.std.proofs.Common.{◌∷◌, [], ◌++◌, true, false, refl, sym, subst}
use mathlib.Core.Logic.{inl, inr}
use Rattle.zre_journal.specs.Asked.{AreDue}
use Rattle.zre_journal.specs.Events.{chronicle}
use Rattle.zre_actor.specs.Work.{DoesAll}
use Rattle.zre_actor.proofs.EntryIsTaken.{went_on, left_undone, its_due}
use Rattle.zre_actor.proofs.doing.Actor.take_entry.Goals as goal

pub returns-in-Err-clause-broke : goal.returns-in-Err-clause-broke
returns-in-Err-clause-broke g c = λ f J stands. (let b = c.in-Err.ensures.broke in inl (record {
  stands = stands;
  is_told = refl;
  part = b.1.0;
  rest = b.1.1;
  is_kept = b.1.3;
  is_part = b.1.2;
  keeps = b.0;
  ends = b.2;
}))

pub returns-then-do_all-clause-ok : goal.returns-then-do_all-clause-ok
returns-then-do_all-clause-ok g c = λ f J stands. (
    went_on f J c.args.entry c.args.self.now.recording.keep c.args.self.now.recording.before (g.W.World.told c.args.self.now.world) (g.W.World.told c.do_all.new.world) (g.R.Recorder.kept c.args.self.now.recording.rec) (g.R.Recorder.kept c.keep_line.new.self.rec) c.step_into.new.self c.step_into.new.step
    (c.in-Ok.ensures.steps f J stands) c.in_default.ensures.kept (subst (λ x. DoesAll f (J ++ c.args.entry ∷ []) x true (g.W.World.told c.args.self.now.world) (g.W.World.told c.do_all.new.world)) c.as_slice.ensures (c.if-do_all.ensures.done f (J ++ c.args.entry ∷ []) (c.in-Ok.ensures.steps f J stands).stands (subst (AreDue f (chronicle f (J ++ c.args.entry ∷ []))) (sym c.as_slice.ensures) (its_due f J c.args.entry c.args.self.now.recording.keep c.args.self.now.recording.before (g.W.World.told c.args.self.now.world) (g.W.World.told c.do_all.new.world) (g.R.Recorder.kept c.args.self.now.recording.rec) (g.R.Recorder.kept c.keep_line.new.self.rec) c.step_into.new.self c.step_into.new.step
    (c.in-Ok.ensures.steps f J stands) c.in_default.ensures.kept)))))

pub returns-else-do_all-clause-broke : goal.returns-else-do_all-clause-broke
returns-else-do_all-clause-broke g c = λ f J stands. inr (inr (
    left_undone f J c.args.entry c.args.self.now.recording.keep c.args.self.now.recording.before (g.W.World.told c.args.self.now.world) (g.W.World.told c.do_all.new.world) (g.R.Recorder.kept c.args.self.now.recording.rec) (g.R.Recorder.kept c.keep_line.new.self.rec) c.step_into.new.self c.step_into.new.step
    (c.in-Ok.ensures.steps f J stands) c.in_default.ensures.kept (subst (λ x. DoesAll f (J ++ c.args.entry ∷ []) x false (g.W.World.told c.args.self.now.world) (g.W.World.told c.do_all.new.world)) c.as_slice.ensures (c.if-do_all.ensures.done f (J ++ c.args.entry ∷ []) (c.in-Ok.ensures.steps f J stands).stands (subst (AreDue f (chronicle f (J ++ c.args.entry ∷ []))) (sym c.as_slice.ensures) (its_due f J c.args.entry c.args.self.now.recording.keep c.args.self.now.recording.before (g.W.World.told c.args.self.now.world) (g.W.World.told c.do_all.new.world) (g.R.Recorder.kept c.args.self.now.recording.rec) (g.R.Recorder.kept c.keep_line.new.self.rec) c.step_into.new.self c.step_into.new.step
    (c.in-Ok.ensures.steps f J stands) c.in_default.ensures.kept))))))

use Rattle.std.proofs.Common.{List, ℕ, ap, ◌∙◌}
use Rattle.zre_audit.specs.Kept.{lines_with}
use Rattle.zre_audit.specs.Seen.{born_with}
use Rattle.zre_audit.specs.Told.{runs_in, runs_after}
use Rattle.zre_audit.proofs.WatchAfterEntry.{heard_then, put_then}
use Rattle.zre_audit.proofs.watch.Watch.hear.Goals as goal

pub returns : goal.returns
returns c = λ g J none w.
    let old = c.args.self.now in
    let s = c.in_ok-step.step in
    let n = c.step.new.self in
    let t = c.in_ok-step.ensures.steps g J w.stands in
    let told = λ (p : List ℕ). c.in_ok-take_all.ensures p ∙ ap (runs_after p (runs_in old.heard.runs p)) c.as_slice-events.ensures in
    let born = c.born.ensures ∙ (λ i. born_with (c.announced-announced.ensures i) (c.as_slice.ensures i) (c.as_slice-events.ensures i)) in
    record {
      stands = t.stands;
      id_is = w.id_is;
      has_heard = heard_then g J c.args.entry n s t old.heard.runs c.take_all.new.self.runs w.has_heard told;
      has_put = put_then g J c.args.entry n s t none old.put.messages c.add_line.new.self.messages old.put.lines.items c.add_line.new.self.lines.items w.has_put
          c.in_ok-add_line.ensures.messages (c.in_ok-add_line.ensures.lines ∙ ap (lines_with old.put.lines.items) born);
    }

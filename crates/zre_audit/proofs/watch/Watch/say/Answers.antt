use Rattle.std.proofs.Common.{List, [], ◌∷◌, ◌++◌, ℕ, length, ap, ◌∙◌}
use Rattle.zre_node.specs.Asked.{sent_after}
use Rattle.zre_journal.specs.Events.{chronicle}
use Rattle.zre_audit.specs.Kept.{all_noted, risen, reached, counts_of}
use Rattle.zre_audit.specs.Told.{runs_in, runs_after}
use Rattle.zre_audit.proofs.WatchAfterEntry.{heard_then, said_then}
use Rattle.zre_audit.proofs.watch.Watch.say.Goals as goal

pub returns : goal.returns
returns c = λ g J b asked o w.
    let old = c.args.self.now in
    let s = c.in_ok-step.step in
    let n = c.step.new.self in
    let t = c.in_ok-step.ensures.steps g J w.stands in
    let told = λ (p : List ℕ). c.in_ok-take_all.ensures p ∙ ap (runs_after p (runs_in old.heard.runs p)) c.as_slice.ensures in
    let H = chronicle g J in
    let before = c.as_slice-2.ensures ∙ c.in_ok-before.ensures g J w.stands ∙ ap (λ to. counts_of H (reached to H)) c.whispered-to.ensures in
    record {
      stands = t.stands;
      id_is = w.id_is;
      has_heard = heard_then g J c.args.entry n s t old.heard.runs c.take_all.new.self.runs w.has_heard told;
      has_put = said_then g J c.args.entry n s t b asked c.args.octets o old.put.messages c.add_message.new.self.messages old.put.lines.items c.add_message.new.self.lines.items w.has_put
          c.in_ok-add_message.ensures.messages
          (c.in_ok-add_message.ensures.lines g (J ++ c.args.entry ∷ []) t.stands ∙ ap (λ cs. all_noted (length old.put.messages) old.put.lines.items (risen (sent_after g (J ++ c.args.entry ∷ [])) cs)) before);
    }

use Rattle.std.proofs.Common.{ap, ◌∙◌, ◌++◌}
use Rattle.zre_journal.specs.Peers.{counted}
use Rattle.zre_journal.specs.Done.{close_link}
use Rattle.zre_node.specs.declared.effects.Effects.{Effects}
use Rattle.zre_values.proofs.AnswersThatAreOk.{on_ok}
use Rattle.zre_node.proofs.EndsOfPeers.{entered, with_run, without_run}
use Rattle.zre_node.proofs.tables.Tables.part.Goals as goal
use Rattle.zre_node.proofs.tables.Tables.part.Goals.{in-Some+in_ok-exit, in_default}

pub returns : goal.returns
returns c = λ g H p.
    on_ok c.close_link.result c.close_link.ensures (λ done.
    let closes = λ (s : Effects). record s { acts = s.acts ++ close_link c.args.link c.args.cause } in
    elim c.match-peer.branch [
      | in-Some+in_ok-exit w ↦
          let x = w.in-Some.running in
          let told = w.in_ok-exit.ensures (counted c.args.link H) (entered g H c.args.link c.args.peer.now c.args.self.now p c.args.cause x w.in-Some.is).1 in
          let out = done ∙ ap closes w.out-is ∙ ap closes told in
          rw w.self-is (with_run g H c.args.link c.args.peer.now c.args.self.now p c.args.cause x w.in-Some.is w.ignore.new.self w.ignore.ensures.found c.args.out.now c.close_link.new.self
          (ap (λ (s : Effects). s.events) out) (ap (λ (s : Effects). s.acts) out) (ap (λ (s : Effects). s.pushed) out))
      | in_default w ↦
          let out = done ∙ ap closes w.out-is in
          rw w.self-is (without_run g H c.args.link c.args.peer.now c.args.self.now p c.args.cause w.in_default.is c.args.out.now c.close_link.new.self
          (ap (λ (s : Effects). s.events) out) (ap (λ (s : Effects). s.acts) out) (ap (λ (s : Effects). s.pushed) out))
    ])

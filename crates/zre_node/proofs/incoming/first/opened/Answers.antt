use Rattle.std.proofs.Common.{◌++◌, [], ap, ◌∙◌}
use Rattle.zre_values.specs.declared.peer_id.PeerId.{PeerId}
use Rattle.zre_peer.specs.Runs.{events_of}
use Rattle.zre_peer.specs.Views.{view_of}
use Rattle.zre_node.proofs.incoming.first.opened.Goals as goal

pub returns-in-Ok-clause-ok : goal.returns-in-Ok-clause-ok
returns-in-Ok-clause-ok c =
    let took = c.in-Ok.ensures.ok [] c.new-run.ensures.stands in
    (took.0, took.1, c.in-Ok.ensures.id ∙ c.new-run.ensures.id, took.2 ∙ ap (λ (i : PeerId). c.args.events.now ++ events_of i (view_of []) c.args.message.body) c.new-run.ensures.id)

pub returns-in-Err-clause-refused : goal.returns-in-Err-clause-refused
returns-in-Err-clause-refused c = λ other. let r = c.in-Err.ensures.refused [] c.new-run.ensures.stands other in (r.0, r.2)

pub returns-in-Err-clause-untold : goal.returns-in-Err-clause-untold
returns-in-Err-clause-untold c = λ other. (c.in-Err.ensures.refused [] c.new-run.ensures.stands other).3

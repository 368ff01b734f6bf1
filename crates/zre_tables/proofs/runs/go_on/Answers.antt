use Rattle.std.proofs.Common.{◌++◌, ap, ◌∙◌}
use Rattle.zre_values.specs.declared.peer_id.PeerId.{PeerId}
use Rattle.zre_msg.specs.Lent.{message_of}
use Rattle.zre_peer.specs.Runs.{events_of}
use Rattle.zre_peer.specs.Views.{view_of}
use Rattle.zre_tables.proofs.RunsOfRows.{if_err}
use Rattle.zre_values.proofs.AnswersThatAreOk.{on_ok}
use Rattle.zre_tables.proofs.runs.go_on.Goals as goal

pub returns-clause-ok : goal.returns-clause-ok
returns-clause-ok c = λ n id ms r.
    on_ok c.take_lent.result (c.take_lent.ensures.ok ms r.stands) (λ a. (
      a.0,
      record { conn = r.conn; stands = a.1; of = c.take_lent.ensures.id ∙ r.of },
      a.2 ∙ ap (λ (i : PeerId). c.args.events.now ++ events_of i (view_of ms) (message_of c.args.lent.now).body) r.of,
    ))

pub returns-clause-refused : goal.returns-clause-refused
returns-clause-refused c = λ n id ms r.
    if_err c.take_lent.result (c.take_lent.ensures.refused ms r.stands) c.take_lent.ensures.view_unchanged (λ e a kept other.
    let f = a other in
    (f.0, f.2, r.conn, kept ∙ r.stands.view, f.3))

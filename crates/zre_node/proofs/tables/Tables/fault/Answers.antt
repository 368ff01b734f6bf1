use Rattle.std.proofs.Common.{[], ◌∷◌, not, ap, ◌∙◌}
use Rattle.zre_mailbox.specs.Talk.{Fault}
use Rattle.zre_peer.specs.declared.causes.Cause.TheVariants as cause
use Rattle.zre_peer.specs.declared.causes.CloseWhy.TheVariants as close
use Rattle.zre_journal.specs.Chronicle.{Closes}
use Rattle.zre_journal.specs.Connections.{runs}
use Rattle.zre_journal.specs.Arrivals.{end_of_run}
use Rattle.zre_journal.proofs.IdleConnections.{idle_then}
use Rattle.zre_values.proofs.AnswersThatAreOk.{on_ok}
use Rattle.zre_node.proofs.FaultsOnConnections.{dead_places, fault_live, stands_not, stands_so}
use Rattle.zre_node.proofs.MarksAfterMarks.{did_as, did_then, idle_did}
use Rattle.zre_node.proofs.FirstMessages.{live_open}
use Rattle.zre_node.proofs.tables.Tables.fault.Goals as goal

pub returns-then-is_none : goal.returns-then-is_none
returns-then-is_none c = λ g K h.
    let dead = stands_not _ c.standing.result (c.standing.ensures g K h) (c.is_none.ensures ∙ ap not c.if-is_none.true) in
    rw c.in-Some.is (did_as g _ [] K _ _ _ (dead_places g c.args.conn K dead (Fault c.in-Some.fault ∷ [])) (idle_did g K c.args.self.now c.args.out.now h))

pub returns : goal.returns
returns c = λ g K h.
    let live = (stands_so _ c.standing.result (c.standing.ensures g K h) (c.is_none.ensures ∙ ap not c.if-is_none.false)).1.0 in
    let n = c.args.conn in
    let first = c.in_ok-end_run.ensures g K h (live_open n K live) in
    let idle = idle_then g K h.keeps.proper n cause.Fault in
    on_ok c.close.result (c.close.ensures g _ first.holds idle) (λ second.
    rw c.in-Some.is (did_as g _ _ K _ _ _ (fault_live g n c.in-Some.fault K live)
    (did_then g (end_of_run g (runs n K) cause.Fault) (Closes n (close.Zmtp c.in-Some.fault) ∷ []) K c.end_run.new.self c.close.new.self c.args.out.now c.end_run.new.out c.close.new.out first second)))

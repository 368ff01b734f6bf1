use Rattle.std.proofs.Common.{[], ◌∷◌, refl, sym, ◌∙◌}
use Rattle.zre_journal.specs.Chronicle.{IsShut}
use Rattle.zre_journal.specs.Connections.{runs}
use Rattle.zre_journal.specs.Arrivals.{end_of_run}
use Rattle.zre_journal.proofs.IdleConnections.{idle_then}
use Rattle.zre_peer.specs.declared.causes.Cause.TheVariants as cause
use Rattle.zre_node.proofs.EndsOfPeers.{some_row}
use Rattle.zre_node.proofs.MarksAfterMarks.{did_as, did_then, silent_did, idle_did}
use Rattle.zre_node.proofs.ConnectionsComeAndGo.{is_shut, shut_not_open, shut_open}
use Rattle.zre_node.proofs.tables.Tables.shut.Goals as goal

pub returns-then-not-contains : goal.returns-then-not-contains
returns-then-not-contains c = λ g H h.
    let o = sym (c.contains.ensures ∙ some_row g H c.args.self.now h.keeps c.args.conn) ∙ c.if-not-contains.true in
    did_as g _ [] H _ _ _ (shut_not_open g c.args.conn H o) (idle_did g H c.args.self.now c.args.out.now h)

pub returns : goal.returns
returns c = λ g H h.
    let o = sym (c.contains.ensures ∙ some_row g H c.args.self.now h.keeps c.args.conn) ∙ c.if-not-contains.false in
    let ended = c.in_ok-end_run.ensures g H h o in
    let idle = idle_then g H h.keeps.proper c.args.conn cause.Shut in
    did_as g _ _ H _ _ _ (shut_open g c.args.conn H o)
    (did_then g (end_of_run g (runs c.args.conn H) cause.Shut) (IsShut c.args.conn ∷ []) H c.end_run.new.self _ c.args.out.now c.end_run.new.out c.end_run.new.out ended
    (silent_did g (IsShut c.args.conn) _ _ c.end_run.new.out (is_shut g _ c.end_run.new.self ended.holds c.args.conn idle c.remove.new.self c.remove.ensures) refl refl (λ l. refl)))

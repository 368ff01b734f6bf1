use Rattle.std.proofs.Common.{Bool, ◌++◌, [], ◌∷◌, refl, sym, ap, ◌∙◌, if◌then◌else◌}
use Rattle.zre_msg.specs.Content.{content_of}
use Rattle.zre_msg.specs.Lent.{message_of}
use Rattle.zre_msg.specs.declared.message.Body.TheVariants as body
use Rattle.zre_msg.specs.Lent.{message_of}
use Rattle.zre_peer.specs.declared.peer_run.RunFault.TheVariants as fault
use Rattle.zre_journal.specs.Chronicle.{Counts}
use Rattle.zre_journal.specs.Pushes.{push}
use Rattle.zre_journal.specs.Peers.{counted}
use Rattle.zre_journal.proofs.ProperAfterMarks.{run_known}
use Rattle.zre_node.specs.Stands.{IsPeer, is_ping}
use Rattle.zre_node.proofs.LaterMessages.{its, some_counted, row_runs, counts, its_events, counted_did, counts_it, refused_by}
use Rattle.zre_values.proofs.AnswersThatAreOk.{on_ok}
use Rattle.zre_node.proofs.MarksAfterMarks.{did_as, did_then}
use Rattle.zre_node.proofs.RowsOfKnownPeers.{known_row}
use Rattle.zre_node.proofs.tables.Tables.later.Goals as goal

pub returns-in-Ok : goal.returns-in-Ok
returns-in-Ok c = λ g H n h r.
    let t = c.args.self.now in
    let l = c.args.link in
    let m = message_of c.args.lent.now in
    let row = known_row (IsPeer g H) H t.peers h.peers l (run_known H h.keeps.proper n l r) in
    let k = row.0 in
    let was = sym row.1 in
    let its_row = its g H t h n l r k was in
    let took = c.in-Ok.ensures.ok k n its_row.0.id (counted l H) row.1 (row_runs g H t h n l r k was) in
    let held = counts g H t h n l r k was m (record k { active = t.clock; run = took.2.run }) c.take.new.self refl refl refl took.2.its_run took.2.rows in
    let told_it = took.1 ∙ ap (λ es. c.args.out.now.events ++ es) (sym (its_events g H t h n l r k was m)) in
    let first = counted_did g H _ n l m c.args.out.now (record c.args.out.now { events = c.take.new.events }) held told_it refl refl in
    on_ok c.answer_ping.result (c.answer_ping.ensures g (Counts n l m ∷ H) held (run_known H h.keeps.proper n l r)) (λ second.
    did_as g _ _ H _ _ _ (counts_it g n l m H (some_counted g H t h n l r k was) took.0)
    (did_then g (Counts n l m ∷ []) (if is_ping m.body then push g l body.PingOk H else []) H _ c.answer_ping.new.self c.args.out.now (record c.args.out.now { events = c.take.new.events }) c.answer_ping.new.out first
    (did_as g _ _ (Counts n l m ∷ H) _ _ _ (ap (λ (b : Bool). if b then push g l body.PingOk H else []) (sym (c.is_ping-ping.ensures (content_of c.args.lent.now.content)))) second)))

pub returns-in-Err-SecondHello : goal.returns-in-Err-SecondHello
returns-in-Err-SecondHello c = λ g H n h r.
    let t = c.args.self.now in
    let row = known_row (IsPeer g H) H t.peers h.peers c.args.link (run_known H h.keeps.proper n c.args.link r) in
    let all = rw c.in-Err-SecondHello.field-0-is at c.in-Err-SecondHello.ensures.refused in
    refused_by g H t h n c.args.link r row.0 (sym row.1) (message_of c.args.lent.now) fault.SecondHello t.clock c.take.new.self c.end.new.self c.args.out.now c.end.new.out c.take.new.events c.end.result
    (λ id runs. all row.0 n id (counted c.args.link H) row.1 runs (λ e. absurd cc)) (c.end.ensures g H)

pub returns-in-Err-Broken : goal.returns-in-Err-Broken
returns-in-Err-Broken c = λ g H n h r.
    let t = c.args.self.now in
    let row = known_row (IsPeer g H) H t.peers h.peers c.args.link (run_known H h.keeps.proper n c.args.link r) in
    let all = rw c.in-Err-Broken.field-0-is at c.in-Err-Broken.ensures.refused in
    refused_by g H t h n c.args.link r row.0 (sym row.1) (message_of c.args.lent.now) (fault.Broken c.in-Err-Broken.due c.in-Err-Broken.got) t.clock c.take.new.self c.end-in-Err-Broken.new.self c.args.out.now c.end-in-Err-Broken.new.out c.take.new.events c.end-in-Err-Broken.result
    (λ id runs. all row.0 n id (counted c.args.link H) row.1 runs (λ e. absurd cc)) (c.end-in-Err-Broken.ensures g H)

pub returns-in-Err-Limit : goal.returns-in-Err-Limit
returns-in-Err-Limit c = λ g H n h r.
    let t = c.args.self.now in
    let row = known_row (IsPeer g H) H t.peers h.peers c.args.link (run_known H h.keeps.proper n c.args.link r) in
    let all = rw c.in-Err-Limit.field-0-is at c.in-Err-Limit.ensures.refused in
    refused_by g H t h n c.args.link r row.0 (sym row.1) (message_of c.args.lent.now) fault.Limit t.clock c.take.new.self c.end-in-Err-Limit.new.self c.args.out.now c.end-in-Err-Limit.new.out c.take.new.events c.end-in-Err-Limit.result
    (λ id runs. all row.0 n id (counted c.args.link H) row.1 runs (λ e. absurd cc)) (c.end-in-Err-Limit.ensures g H)

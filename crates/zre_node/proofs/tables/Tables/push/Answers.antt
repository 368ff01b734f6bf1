use Rattle.std.proofs.Common.{ℕ, List, [], ◌∷◌, refl, sym, subst}
use Rattle.zre_journal.specs.Chronicle.{Puts}
use Rattle.zre_journal.specs.Links.{line, is_linked, replies, taken}
use Rattle.zre_tables.specs.declared.peer.Peer.{Peer}
use Rattle.zre_node.specs.Stands.{Holds, IsPeer}
use Rattle.zre_values.proofs.AnswersThatAreOk.{on_ok}
use Rattle.zre_node.proofs.MarksAfterMarks.{did_as}
use Rattle.zre_node.proofs.RowsOfKnownPeers.{nearly, known_row}
use Rattle.zre_node.proofs.BodyOnOneLink.{row_link, puts_it, fits, is_slow, put_did}
use Rattle.zre_node.proofs.tables.Tables.push.Goals as goal

pub returns-in-Ok-clause-did : goal.returns-in-Ok-clause-did
returns-in-Ok-clause-did c = λ g K h s.
    let t = c.args.self.now in
    let l = c.args.link in
    let r = known_row (IsPeer g K) K t.peers h.peers l s in
    let put = c.in-Ok.ensures.ok r.0 g.id (line l K) (is_linked l K) (replies l K) (taken l K) r.1 (row_link g K t h l r.0 (sym r.1)) in
    on_ok c.push-in-Ok.result c.push-in-Ok.ensures.ok (λ noted. did_as g _ (Puts l c.args.body.now ∷ []) K _ _ _ (fits g l c.args.body.now K put.0)
    (put_did g l c.args.body.now K _ c.args.out.now _ (puts_it g K t h l r.0 (sym r.1) c.args.body.now _ c.push.new.self refl put.1) refl refl noted))

pub returns-in-Err-Slow-clause-did : goal.returns-in-Err-Slow-clause-did
returns-in-Err-Slow-clause-did c = λ g K h s.
    let t = c.args.self.now in
    let l = c.args.link in
    let r = known_row (IsPeer g K) K t.peers h.peers l s in
    let all = rw c.in-Err-Slow.field-0-is at c.in-Err-Slow.ensures.refused in
    let slow = all r.0 g.id (line l K) (is_linked l K) (replies l K) (taken l K) r.1 (row_link g K t h l r.0 (sym r.1)) in
    let back = subst (λ (P : List (ℕ × Peer)). Holds g K (record t { peers = P })) (sym c.in-Err-Slow.ensures.unchanged) h in
    rw (is_slow g l c.args.body.now K c.in-Err-Slow.unsent c.in-Err-Slow.size slow.unsent_is slow.size_is slow.above) (c.end.ensures g K (nearly g K l _ back) s)

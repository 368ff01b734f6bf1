use Rattle.std.proofs.Common.{ℕ, List, [], ◌∷◌, refl, sym, subst}
use Rattle.zre_msg.specs.declared.message.Body.TheVariants.{Ping}
use Rattle.zre_journal.specs.Chronicle.{IsEvasive, Puts}
use Rattle.zre_journal.specs.Links.{line, is_linked, replies, taken}
use Rattle.zre_journal.specs.Pushes.{push}
use Rattle.zre_tables.specs.declared.peer.Peer.{Peer}
use Rattle.zre_node.specs.Stands.{Holds, IsPeer}
use Rattle.zre_values.proofs.AnswersThatAreOk.{on_ok}
use Rattle.zre_node.proofs.MarksAfterMarks.{did_as, did_then}
use Rattle.zre_node.proofs.RowsOfKnownPeers.{nearly, known_row}
use Rattle.zre_node.proofs.BodyOnOneLink.{row_link, puts_it, fits, is_slow, put_did}
use Rattle.zre_node.proofs.TicksOfTables.{told_so}
use Rattle.zre_node.proofs.tables.Tables.probe.Goals as goal

pub returns-in-Ok : goal.returns-in-Ok
returns-in-Ok c = λ g K h k.
    let t = c.args.self.now in
    let l = c.args.link in
    let a = c.args.out.now in
    let J = IsEvasive l ∷ K in
    let r = known_row (IsPeer g K) K t.peers h.peers l k.0 in
    let first = told_so g K t h l r.0 (sym r.1) k.1 a c.probe.new.events (c.in-Ok.ensures.told r.0 r.1) in
    let put = c.in-Ok.ensures.ok r.0 g.id (line l J) (is_linked l J) (replies l J) (taken l J) r.1 (row_link g J t first.holds l r.0 (sym r.1)) in
    on_ok c.push.result c.push.ensures.ok (λ noted.
    did_then g (IsEvasive l ∷ []) (push g l Ping J) K t _ a (record a { events = c.probe.new.events }) _ first
    (did_as g _ (Puts l Ping ∷ []) J _ _ _ (fits g l Ping J put.0)
    (put_did g l Ping J _ (record a { events = c.probe.new.events }) _ (puts_it g J t first.holds l r.0 (sym r.1) Ping _ c.probe.new.self refl put.1) refl refl noted)))

pub returns-in-Err-Slow : goal.returns-in-Err-Slow
returns-in-Err-Slow c = λ g K h k.
    let t = c.args.self.now in
    let l = c.args.link in
    let a = c.args.out.now in
    let J = IsEvasive l ∷ K in
    let r = known_row (IsPeer g K) K t.peers h.peers l k.0 in
    let told = rw c.in-Err-Slow.field-0-is at c.in-Err-Slow.ensures.told_first in
    let first = told_so g K t h l r.0 (sym r.1) k.1 a c.probe.new.events (told r.0 r.1 c.in-Err-Slow.unsent c.in-Err-Slow.size refl) in
    let all = rw c.in-Err-Slow.field-0-is at c.in-Err-Slow.ensures.refused in
    let slow = all r.0 g.id (line l J) (is_linked l J) (replies l J) (taken l J) r.1 (row_link g J t first.holds l r.0 (sym r.1)) in
    let back = subst (λ (P : List (ℕ × Peer)). Holds g J (record t { peers = P })) (sym c.in-Err-Slow.ensures.unchanged) first.holds in
    on_ok c.end.result (c.end.ensures g J (nearly g J l _ back) k.0) (λ ended.
    did_then g (IsEvasive l ∷ []) (push g l Ping J) K t _ a (record a { events = c.probe.new.events }) _ first
    (did_as g _ _ J _ _ _ (is_slow g l Ping J c.in-Err-Slow.unsent c.in-Err-Slow.size slow.unsent_is slow.size_is slow.above) ended))

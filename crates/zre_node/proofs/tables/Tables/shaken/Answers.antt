use Rattle.std.proofs.Common.{ℕ, Option, ◌++◌, [], ◌∷◌, sym, ap, ◌∙◌, refl}
use Rattle.zre_journal.specs.Chronicle.{Identifies}
use Rattle.zre_journal.specs.Arrivals.{taken_over}
use Rattle.zre_journal.proofs.IdleConnections.{gave_way}
use Rattle.zre_node.proofs.MarksAfterMarks.{did_as, did_then, silent_did}
use Rattle.zre_node.proofs.ReadyOnConnections.{other_found, other_open}
use Rattle.zre_node.proofs.tables.Tables.shaken.Goals as goal

pub returns : goal.returns
returns c = λ g H h there unknown.
    let p = c.args.peer in
    let n = c.args.conn in
    let older = c.other_with-older.result in
    let is = c.other_with-older.ensures ∙ other_found g H c.args.self.now p n h in
    let took = c.in_ok-take_over.ensures g H h (other_open p n H older (sym is)) in
    let way = gave_way g H h.keeps.proper p n older (sym is) there in
    let known = c.introduce.ensures g _ took.holds (way.same_open ∙ there) (way.same_identity ∙ unknown) way.alone in
    did_as g _ _ H _ _ _ (ap (λ (o : Option ℕ). taken_over g o H ++ Identifies n p ∷ []) (sym is))
    (did_then g (taken_over g older H) (Identifies n p ∷ []) H c.take_over.new.self _ c.args.out.now c.take_over.new.out c.take_over.new.out took
    (silent_did g (Identifies n p) _ _ c.take_over.new.out known refl refl (λ l. refl)))

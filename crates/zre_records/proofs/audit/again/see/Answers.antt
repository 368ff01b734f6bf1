use Rattle.std.proofs.Common.{arith, refl}
use Rattle.zre_values.proofs.AnswersThatAreOk.{on_ok}
use Rattle.zre_records.proofs.audit.SameNodeInPieces.{seen_more}
use Rattle.zre_records.proofs.audit.again.see.Goals as goal

pub returns-in-Some : goal.returns-in-Some
returns-in-Some c = λ told o k.
    on_ok c.append.result c.append.ensures.ok (λ p.
    seen_more told o c.args.piece.now c.args.again.now _ c.in-Some.again (record { own = c.in-Some.again.own; front = c.append.new.self }) c.saturating_sub-room.result c.min.result c.in-Some.is refl k refl p
    (omega (arith, c.saturating_sub-room.ensures, c.len.ensures, c.len-in-Some.ensures)) (omega (arith, c.min.ensures)))

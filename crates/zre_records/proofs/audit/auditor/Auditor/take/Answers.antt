use Rattle.std.proofs.Common.{refl}
use Rattle.zre_records.proofs.audit.AuditorFedPiece.{is_first, first_going, piece_later}
use Rattle.zre_records.proofs.audit.auditor.Auditor.take.Goals as goal

pub returns-in-Some : goal.returns-in-Some
returns-in-Some c = λ o f going.
    piece_later c.take.result c.args.self.now _ o c.args.piece.now c.in-Some.second c.take.new.self f c.in-Some.is going c.take.ensures refl refl refl

pub returns-in-None : goal.returns-in-None
returns-in-None c = λ o f going.
    let k = is_first c.args.self.now o f c.in-None.is in
    c.seek.ensures o f c.in-None.is (first_going o k.rest k.all going)

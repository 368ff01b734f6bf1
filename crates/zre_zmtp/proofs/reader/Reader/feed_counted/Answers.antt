use Rattle.std.proofs.Common.{◌≡◌, ◌++◌, ap, subst, refl}
use Rattle.std.proofs.lemmas.Result.{err_from_is_err_and}
use Rattle.zre_zmtp.specs.Stream.{fault_of}
use Rattle.zre_zmtp.specs.Run.{run_all}
use Rattle.zre_zmtp.specs.Reading.{Reading, Refuses}
use Rattle.zre_zmtp.specs.Shown.{Waits, Advances, before_of, left_of}
use Rattle.zre_zmtp.proofs.ReadersFollowStreams.{fed, refused, waits_reader}
use Rattle.zre_zmtp.proofs.reader.Reader.feed_counted.Goals as goal

pub returns-in_err-read-clause-refused : goal.returns-in_err-read-clause-refused
returns-in_err-read-clause-refused g c =
    let p = err_from_is_err_and c.from_residual.result c.from_residual.ensures.1 in
    let e = c.in_err-read.field-0.0 in
    λ want kind o h.
    let found = subst (λ (r : Reading). Waits r.wanted r.before r.left → Refuses e (fault_of r.wanted (run_all r.wanted r.before (r.left ++ c.args.piece.now)).before (run_all r.wanted r.before (r.left ++ c.args.piece.now)).left) (c.read.new.out ≡ c.args.out.now ++ (run_all r.wanted r.before (r.left ++ c.args.piece.now)).given)) c.self.view_is c.in_err-read.ensures.refused in
    rw (p.1, p.2) (refused want kind o c.args.piece.now c.args.self.now e c.args.out.now c.read.new.out h (found (waits_reader want kind o c.args.self.now h)))

pub returns-clause-ok : goal.returns-clause-ok
returns-clause-ok g c =
    λ want kind o h.
    let read = subst (λ (r : Reading). Waits r.wanted r.before r.left → Advances r.wanted r.before (r.left ++ c.args.piece.now) c.args.out.now c.read.new.out (before_of c.read.new.self) (left_of c.read.new.self)) c.self.view_is c.in_ok-read.ensures.ok in
    fed want kind o c.args.piece.now c.args.self.now _ c.args.out.now c.read.new.out h (read (waits_reader want kind o c.args.self.now h)) refl (ap (λ (r : Reading). r.wanted) c.self.view_is)

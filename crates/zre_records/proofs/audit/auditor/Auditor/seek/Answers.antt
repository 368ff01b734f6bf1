use Rattle.std.proofs.Common.{◌++◌, ℕ, List, Option, take, refl, subst}
use Rattle.std.specs.Prelude.{MatchOption}
use Rattle.zre_values.proofs.AnswersThatAreOk.{on_ok}
use Rattle.zre_capture.specs.Journal.{settings}
use Rattle.zre_capture.specs.declared.format.Format.TheVariants.{Second}
use Rattle.zre_values.specs.declared.settings.Settings.{Settings}
use Rattle.zre_records.specs.audit.Cut.{mark}
use Rattle.zre_records.specs.audit.Later.{IsLater}
use Rattle.zre_records.specs.audit.Seam.{IsUnparted, IsParted}
use Rattle.zre_records.proofs.audit.AuditorFedPiece.{is_first, piece_unparted, piece_parted, mark_going, rest_is}
use Rattle.zre_records.proofs.audit.auditor.Auditor.seek.Goals as goal

pub returns-in-None : goal.returns-in-None
returns-in-None c = λ o f e going.
    let k = is_first c.args.self.now o f e in
    let u = subst (λ (n : Option ℕ). MatchOption n (IsUnparted c.args.self.now.seam c.args.piece.now c.find.new.self) (λ place. IsParted c.args.self.now.seam c.args.piece.now place c.find.new.self)) c.in-None.is c.in_ok-find.ensures in
    on_ok c.take.result (c.take.ensures o k.first going) (λ g. piece_unparted c.args.self.now _ o c.args.piece.now k u g e)

pub returns-in_ok-take-in-Some-2 : goal.returns-in_ok-take-in-Some-2
returns-in_ok-take-in-Some-2 c = λ o f e going.
    let k = is_first c.args.self.now o f e in
    let u = subst (λ (n : Option ℕ). MatchOption n (IsUnparted c.args.self.now.seam c.args.piece.now c.find.new.self) (λ place. IsParted c.args.self.now.seam c.args.piece.now place c.find.new.self)) c.in-Some.is c.in_ok-find.ensures in
    let first = c.in_ok-take-in-Some.ensures o k.first going in
    let front = o ++ take c.in-Some.place c.args.piece.now in
    let told = c.settings.ensures Second front first.reads in
    let begun = subst (λ (s : Option Settings). IsLater s mark c.in_ok-second-in-Some.second) told c.in_ok-second-in-Some.ensures in
    let later = subst (λ (x : List ℕ). IsLater (settings Second front) (mark ++ x) c.take-in-Some-2.new.self) (rest_is c.in-Some.place c.args.piece.now) (c.in_ok-take-in-Some-2.ensures (settings Second front) mark begun (mark_going (settings Second front))) in
    piece_parted c.args.self.now _ o c.args.piece.now c.in-Some.place c.take-in-Some-2.new.self k u first later refl

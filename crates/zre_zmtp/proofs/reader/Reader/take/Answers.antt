use Rattle.std.proofs.Common.{◌≡◌, false, refl, sym, ap, ◌∙◌}
use Rattle.zre_zmtp.specs.Reading.{Reading}
use Rattle.zre_zmtp.specs.Shown.{before_of, left_of}
use Rattle.zre_zmtp.proofs.LentPieces.{passes_all, taken_on}
use Rattle.zre_zmtp.proofs.reader.Reader.take.Goals as goal

pub returns-in-Some-clause-taken : goal.returns-in-Some-clause-taken
returns-in-Some-clause-taken g c = passes_all c.args.self.now c.pass_all.new.self c.in-Some.front _ c.args.piece.now refl refl c.in-Some.ensures.passed c.in-Some.ensures.all

pub returns-clause-taken : goal.returns-clause-taken
returns-clause-taken g c =
    let was = c.args.self.now in
    let p = c.self.inside.progress in
    let is = c.self.view_is ∙ c.in_default.ensures.none refl in
    let unspent : c.self.inside.spent ≡ false = ap (λ (r : Reading). r.spent) is ∙ c.requires in
    taken_on c.in_ok-came.came p c.take_piece.new.self was _ c.args.piece.now (ap (λ (r : Reading). r.before) is) (ap (λ (r : Reading). r.left) is) refl refl refl (ap (λ (r : Reading). r.wanted) is)
    (sym is ∙ ap (λ s. let y : Reading = record { before = before_of p; left = left_of p; spent = s; wanted = c.self.inside.want } in y) unspent) refl c.in_ok-came.ensures.taken

use Rattle.std.proofs.Common.{◌≡◌, ◌≤◌, ◌-◌, ◌∙◌, ◌++◌, length, sym, ap, List, [], ℕ, take, drop, arith}
use Rattle.std.proofs.lemmas.Bool.{eqb-true}
use Rattle.std.proofs.lemmas.List.{append-nil, take-append-drop, length-drop}
use Rattle.std.proofs.lemmas.Result.{err_from_is_err_and}
use Rattle.zre_zmtp.specs.Run.{run_all}
use Rattle.zre_zmtp.specs.Shown.{before_of, left_of}
use Rattle.zre_zmtp.proofs.TurnsOfReaders.{one_turn, all_read, refused_turn}
use Rattle.zre_zmtp.proofs.progress.Progress.read.Goals as goal

joined : (n : ℕ) (o later : List ℕ) → later ≡ drop n o → o ≡ take n o ++ later
joined n o later q = sym (take-append-drop n o) ∙ ap (λ (x : List ℕ). take n o ++ x) (sym q)

pub returns-in_err-len-clause-refused : goal.returns-in_err-len-clause-refused
returns-in_err-len-clause-refused g c =
    let p = err_from_is_err_and c.from_residual.result c.from_residual.ensures.1 in
    let all = run_all c.args.want.now (before_of c.args.self.now) (left_of c.args.self.now ++ c.args.piece.now) in
    λ w.
    let amid = c.loop-rest.invariant.0 w in
    rw (p.1, p.2) (refused_turn c.args.want.now c.args.out.now c.loop-rest.out c.take_turn.new.out all (before_of c.loop-rest.self) (left_of c.loop-rest.self) c.loop-rest.rest.now [] c.loop-rest.rest.now
    c.in_err-len.field-0.0 (sym (append-nil c.loop-rest.rest.now)) amid (c.in_err-len.ensures.refused amid.waits))

pub loop-rest-preserved : goal.loop-rest-preserved
loop-rest-preserved g c =
    let all = run_all c.args.want.now (before_of c.args.self.now) (left_of c.args.self.now ++ c.args.piece.now) in
    let len : length c.split_at.result.1.now ≡ length c.loop-rest.rest.now - c.in_ok-len.len = ap length c.split_at.ensures.back ∙ length-drop c.in_ok-len.len c.loop-rest.rest.now in (
      λ w. (let amid = c.loop-rest.invariant.0 w in
          one_turn c.args.want.now c.args.out.now c.loop-rest.out c.take_turn.new.out all (before_of c.loop-rest.self) (before_of c.take_turn.new.self) (left_of c.loop-rest.self) (take c.in_ok-len.len c.loop-rest.rest.now) c.split_at.result.1.now
          (left_of c.take_turn.new.self) c.loop-rest.rest.now (joined c.in_ok-len.len c.loop-rest.rest.now _ c.split_at.ensures.back) amid (c.in_ok-len.ensures.ok amid.waits)),
      omega (arith, len, c.in_ok-len.ensures.within.1, c.in_ok-len.ensures.once, c.loop-rest.invariant.1),
      omega (arith, len, c.in_ok-len.ensures.within.1, c.in_ok-len.ensures.looks, c.loop-rest.invariant.2),
    )

pub returns-clause-ok : goal.returns-clause-ok
returns-clause-ok g c =
    let none : length c.loop-rest.rest.now ≤ 0 = omega (arith, eqb-true _ _ (sym c.loop-rest-test.ensures)) in
    λ w. all_read c.args.want.now c.args.out.now c.loop-rest.out (before_of c.args.self.now) (left_of c.args.self.now ++ c.args.piece.now) (before_of c.loop-rest.self) (left_of c.loop-rest.self) c.loop-rest.rest.now none
    (c.loop-rest.invariant.0 w)

pub returns-clause-looks : goal.returns-clause-looks
returns-clause-looks g c =
    let none : length c.loop-rest.rest.now ≤ 0 = omega (arith, eqb-true _ _ (sym c.loop-rest-test.ensures)) in
    record {
      once = omega (arith, none, c.loop-rest.invariant.1);
      paid = (omega (arith, none, c.loop-rest.invariant.2), tt);
    }

pub returns-in_err-len-clause-looks : goal.returns-in_err-len-clause-looks
returns-in_err-len-clause-looks g c =
    let p = err_from_is_err_and c.from_residual.result c.from_residual.ensures.1 in
    rw p.1 (record {
      once = omega (arith, c.in_err-len.ensures.refused_once, c.loop-rest.invariant.1);
      paid = (tt, omega (arith, c.in_err-len.ensures.refused_looks, c.loop-rest.invariant.2));
    })

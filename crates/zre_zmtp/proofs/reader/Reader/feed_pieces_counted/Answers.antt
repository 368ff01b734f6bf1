use Rattle.std.proofs.Common.{◌≡◌, ◌<◌, ◌∙◌, Bool, true, false, List, ℕ, length, get_or, sym, ap, subst, refl, IsTrue, arith}
use Rattle.std.proofs.lemmas.Result.{err_from_is_err_and}
use Rattle.zre_zmtp.proofs.ItemsOfTwoPieces.{length-take-more, length-within, read_one_more, read_refused}
use Rattle.zre_zmtp.proofs.reader.Reader.feed_pieces_counted.Goals as goal

not_spent : (b : Bool) → (IsTrue b → false ≡ true) → b ≡ false
not_spent true h = sym (h refl)
not_spent false h = refl

-- a member of the same list
at_place : (pieces list : List (List ℕ)) (i : ℕ) (item piece : List ℕ) → list ≡ pieces → item ≡ get_or list i item → piece ≡ item → piece ≡ get_or pieces i piece
at_place pieces list i item piece same is e = e ∙ is ∙ ap (λ (l : List (List ℕ)). get_or l i item) same ∙ ap (λ (d : List ℕ). get_or pieces i d) (sym e)

pub returns-in_err-feed_counted-clause-refused : goal.returns-in_err-feed_counted-clause-refused
returns-in_err-feed_counted-clause-refused g c =
    let p = err_from_is_err_and c.from_residual.result c.from_residual.ensures.1 in
    let lt : c.loop-piece.piece-index < length c.args.pieces.now = subst (λ (l : List (List ℕ)). c.loop-piece.piece-index < length l) c.as_slice-piece-items.ensures c.loop-piece-test.true in
    let is = at_place c.args.pieces.now c.as_slice-piece-items.result.now c.loop-piece.piece-index c.piece-item.result c.as_slice.result.now c.as_slice-piece-items.ensures c.piece-item.is c.as_slice.ensures in
    λ want kind o h.
    let so_far = c.loop-piece.invariant.1 want kind o h in
    rw (p.1, p.2) (read_refused want kind o c.args.pieces.now c.loop-piece.piece-index c.as_slice.result.now c.loop-piece.self c.args.out.now c.loop-piece.out c.feed_counted.new.out c.in_err-feed_counted.field-0.0 lt is so_far
    (c.in_err-feed_counted.ensures.refused want kind _ so_far.reads))

pub loop-piece-preserved : goal.loop-piece-preserved
loop-piece-preserved g c =
    let lt : c.loop-piece.piece-index < length c.args.pieces.now = subst (λ (l : List (List ℕ)). c.loop-piece.piece-index < length l) c.as_slice-piece-items.ensures c.loop-piece-test.true in
    let is = at_place c.args.pieces.now c.as_slice-piece-items.result.now c.loop-piece.piece-index c.piece-item.result c.as_slice.result.now c.as_slice-piece-items.ensures c.piece-item.is c.as_slice.ensures in (
      not_spent c.feed_counted.new.self.spent c.in_ok-feed_counted.ensures.spent.0,
      λ want kind o h. (let so_far = c.loop-piece.invariant.1 want kind o h in
          read_one_more want kind o c.args.pieces.now c.loop-piece.piece-index c.as_slice.result.now c.loop-piece.self c.feed_counted.new.self c.args.out.now c.loop-piece.out c.feed_counted.new.out lt is so_far
          (c.in_ok-feed_counted.ensures.ok want kind _ so_far.reads)),
      omega (arith, length-take-more c.args.pieces.now c.as_slice.result.now c.loop-piece.piece-index lt is, c.loop-piece.invariant.2, c.in_ok-feed_counted.ensures.looks.once),
      omega (arith, length-take-more c.args.pieces.now c.as_slice.result.now c.loop-piece.piece-index lt is, c.loop-piece.invariant.3, c.in_ok-feed_counted.ensures.looks.paid.0),
    )

pub returns-in_err-feed_counted-clause-looks : goal.returns-in_err-feed_counted-clause-looks
returns-in_err-feed_counted-clause-looks g c =
    let p = err_from_is_err_and c.from_residual.result c.from_residual.ensures.1 in
    let lt : c.loop-piece.piece-index < length c.args.pieces.now = subst (λ (l : List (List ℕ)). c.loop-piece.piece-index < length l) c.as_slice-piece-items.ensures c.loop-piece-test.true in
    let is = at_place c.args.pieces.now c.as_slice-piece-items.result.now c.loop-piece.piece-index c.piece-item.result c.as_slice.result.now c.as_slice-piece-items.ensures c.piece-item.is c.as_slice.ensures in
    let within = length-within c.args.pieces.now c.as_slice.result.now c.loop-piece.piece-index lt is in
    rw p.1 (record {
      once = omega (arith, within, c.loop-piece.invariant.2, c.in_err-feed_counted.ensures.looks.once);
      paid = (tt, omega (arith, within, c.loop-piece.invariant.3, c.in_err-feed_counted.ensures.looks.paid.1));
    })

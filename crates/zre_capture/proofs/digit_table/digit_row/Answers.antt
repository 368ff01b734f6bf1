use Rattle.std.proofs.Common.{◌≤◌, ℕ, sym, subst, arith}
use Rattle.std.proofs.lemmas.List.FromFn.{get_or-map-range_with_len}
use Rattle.zre_capture.specs.DigitTable.{digit_row}
use Rattle.zre_capture.proofs.DecodedPairs.{row-few}
use Rattle.zre_capture.proofs.digit_table.digit_row.Goals as goal

pub returns-clause-value : goal.returns-clause-value
returns-clause-value c = get_or-map-range_with_len digit_row 0 256 c.args.octet c.args.octet 0 (omega (arith, c.ranges.octet.fits)) (omega arith)

pub returns-clause-few : goal.returns-clause-few
returns-clause-few c =
    let is = get_or-map-range_with_len digit_row 0 256 c.args.octet c.args.octet 0 (omega (arith, c.ranges.octet.fits)) (omega arith) in
    subst (λ (n : ℕ). n ≤ 256) (sym is) (row-few c.args.octet)

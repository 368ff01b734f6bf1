use Rattle.std.proofs.Common.{arith}
use Rattle.std.specs.Prelude.{[]}
use Rattle.std.proofs.lemmas.List.FromFn.{get_or-map-range_with_len}
use Rattle.zre_values.specs.Quoting.{row_of}
use Rattle.zre_values.proofs.quoted_table.row_of.Goals as goal

pub returns : goal.returns
returns c = get_or-map-range_with_len row_of 0 256 c.args.octet c.args.octet [] (omega (arith, c.ranges.octet.fits)) (omega arith)

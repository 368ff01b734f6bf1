use Rattle.std.proofs.Common.{sym, arith}
use Rattle.zre_shared.proofs.FrameLengths.{too-long}
use Rattle.zre_shared.proofs.reading.short.Goals as goal

pub returns-then-field-most : goal.returns-then-field-most
returns-then-field-most c = sym (too-long c.args.most c.args.field.now (omega arith))

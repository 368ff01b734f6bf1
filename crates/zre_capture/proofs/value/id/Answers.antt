use Rattle.zre_capture.proofs.FieldTexts.{read_ids}
use Rattle.zre_capture.proofs.value.id.Goals as goal

pub returns : goal.returns
returns c = read_ids c.args.field.now c.read_plain.result c.read_plain.ensures.some c.read_plain.ensures.back

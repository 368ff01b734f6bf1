use Rattle.zre_net.proofs.FirstFields.{cut-found}
use Rattle.zre_net.proofs.reading.fields.cut.Goals as goal

pub returns : goal.returns
returns c = cut-found c.args.text.now c.first_field.result c.first_field.ensures

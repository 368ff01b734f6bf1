use Rattle.zre_shared.proofs.FramesOneByOne.{joined}
use Rattle.zre_shared.proofs.laws.a_welcome_joins_tables.Goals as goal

pub returns : goal.returns
returns c = λ id xs ys h. joined id xs ys h

use Rattle.std.proofs.Common.{refl}
use Rattle.std.proofs.lemmas.Result.{IfOk-weaker}
use Rattle.zre_tables.proofs.LentPieces.{conn_takes}
use Rattle.zre_tables.proofs.feeding.lend.Goals as goal

pub returns-clause-taken : goal.returns-clause-taken
returns-clause-taken over c = λ own o e. IfOk-weaker c.take.result _ _ (λ came t. conn_takes came own o c.args.bytes.now _ _ t) (c.take.ensures.taken own o e)

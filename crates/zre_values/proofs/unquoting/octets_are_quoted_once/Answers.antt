use Rattle.zre_values.proofs.QuotedTexts.{quoted-one}
use Rattle.zre_values.proofs.unquoting.octets_are_quoted_once.Goals as goal

pub returns : goal.returns
returns c = λ u v fu fv e. quoted-one u v fu fv e

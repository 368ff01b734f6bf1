use Rattle.zre_msg.proofs.MeansIsRead.{read-means}
use Rattle.zre_msg.proofs.ReadClauses.{read-meant}
use Rattle.zre_msg.proofs.laws.frames_are_read_as_they_mean.Goals as goal

pub returns-clause-meant : goal.returns-clause-meant
returns-clause-meant c = λ frames m means. read-means frames m means

pub returns-clause-only : goal.returns-clause-only
returns-clause-only c = λ frames m octets e. read-meant frames m octets e

use Rattle.zre_msg.specs.Spelling.{spell}
use Rattle.zre_msg.proofs.MeansIsRead.{read-means}
use Rattle.zre_msg.proofs.laws.spelled_is_read.Goals as goal

pub returns : goal.returns
returns c = λ m means. read-means (spell m) m means

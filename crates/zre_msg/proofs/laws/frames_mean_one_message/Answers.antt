use Rattle.zre_msg.proofs.MeansIsRead.{Means-good, Means-one}
use Rattle.zre_msg.proofs.laws.frames_mean_one_message.Goals as goal

pub returns-clause-good : goal.returns-clause-good
returns-clause-good c = λ frames m p. Means-good frames m p

pub returns-clause-one : goal.returns-clause-one
returns-clause-one c = λ frames m n p q. Means-one frames m n p q

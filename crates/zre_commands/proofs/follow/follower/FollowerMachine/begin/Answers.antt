use Rattle.std.proofs.Common.{List, ℕ, ◌++◌, sym, ap, ◌∙◌, append-nil}
use Rattle.zre_commands.proofs.follow.TextIsMonotone.{text_nothing}
use Rattle.zre_commands.proofs.follow.follower.FollowerMachine.begin.Goals as goal

pub returns : goal.returns
returns c = record { head = λ _. sym (ap (λ (t : List ℕ). c.args._out.now ++ t) (text_nothing _) ∙ append-nil c.args._out.now) }

use Rattle.zre_msg.specs.Lent.{message_of}
use Rattle.zre_values.proofs.AnswersThatAreOk.{on_ok}
use Rattle.zre_peer.proofs.LinesAfterHello.{still_small}
use Rattle.zre_peer.proofs.view.View.later.Goals as goal

pub returns-clause-small : goal.returns-clause-small
returns-clause-small c = still_small c.change.result c.args.self.now c.change.new.self (message_of c.args.lent.now).body c.requires.small (on_ok c.change.result c.change.ensures.ok (λ a. (a.0, a.1))) c.change.ensures.unchanged

use Rattle.std.proofs.Common.{arith}
use Rattle.std.proofs.lemmas.Result.{IfErr-weaker}
use Rattle.zre_peer.proofs.FirstMessages.{first_refuses}
use Rattle.zre_peer.proofs.peer_run.view_of_first.Goals as goal

pub returns-clause-refused : goal.returns-clause-refused
returns-clause-refused c = IfErr-weaker c.opened.result _ _ (λ e h ne. first_refuses c.args.message.now e (omega (arith, c.if-message-ne1.false)) (h ne)) c.opened.ensures.refused

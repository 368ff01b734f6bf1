use Rattle.std.proofs.Common.{◌≡◌, Some, IfOk, subst}
use Rattle.zre_values.specs.declared.peer_id.PeerId.{PeerId}
use Rattle.zre_zmtp.specs.declared.writing.SocketType.TheVariants as socket
use Rattle.zre_zmtp.specs.Written.{ready_frame}
use Rattle.zre_capture.specs.Exercise.{readiness}
use Rattle.zre_capture.proofs.introduction.readiness.Goals as goal

pub returns : goal.returns
unfolding readiness
returns c = subst (λ (p : PeerId). IfOk c.ready.result (λ octets. octets ≡ ready_frame socket.Dealer (Some p))) c.identity.ensures c.ready.ensures

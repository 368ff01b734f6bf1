use Rattle.std.proofs.Common.{◌≡◌, true, subst}
use Rattle.zre_msg.specs.declared.message.Body.{Body}
use Rattle.zre_audit.specs.Exchanged.{is_same_said}
use Rattle.zre_audit.proofs.JudgedIsAgreed.{compared, same_equiv}
use Rattle.zre_audit.proofs.laws.what_is_said_is_compared.Goals as goal

pub returns : goal.returns
returns c = λ b d s. (compared b d s, λ e. subst (λ (x : Body). is_same_said b x ≡ true) e (same_equiv.refl b))

use Rattle.std.proofs.Common.{arith, ◌∷◌, List, ℕ, ap, ◌∙◌, length}
use Rattle.std.proofs.lemmas.Grind.{common_steps}
use Rattle.zre_values.specs.Framing.{frames}
use Rattle.zre_msg.specs.Spelling.{first_frame}
use Rattle.zre_msg.proofs.FrameLengths.{length-frames}
use Rattle.zre_msg.proofs.message.Message.octets_len.Goals as goal

pub returns-in-Some : goal.returns-in-Some
returns-in-Some c =
    let whole = ap (λ (more : List (List ℕ)). length (frames (first_frame c.args.self.now ∷ more))) c.in-Some.ensures ∙ length-frames (first_frame c.args.self.now) c.in-Some.further.now in
    let first = c.frame_len-first.ensures 0 (first_frame c.args.self.now) c.first_len.ensures in
    grind (arith, common_steps, whole, first)

use Rattle.std.proofs.Common.{◌≡◌, ◌-◌, ◌^◌, length, take, min, sum_by}
use Rattle.zre_values.specs.Framing.{frame}
use Rattle.zre_msg.proofs.sizes.frames_len.Given as goal

abbrev pub invariant-loop-body : goal.invariant-loop-body
invariant-loop-body l = l.len ≡ min (sum_by (λ body. length (frame 0 body)) (take l.body-index l.body-items)) (2 ^ 64 - 1)

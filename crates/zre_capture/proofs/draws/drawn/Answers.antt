use Rattle.std.proofs.Common.{◌*◌, ◌^◌}
use Rattle.std.proofs.Math.Nat.{mod-add-mod}
use Rattle.zre_capture.specs.Draws.{drawn}
use Rattle.zre_capture.proofs.draws.drawn.Goals as goal

pub returns : goal.returns
unfolding drawn
returns c = mod-add-mod (c.args.x * 6364136223846793005) (2 ^ 64) 1442695040888963407

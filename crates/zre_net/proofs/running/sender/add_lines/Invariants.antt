use Rattle.std.proofs.Common.{◌≡◌, ◌++◌, replicate, take}
use Rattle.zre_net.specs.Lines.{connects, fresh}
use Rattle.zre_net.proofs.running.sender.add_lines.Given as goal

abbrev pub invariant-loop-act : goal.invariant-loop-act
invariant-loop-act l = l.lines ≡ l.fn.lines ++ replicate (connects (take l.act-index l.acts)) (fresh l.handshake)

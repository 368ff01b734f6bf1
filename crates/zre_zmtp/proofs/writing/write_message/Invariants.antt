use Rattle.std.proofs.Common.{◌≡◌, ◌++◌, drop}
use Rattle.std.specs.List.{flat_map}
use Rattle.zre_values.specs.Framing.{frame}
use Rattle.zre_zmtp.proofs.writing.write_message.Given as goal

abbrev pub invariant-loop-frame : goal.invariant-loop-frame
invariant-loop-frame l = l.octets ++ flat_map (λ y. frame 1 y) (drop l.frame-index l.others) ≡ flat_map (λ y. frame 1 y) l.others

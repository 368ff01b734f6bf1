use Rattle.std.proofs.Common.{◌≡◌, length, option_map}
use Rattle.std.specs.Option.{option_or, option_copied}
use Rattle.zre_zmtp.specs.Ready.{properties, value_of}
use Rattle.zre_zmtp.proofs.command.value_in.Given as goal

abbrev pub decreases-loop-left : goal.decreases-loop-left
decreases-loop-left l = length l.left

abbrev pub invariant-loop-left : goal.invariant-loop-left
invariant-loop-left l =
    option_map (λ ps. option_or (option_copied l.found) (value_of l.wanted ps)) (properties l.left) ≡ option_map (λ ps. value_of l.wanted ps) (properties l.octets)

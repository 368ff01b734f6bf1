use Rattle.std.proofs.Common.{◌||◌, length, ltb, sym, ◌∙◌, arith}
use Rattle.std.specs.List.{list_any}
use Rattle.std.specs.Str.{bytes_eq}
use Rattle.std.proofs.lemmas.Bool.{and_left, lt-leb}
use Rattle.zre_peer.proofs.ViewsWithinLimits.{few_with}
use Rattle.zre_peer.proofs.groups.Groups.can_add.Goals as goal

pub returns-else-group-le-GROUP_OCTETS : goal.returns-else-group-le-GROUP_OCTETS
returns-else-group-le-GROUP_OCTETS c =
    let groups = c.args.self.now in
    let g = c.args.group.now in
    let long = lt-leb (length g) 255 (omega (arith, c.if-group-le-GROUP_OCTETS.false)) in
    long ∙ sym (and_left _ (ltb (length groups) 1024 || list_any (λ x. bytes_eq x g) groups) long) ∙ few_with groups g c.requires

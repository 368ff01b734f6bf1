use Rattle.std.proofs.Common.{rules, ◌∙◌}
use Rattle.zre_link.proofs.LastOctets.{copied}
use Rattle.zre_link.proofs.queue.copy_parts.Goals as goal

pub parts-preserved : goal.parts-preserved
parts-preserved c =
    let part = c.index.result.now in
    copied c.args.parts.now.items part c.parts.next c.parts.skip c.min-at.result c.parts.out.items c.extend_from_slice.new.self.items (search rules) c.index.ensures (search rules) (search rules) ∙ c.parts.invariant

use Rattle.std.proofs.Common.{map, ap, ◌∙◌, take_all}
use Rattle.zre_audit.specs.Kept.{count_on}
use Rattle.zre_audit.proofs.CountedMessages.{counts_are}
use Rattle.zre_audit.proofs.put.all_counts.Goals as goal

pub returns : goal.returns
returns c = λ g J s.
    c.loop-link.invariant g J s
    ∙ ap (map (count_on g J)) (take_all c.loop-link.link-index c.as_slice-link-items.result.now c.loop-link-test.false ∙ c.as_slice-link-items.ensures ∙ c.in_ok-links.ensures g J s)
    ∙ counts_are g J

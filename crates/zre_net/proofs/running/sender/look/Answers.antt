use Rattle.std.proofs.Common.{◌∙◌}
use Rattle.zre_journal.specs.Events.{chronicle}
use Rattle.zre_net.proofs.LooksAtLinks.{none_yet, looks_more, looks_end}
use Rattle.zre_net.proofs.running.sender.look.Goals as goal

pub loop-link-init : goal.loop-link-init
loop-link-init c = λ g J s. none_yet g (chronicle g J) c.args.lines.now

pub loop-link-preserved : goal.loop-link-preserved
loop-link-preserved c = λ g J s. looks_more g (chronicle g J) c.loop-link.link-index c.as_slice-link-items.result.now c.args.lines.now c.loop-link.lines c.look_at.new.lines c.loop-link-test.true (c.loop-link.invariant g J s) (c.in_ok-look_at.ensures g J s)

pub returns : goal.returns
returns c = λ g J s. looks_end g J c.loop-link.link-index c.as_slice-link-items.result.now c.args.lines.now c.loop-link.lines (c.as_slice-link-items.ensures ∙ c.in_ok-links.ensures g J s) c.loop-link-test.false (c.loop-link.invariant g J s)

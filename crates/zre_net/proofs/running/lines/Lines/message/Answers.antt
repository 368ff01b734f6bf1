use Rattle.std.proofs.Common.{◌∙◌, ap, sym}
use Rattle.zre_net.specs.Lines.{messages_at}
use Rattle.zre_net.specs.Lists.{nth}
use Rattle.zre_net.proofs.RowsOfLinks.{one_read, none_read}
use Rattle.zre_net.proofs.NodeAndLinksAfterEntry.{if_ok}
use Rattle.zre_net.proofs.running.lines.Lines.message.Goals as goal

pub returns-in-Some-nth : goal.returns-in-Some-nth
returns-in-Some-nth c =
    if_ok _ _ c.get.result c.get.ensures (λ text is.
    is ∙ one_read c.self.inside.texts c.self.inside.rows.items c.self.invariant.1 c.args.link c.in-Some.row.now (sym (c.in-Some.ensures ∙ ap (nth c.args.link) c.as_slice.ensures.value)) c.args.number c.in-Some-nth.text.now (sym (c.in-Some-nth.ensures ∙ ap (nth c.args.number) c.as_slice-2.ensures))
    ∙ ap (λ ls. nth c.args.number (messages_at c.args.link ls)) c.self.view_is)

pub returns-in-None : goal.returns-in-None
returns-in-None c =
    sym (none_read c.self.inside.texts c.self.inside.rows.items c.self.invariant.1 c.args.link c.in-Some.row.now (sym (c.in-Some.ensures ∙ ap (nth c.args.link) c.as_slice.ensures.value)) c.args.number (sym (c.in-None.ensures ∙ ap (nth c.args.number) c.as_slice-2.ensures)))
    ∙ ap (λ ls. nth c.args.number (messages_at c.args.link ls)) c.self.view_is

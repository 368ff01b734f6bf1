use Rattle.std.proofs.Common.{length, ap, arith}
use Rattle.std.proofs.lemmas.List.{length-drop}
use Rattle.zre_link.specs.Heard.{held_of}
use Rattle.zre_link.specs.Link.{Sending}
use Rattle.zre_link.specs.Text.{text_of}
use Rattle.zre_tables.proofs.holding.peer_octets.Goals as goal

pub returns : goal.returns
returns c = λ s.
    let kept = c.kept.ensures s.own s.line s.linked s.replied s.gone s.link_is in
    let waits = c.unsent.ensures.unsent s.own s.line s.linked s.replied s.gone s.link_is in
    let replies = ap (λ (l : Sending). held_of l.replies) s.link_is in
    let queue = ap (λ (l : Sending). length l.queue) s.link_is in
    omega (arith, kept.0, waits.0, replies, queue, length-drop s.gone (text_of s.own s.line), c.saturating_add.ensures, c.shown_octets.ensures, c.saturating_add-2.ensures)

use Rattle.std.proofs.Common.{◌++◌, ◌∷◌, [], ◌∙◌, ap, replicate}
use Rattle.zre_net.specs.Lines.{connects, fresh}
use Rattle.zre_net.proofs.NodeAndLinksAfterEntry.{sends_one}
use Rattle.zre_net.proofs.running.sender.step.Goals as goal

pub returns : goal.returns
returns c = λ g J s b k slight.
    let st = c.in_ok-step.ensures.steps g J s in
    sends_one g J c.args.entry _ c.in_ok-step.step st c.args.handshake c.args.lines.now c.add_lines.new.lines c.look.new.lines b k slight
    (c.in-Ok.ensures ∙ ap (λ as_. c.args.lines.now ++ replicate (connects as_) (fresh c.args.handshake)) c.as_slice.ensures) (c.in-Ok-look.ensures g (J ++ c.args.entry ∷ []) st.stands)

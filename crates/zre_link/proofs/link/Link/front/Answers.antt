use Rattle.std.proofs.Common.{◌≡◌, ◌-◌, ap, subst, ◌∙◌, take, drop}
use Rattle.zre_link.specs.Front.{IsFront}
use Rattle.zre_link.specs.Link.{Sending, gate_at, gate_of}
use Rattle.zre_link.specs.Text.{text_of}
use Rattle.zre_link.proofs.SendableFronts.{cut_front}
use Rattle.zre_link.proofs.link.Link.front.Goals as goal

pub returns-clause-front : goal.returns-clause-front
returns-clause-front c = λ own line linked o n e.
    let part = c.front-part.result.now in
    let waits : c.self.inside.queue ≡ drop n (text_of own line) = ap (λ (s : Sending). s.queue) (c.self.view_is ∙ e) in
    let may : c.open.result ≡ gate_of own line linked o - n = c.open.ensures.open ∙ ap (λ (s : Sending). gate_at s.linked s.replies.awaits s.written - s.taken) e in
    subst (λ w. IsFront w (take c.min.result part)) (ap (λ k. take k c.self.inside.queue) may ∙ ap (λ l. take (gate_of own line linked o - n) l) waits)
    (cut_front c.open.result c.min.result c.self.inside.queue part c.front-part.ensures c.min.ensures)

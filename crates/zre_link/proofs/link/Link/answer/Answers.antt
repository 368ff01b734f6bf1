use Rattle.std.proofs.Common.{◌≡◌, ℕ, None, ap, subst, ◌∙◌, arith}
use Rattle.zre_zmtp.specs.Ping.{contexts_in}
use Rattle.zre_link.specs.Link.{Sending, slow_at}
use Rattle.zre_link.proofs.AppendedMembers.{pongs_queued, waits-of}
use Rattle.zre_link.proofs.AnsweredReplies.{answers_refused, on_ok, if_err}
use Rattle.zre_link.proofs.link.Link.answer.Goals as goal

pub invariant_of-self : goal.invariant_of-self
invariant_of-self c =
    let i = c.self.invariant in
    let a = c.answer_all.ensures in
    (omega (arith, i.0, a.balanced), omega (arith, i.1, a.grows), a.within i.2, i.3)

pub returns-clause-ok : goal.returns-clause-ok
returns-clause-ok c = λ own line linked o n e.
    let i = c.self.inside in
    let was : Sending = record { queue = i.queue; sent = i.sent; written = i.written; taken = i.taken; linked = i.linked; replies = i.replies } in
    let is = c.self.view_is ∙ e in
    on_ok c.answer_all.result (λ r. (
      subst (λ (w : ℕ). slow_at w (contexts_in c.args.items.now) ≡ None) (waits-of own line linked o n was is) r.0,
      pongs_queued own line (contexts_in c.args.items.now) linked o n was c.answer_all.new.queue c.answer_all.new.written is c.self.invariant.0 (r.1, r.2),
    )) c.answer_all.ensures.ok

pub returns-clause-refused : goal.returns-clause-refused
returns-clause-refused c = λ own line linked o n e.
    let i = c.self.inside in
    let was : Sending = record { queue = i.queue; sent = i.sent; written = i.written; taken = i.taken; linked = i.linked; replies = i.replies } in
    let is = c.self.view_is ∙ e in
    if_err _ _ c.answer_all.result (λ x. answers_refused x _ _ None (ap (λ (w : ℕ). slow_at w (contexts_in c.args.items.now)) (waits-of own line linked o n was is))
    (λ p. pongs_queued own line (contexts_in c.args.items.now) linked o n was c.answer_all.new.queue c.answer_all.new.written is c.self.invariant.0 p)) c.answer_all.ensures.refused

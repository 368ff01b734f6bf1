use Rattle.std.proofs.Common.{length, refl, ap, ◌∙◌}
use Rattle.zre_link.specs.Link.{Sending}
use Rattle.zre_link.proofs.AnsweredReplies.{all_answered, some_answered, still_paid, paid_by, refusal_paid, emptied_paid}
use Rattle.zre_link.proofs.link.Link.reply_counted.Goals as goal

pub returns-in-Ok-answer-clause-ok : goal.returns-in-Ok-answer-clause-ok
returns-in-Ok-answer-clause-ok g c = λ own line linked o n e.
    let is = c.self.view_is ∙ e in
    let fed = c.in-Ok.ensures.ok o (ap (λ (s : Sending). s.replies) is) in
    let all = all_answered own line linked o c.args.piece.now n _ c.feed.new.self c.answer.new.self _ _ is (fed.1, fed.2) c.as_slice.ensures c.in-Ok-answer.ensures.ok in
    (all.0, fed.0, all.1)

pub returns-in-Ok-clause-refused : goal.returns-in-Ok-clause-refused
returns-in-Ok-clause-refused g c = λ own line linked o n e.
    let is = c.self.view_is ∙ e in
    let fed = c.in-Ok.ensures.ok o (ap (λ (s : Sending). s.replies) is) in
    some_answered own line linked o c.args.piece.now n _ c.feed.new.self c.answer.new.self _ _ c.in-Err.slow _ is (fed.1, fed.2) c.as_slice.ensures c.in-Err.ensures.refused

pub returns-in-Ok-answer-2-clause-refused : goal.returns-in-Ok-answer-2-clause-refused
returns-in-Ok-answer-2-clause-refused g c = λ own line linked o n e.
    let is = c.self.view_is ∙ e in
    let refuses = rw c.in-Err-Zmtp.field-0-is at c.in-Err-Zmtp.ensures.refused in
    let fed = refuses o (ap (λ (s : Sending). s.replies) is) in
    let all = all_answered own line linked o c.args.piece.now n _ c.feed.new.self c.answer-in-Err-Zmtp.new.self _ _ is fed.1 c.as_slice-in-Err-Zmtp.ensures c.in-Ok-answer-2.ensures.ok in
    (all.0, fed.0, all.1)

pub returns-in-Err-Zmtp-clause-refused : goal.returns-in-Err-Zmtp-clause-refused
returns-in-Err-Zmtp-clause-refused g c = λ own line linked o n e.
    let is = c.self.view_is ∙ e in
    let refuses = rw c.in-Err-Zmtp.field-0-is at c.in-Err-Zmtp.ensures.refused in
    let fed = refuses o (ap (λ (s : Sending). s.replies) is) in
    some_answered own line linked o c.args.piece.now n _ c.feed.new.self c.answer-in-Err-Zmtp.new.self _ _ c.in-Err-answer.slow _ is fed.1 c.as_slice-in-Err-Zmtp.ensures c.in-Err-answer.ensures.refused

pub returns-in-Ok-answer-clause-looks : goal.returns-in-Ok-answer-clause-looks
returns-in-Ok-answer-clause-looks g c = (still_paid c.args.steps.now c.feed.new.steps (length c.args.piece.now) c.self.inside.replies c.feed.new.self c.args.self.now.replies c.answer.new.self.replies (ap (λ (s : Sending). s.replies) c.self.view_is) c.answer.ensures.unchanged.3 c.in-Ok.ensures.looks.0, tt)

pub returns-in-Ok-clause-looks : goal.returns-in-Ok-clause-looks
returns-in-Ok-clause-looks g c = (tt, paid_by c.args.steps.now c.feed.new.steps (length c.args.piece.now) c.self.inside.replies c.feed.new.self c.args.self.now.replies (ap (λ (s : Sending). s.replies) c.self.view_is) c.in-Ok.ensures.looks.0)

pub returns-in-Ok-clause-paid : goal.returns-in-Ok-clause-paid
returns-in-Ok-clause-paid g c = λ _. still_paid c.args.steps.now c.feed.new.steps (length c.args.piece.now) c.self.inside.replies c.feed.new.self c.args.self.now.replies c.answer.new.self.replies (ap (λ (s : Sending). s.replies) c.self.view_is) c.answer.ensures.unchanged.3 c.in-Ok.ensures.looks.0

pub returns-in-Ok-answer-2-clause-looks : goal.returns-in-Ok-answer-2-clause-looks
returns-in-Ok-answer-2-clause-looks g c = (tt, refusal_paid c.args.steps.now c.feed.new.steps (length c.args.piece.now) c.self.inside.replies c.args.self.now.replies (ap (λ (s : Sending). s.replies) c.self.view_is) c.in-Err-Zmtp.ensures.looks.1)

pub returns-in-Ok-answer-2-clause-paid : goal.returns-in-Ok-answer-2-clause-paid
returns-in-Ok-answer-2-clause-paid g c = λ _. emptied_paid c.args.steps.now c.feed.new.steps (length c.args.piece.now) c.self.inside.replies c.feed.new.self c.args.self.now.replies c.answer-in-Err-Zmtp.new.self.replies (ap (λ (s : Sending). s.replies) c.self.view_is) c.answer-in-Err-Zmtp.ensures.unchanged.3 c.in-Err-Zmtp.ensures.emptied c.in-Err-Zmtp.ensures.looks.1

pub returns-in-Err-Zmtp-clause-looks : goal.returns-in-Err-Zmtp-clause-looks
returns-in-Err-Zmtp-clause-looks g c = (tt, refusal_paid c.args.steps.now c.feed.new.steps (length c.args.piece.now) c.self.inside.replies c.args.self.now.replies (ap (λ (s : Sending). s.replies) c.self.view_is) c.in-Err-Zmtp.ensures.looks.1)

pub returns-in-Err-Zmtp-clause-paid : goal.returns-in-Err-Zmtp-clause-paid
returns-in-Err-Zmtp-clause-paid g c = λ _. emptied_paid c.args.steps.now c.feed.new.steps (length c.args.piece.now) c.self.inside.replies c.feed.new.self c.args.self.now.replies c.answer-in-Err-Zmtp.new.self.replies (ap (λ (s : Sending). s.replies) c.self.view_is) c.answer-in-Err-Zmtp.ensures.unchanged.3 c.in-Err-Zmtp.ensures.emptied c.in-Err-Zmtp.ensures.looks.1

pub returns-clause-looks : goal.returns-clause-looks
returns-clause-looks g c = (tt, refusal_paid c.args.steps.now c.feed.new.steps (length c.args.piece.now) c.self.inside.replies c.args.self.now.replies (ap (λ (s : Sending). s.replies) c.self.view_is) c.in-Err-OutOfMemory.ensures.looks.1)

pub returns-clause-paid : goal.returns-clause-paid
returns-clause-paid g c = λ other. absurd (other refl)

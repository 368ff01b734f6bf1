use Rattle.std.proofs.Common.{length, arith, ◌∷◌, refl, ◌∙◌}
use Rattle.zre_journal.specs.Chronicle.{Comes, after}
use Rattle.zre_journal.specs.Happens.{at_input, with_entry}
use Rattle.zre_journal.specs.Held.{kept}
use Rattle.zre_journal.specs.LinkEntries.{end_by}
use Rattle.zre_node.specs.Links.{pongs}
use Rattle.zre_node.specs.declared.effects.Effects.{Effects}
use Rattle.zre_values.proofs.AnswersThatAreOk.{on_ok}
use Rattle.zre_node.proofs.EffectsOnLinks.{noted, reply_marks, reply_names}
use Rattle.zre_node.proofs.LooksOfEntries.{less_looks, entry_lowers, err_looks}
use Rattle.zre_node.proofs.MarksAfterMarks.{did_as, did_then}
use Rattle.zre_node.proofs.RepliesOnLinks.{pongs_did}
use Rattle.zre_node.proofs.WholeEntries.{took_noted}
use Rattle.zre_node.proofs.tables.Tables.take_reply.Goals as goal

pub returns-clause-took : goal.returns-clause-took
returns-clause-took over c = λ g H e at_is is none h.
    let l = c.args.reply.now.from in
    let K = Comes e ∷ H in
    let n : Effects = record c.args.out.now { pushed = c.push.new.self } in
    let came = c.in_ok-why.ensures.came g H e at_is is h in
    let J = after (pongs l came.contexts) K in
    let ended = c.in_ok-end_by_reply.ensures g J came.holds came.known in
    let both = did_then g (pongs l came.contexts) (end_by g l c.in_ok-why.why) K c.come_reply.new.self c.end_by_reply.new.self n n c.end_by_reply.new.out (pongs_did g l came.contexts K c.come_reply.new.self n came.holds) ended in
    let d = did_as g (at_input g e.input H K) _ K c.end_by_reply.new.self n c.end_by_reply.new.out (reply_marks g e H l c.args.reply.now.bytes.now is ∙ came.brings) both in
    let notes = noted l e.input c.args.out.now n (reply_names e l c.args.reply.now.bytes.now is) refl refl c.in_ok-push.ensures.ok in
    on_ok c.offer.result (c.offer.ensures g _ d.holds) (λ o. took_noted g e H c.end_by_reply.new.self c.args.out.now n c.end_by_reply.new.out c.offer.new.out h.keeps.going none notes d o)

pub returns-in_err-push-clause-looks : goal.returns-in_err-push-clause-looks
returns-in_err-push-clause-looks over c = λ g H e is h.
    err_looks _ c.from_residual.result c.from_residual.ensures.1 c.args.steps.now c.args.steps.now (kept g H) (kept g (with_entry g e H)) (length c.args.reply.now.bytes.now) (omega arith)

pub returns-in_err-why-clause-looks : goal.returns-in_err-why-clause-looks
returns-in_err-why-clause-looks over c = λ g H e is h.
    err_looks _ c.from_residual-in_err-why.result c.from_residual-in_err-why.ensures.1 c.args.steps.now c.come_reply.new.steps (kept g H) (kept g (with_entry g e H)) (length c.args.reply.now.bytes.now) (c.in_err-why.ensures.looks g H e is h).1

pub returns-in_err-end_by_reply-clause-looks : goal.returns-in_err-end_by_reply-clause-looks
returns-in_err-end_by_reply-clause-looks over c = λ g H e is h.
    err_looks _ c.from_residual-in_err-end_by_reply.result c.from_residual-in_err-end_by_reply.ensures.1 c.args.steps.now c.come_reply.new.steps (kept g H) (kept g (with_entry g e H)) (length c.args.reply.now.bytes.now)
    (omega (arith, (c.in_ok-why.ensures.looks g H e is h).0))

pub returns-clause-looks : goal.returns-clause-looks
returns-clause-looks over c = λ g H e is h.
    less_looks c.offer.result c.args.steps.now c.come_reply.new.steps (kept g H) (kept g (with_entry g e H)) (kept g (Comes e ∷ H)) (length c.args.reply.now.bytes.now)
    (entry_lowers g e H h.keeps.going h.keeps.proper) (c.in_ok-why.ensures.looks g H e is h).0

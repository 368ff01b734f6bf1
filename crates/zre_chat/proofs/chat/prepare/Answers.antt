use Rattle.std.proofs.Common.{refl}
use mathlib.Core.Logic.{inl}
use Rattle.std.proofs.lemmas.Result.{IfErr-weaker, IfOk-weaker, on_ok_weaker, err_from_is_err_and}
use Rattle.zre_console.proofs.PreparingFailed.{not_begun, not_entered}
use Rattle.zre_chat.proofs.chat.prepare.Goals as goal

pub returns-in_err-begin-clause-refused : goal.returns-in_err-begin-clause-refused
returns-in_err-begin-clause-refused g c =
    let w = g.W.World in let r = g.R.Recorder in let a = c.args in let n = c.begin.new.rec in
    let p = err_from_is_err_and c.from_residual.result c.from_residual.ensures.1 in
    rw (p.1, p.2) (not_begun a.chat.config a.chat.start a.chat.capture c.in_err-begin.field-0.0 (w.told a.world.now) (w.told a.world.now) (r.kept a.rec.now) (r.kept n) (r.named a.rec.now) (r.named n) _ _ _ refl c.in_err-begin.ensures.refused)

pub returns-clause-opened : goal.returns-clause-opened
returns-clause-opened g c = IfOk-weaker c.enter.result _ _ (λ _ told. record { is_told = told; begins = c.in_ok-begin.ensures.begins }) c.enter.ensures.told

pub returns-clause-refused : goal.returns-clause-refused
returns-clause-refused g c =
    let w = g.W.World in let r = g.R.Recorder in let a = c.args in let n = c.begin.new.rec in
    IfErr-weaker c.enter.result _ _ (λ status at. not_entered a.chat.config a.chat.start a.chat.capture status (w.told a.world.now) (w.told c.enter.new.world) (r.kept a.rec.now) (r.kept n) (r.named a.rec.now) (r.named n) _ _ _
    (λ file is. (r.begun n, c.in_ok-begin.ensures.begins file is)) at) c.enter.ensures.refused

pub returns-in_err-begin-clause-first : goal.returns-in_err-begin-clause-first
returns-in_err-begin-clause-first g c =
    let p = err_from_is_err_and c.from_residual.result c.from_residual.ensures.1 in
    rw (p.1, p.2) (inl refl, c.in_err-begin.ensures.first)

pub returns-in_err-begin-clause-unread : goal.returns-in_err-begin-clause-unread
returns-in_err-begin-clause-unread g c =
    let p = err_from_is_err_and c.from_residual.result c.from_residual.ensures.1 in
    rw (p.1, p.2) c.in_err-begin.ensures.unread

pub returns-clause-counts : goal.returns-clause-counts
returns-clause-counts g c = on_ok_weaker c.enter.result (λ same. (same, c.in_ok-begin.ensures.counts)) c.enter.ensures.counts

pub returns-clause-first : goal.returns-clause-first
returns-clause-first g c = IfErr-weaker c.enter.result _ _ (λ status at. (at, inl c.in_ok-begin.ensures.counts)) c.enter.ensures.first

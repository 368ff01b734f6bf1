use Rattle.std.proofs.Common.{◌<◌, ℕ, List, ◌++◌, length, sym, ap, subst, ◌∙◌, refl, arith}
use Rattle.std.specs.Prelude.{option_to_list}
use Rattle.std.proofs.lemmas.List.{append-nil, length-append}
use Rattle.std.proofs.lemmas.Result.{err_from_is_err_and}
use Rattle.zre_zmtp.specs.Stream.{Before}
use Rattle.zre_zmtp.specs.Shown.{before_of, left_of, Advances, RefusesAt}
use Rattle.zre_zmtp.proofs.FrameFaults.{is_framed, is_header, left-frame, left-none, waits-body}
use Rattle.zre_zmtp.proofs.LooksByTurn.{frame_kept}
use Rattle.zre_zmtp.proofs.TurnsOfReaders.{frame_taken, frame_refused, turn_waits}
use Rattle.zre_zmtp.proofs.progress.Progress.take_frame.Goals as goal

pub returns-then-len-header-clause-ok : goal.returns-then-len-header-clause-ok
returns-then-len-header-clause-ok c =
    let b = before_of c.args.self.now in
    let h = c.args.frame.header in
    let head = c.args.frame.head in
    let body = c.args.frame.body in
    let lt : length body < h.size = omega (arith, c.len.ensures, c.if-len-header.true) in
    λ fine.
    let still = waits-body c.args.want.now b h head body c.requires.frame (is_header h head c.requires.header c.requires.within) fine lt in
    turn_waits c.args.want.now b (head ++ body) c.args.out.now c.args.out.now b _ still.faultless still.partial refl refl (left-frame c.args.self.now.expected c.args.self.now.greeting _ _ c.requires.frame)

pub returns-then-len-header-clause-held : goal.returns-then-len-header-clause-held
returns-then-len-header-clause-held c =
    let head = c.args.frame.head in
    let body = c.args.frame.body in
    omega (arith, ap length (left-frame c.args.self.now.expected c.args.self.now.greeting head body c.requires.frame), length-append head body)

pub returns-then-len-header-clause-held_whole : goal.returns-then-len-header-clause-held_whole
returns-then-len-header-clause-held_whole c = λ whole. omega (arith, whole, c.len.ensures, c.if-len-header.true)

pub returns-in_err-item-clause-refused : goal.returns-in_err-item-clause-refused
returns-in_err-item-clause-refused c =
    let p = err_from_is_err_and c.from_residual.result c.from_residual.ensures.1 in
    let b = before_of c.args.self.now in
    λ fine. rw (p.1, p.2) (subst (λ (x : List ℕ). RefusesAt c.in_err-item.field-0.0 c.args.want.now b (c.args.frame.head ++ x) c.args.out.now c.args.out.now) c.finish.ensures
    (frame_refused c.args.want.now b c.args.frame.header c.args.frame.head c.finish.result c.args.out.now c.args.out.now c.in_err-item.field-0.0
    (is_framed c.args.want.now b c.args.frame.header c.args.frame.head c.finish.result c.requires.frame c.requires.header c.requires.within (omega (arith, ap length c.finish.ensures, c.len.ensures, c.if-len-header.false, c.requires.room)) fine) refl c.in_err-item.ensures.refused))

pub returns-in_ok-push-clause-ok : goal.returns-in_ok-push-clause-ok
returns-in_ok-push-clause-ok c =
    let b = before_of c.args.self.now in
    let e = c.in_ok-item.ensures in
    λ fine. subst (λ (x : List ℕ). Advances c.args.want.now b (c.args.frame.head ++ x) c.args.out.now c.push.new.self (before_of c.finish_owned_frame.new.self) (left_of c.finish_owned_frame.new.self)) c.finish.ensures
    (frame_taken c.args.want.now b c.args.frame.header c.args.frame.head c.finish.result c.len-2.result c.args.out.now c.push.new.self _ _
    (is_framed c.args.want.now b c.args.frame.header c.args.frame.head c.finish.result c.requires.frame c.requires.header c.requires.within (omega (arith, ap length c.finish.ensures, c.len.ensures, c.if-len-header.false, c.requires.room)) fine) e.faultless c.len-2.ensures
    (c.in_ok-push.ensures.ok ∙ ap (λ i. c.args.out.now ++ option_to_list i) (sym c.in-Some.is ∙ e.says)) e.after
    (left-none c.args.self.now c.finish_owned_frame.new.self c.requires.no_head c.requires.no_body e.partial (ap (λ (x : Before). x.expected) e.after)))

pub returns-in_default-clause-ok : goal.returns-in_default-clause-ok
returns-in_default-clause-ok c =
    let b = before_of c.args.self.now in
    let e = c.in_ok-item.ensures in
    λ fine. subst (λ (x : List ℕ). Advances c.args.want.now b (c.args.frame.head ++ x) c.args.out.now c.args.out.now (before_of c.finish_owned_frame.new.self) (left_of c.finish_owned_frame.new.self)) c.finish.ensures
    (frame_taken c.args.want.now b c.args.frame.header c.args.frame.head c.finish.result c.len-2.result c.args.out.now c.args.out.now _ _
    (is_framed c.args.want.now b c.args.frame.header c.args.frame.head c.finish.result c.requires.frame c.requires.header c.requires.within (omega (arith, ap length c.finish.ensures, c.len.ensures, c.if-len-header.false, c.requires.room)) fine) e.faultless c.len-2.ensures
    (sym (append-nil c.args.out.now) ∙ ap (λ i. c.args.out.now ++ option_to_list i) (sym c.in_default.is ∙ e.says)) e.after
    (left-none c.args.self.now c.finish_owned_frame.new.self c.requires.no_head c.requires.no_body e.partial (ap (λ (x : Before). x.expected) e.after)))

pub returns-in_ok-push-clause-held : goal.returns-in_ok-push-clause-held
returns-in_ok-push-clause-held c =
    let e = c.in_ok-item.ensures in
    omega (arith, ap length c.finish.ensures, frame_kept (before_of c.args.self.now) c.args.frame.header c.finish.result _ (before_of c.finish_owned_frame.new.self) _ e.after (left-none c.args.self.now c.finish_owned_frame.new.self c.requires.no_head c.requires.no_body e.partial (ap (λ (x : Before). x.expected) e.after)))

pub returns-in_ok-push-clause-held_whole : goal.returns-in_ok-push-clause-held_whole
returns-in_ok-push-clause-held_whole c =
    let e = c.in_ok-item.ensures in
    λ whole. omega (arith, ap length c.finish.ensures, frame_kept (before_of c.args.self.now) c.args.frame.header c.finish.result _ (before_of c.finish_owned_frame.new.self) _ e.after (left-none c.args.self.now c.finish_owned_frame.new.self c.requires.no_head c.requires.no_body e.partial (ap (λ (x : Before). x.expected) e.after)))

pub returns-in_default-clause-held : goal.returns-in_default-clause-held
returns-in_default-clause-held c =
    let e = c.in_ok-item.ensures in
    omega (arith, ap length c.finish.ensures, frame_kept (before_of c.args.self.now) c.args.frame.header c.finish.result _ (before_of c.finish_owned_frame.new.self) _ e.after (left-none c.args.self.now c.finish_owned_frame.new.self c.requires.no_head c.requires.no_body e.partial (ap (λ (x : Before). x.expected) e.after)))

pub returns-in_default-clause-held_whole : goal.returns-in_default-clause-held_whole
returns-in_default-clause-held_whole c =
    let e = c.in_ok-item.ensures in
    λ whole. omega (arith, ap length c.finish.ensures, frame_kept (before_of c.args.self.now) c.args.frame.header c.finish.result _ (before_of c.finish_owned_frame.new.self) _ e.after (left-none c.args.self.now c.finish_owned_frame.new.self c.requires.no_head c.requires.no_body e.partial (ap (λ (x : Before). x.expected) e.after)))

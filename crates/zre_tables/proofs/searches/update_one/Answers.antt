use Rattle.std.proofs.Common.{◌≤◌, ◌-◌, ◌^◌, sym, ap, ◌∙◌, subst}
use Rattle.std.specs.FinMap as map
use Rattle.zre_timers.specs.Moments.{Moments}
use Rattle.zre_tables.specs.Agreement.{AreHeard}
use Rattle.zre_tables.proofs.SumsAgreeWithRows.{touch_heard}
use Rattle.zre_tables.proofs.searches.update_one.Goals as goal

pub returns-in_ok-touch : goal.returns-in_ok-touch
returns-in_ok-touch c = λ rows r at a.
    let fits = subst (λ n. n ≤ 2 ^ 64 - 1) c.active_of-active.ensures.active c.active_of-active.ensures.fits in
    let put = c.in_ok-touch.ensures.ok ∙ ap (λ n. map.insert c.args.heard.now c.args.link n) c.active_of-active.ensures.active in
    touch_heard rows c.args.heard.now c.touch.new.self r c.args.link c.args.peer.now at fits put a

pub returns-in_err-touch : goal.returns-in_err-touch
returns-in_err-touch c = λ rows r at a. subst (λ (m : Moments). AreHeard rows m r) (sym c.in_err-touch.ensures.err) a

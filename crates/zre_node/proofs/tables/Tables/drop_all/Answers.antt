use Rattle.std.proofs.Common.{[], ◌∷◌, take, refl, sym, ap, ◌∙◌, append-nil}
use Rattle.zre_journal.specs.Chronicle.{ClosesAtStop}
use Rattle.zre_node.specs.declared.effects.Effects.{Effects}
use Rattle.zre_node.proofs.MarksAfterMarks.{did_by, one_more, all_done}
use Rattle.zre_node.proofs.ConnectionsComeAndGo.{dropped, drops_run}
use Rattle.zre_node.proofs.tables.Tables.drop_all.Goals as goal

pub loop-conn-preserved : goal.loop-conn-preserved
loop-conn-preserved c = λ g H h none.
    let so_far = c.loop-conn.invariant g H h none in
    let idle = drops_run (take c.loop-conn.conn-index c.args.conns.now) H none _ in
    one_more g (λ k. ClosesAtStop k) c.args.conns.now c.loop-conn.conn-index H c.loop-conn.self _ c.args.out.now c.loop-conn.out _ c.loop-conn-test.true so_far
    (did_by g (ClosesAtStop _ ∷ []) _ _ c.loop-conn.out c.act.new.self (dropped g _ c.loop-conn.self so_far.holds _ idle c.remove.new.self c.remove.ensures)
    (ap (λ (s : Effects). s.events) c.in_ok-act.ensures ∙ sym (append-nil c.loop-conn.out.events)) (ap (λ (s : Effects). s.acts) c.in_ok-act.ensures) (ap (λ (s : Effects). s.pushed) c.in_ok-act.ensures) (λ l. refl))

pub returns : goal.returns
returns c = λ g H h none. all_done g (λ k. ClosesAtStop k) c.args.conns.now c.loop-conn.conn-index H c.loop-conn.self c.args.out.now c.loop-conn.out c.loop-conn-test.false (c.loop-conn.invariant g H h none)

use Rattle.std.proofs.Common.{[], take, refl, sym, ap, ◌∙◌, arith}
use Rattle.std.proofs.lemmas.List.{length-take, length-take-le}
use Rattle.zre_outside.proofs.GatheredText.{front_longer}
use Rattle.zre_outside.proofs.RefusedReads.{none_then, last_then}
use Rattle.zre_outside.proofs.CountsThatRose.{rose_since}
use Rattle.zre_commands.specs.declared.pump.pumping.Onward.TheVariants as nexts
use Rattle.zre_commands.proofs.pump.EndIsNotReadFault.{failing, goes_on_unfailed, finishes_unfailed, no_memory, too_long}
use Rattle.zre_commands.proofs.pump.PumpProgress.{MovesOn-nil, starts, goes_on, refused, finishes_on, fails_on}
use Rattle.zre_commands.proofs.pump.pumping.pump.Goals as goal

pub loop-taken-init : goal.loop-taken-init
loop-taken-init g c = record {
  reached = starts _ _ _ _ _ _ c.requires.start (c.in-Ok-begin.ensures.begun c.requires.start) c.requires.going;
  same = refl;
  within = omega arith;
  room = c.in-Ok.ensures;
  reads = omega arith;
  refused = refl;
  writes = c.begin.ensures.writes;
}

pub returns-in-Err-clause-pumped : goal.returns-in-Err-clause-pumped
returns-in-Err-clause-pumped g c =
    let m = g.M.Machine.says c.args.machine.now in
    record {
      octets = [];
      moved = MovesOn-nil _ _;
      within = omega arith;
      outcome = refused c.in-Err.status c.args.limit m [] _ _ _ _ _ _ _ (λ r. r) (front_longer _ _ (m.text []) (m.ending [])) (c.in-Err.ensures.refused c.requires.start);
    }

pub loop-taken-preserved : goal.loop-taken-preserved
loop-taken-preserved g c =
    let inv = c.loop-taken.invariant in
    let turn = c.take_turn-turn in
    let piece = take turn.result.read turn.new.buf in
    let len = length-take-le turn.result.read turn.new.buf turn.ensures.bound in
    let t = rw (inv.same, c.in-Go.is) at (turn.ensures.turned inv.reached.octets inv.reached.known (ap (λ m. m.is_stopped inv.reached.octets) inv.same ∙ inv.reached.going)) in
    record {
      reached = goes_on _ _ (g.M.Machine.says c.args.machine.now) _ _ _ _ _ _ _ _ _ c.loop-taken.taken turn.result.read piece inv.reached len turn.ensures.moved t.1.0 t.1.1 t.1.2;
      same = turn.ensures.same ∙ inv.same;
      within = omega (arith, turn.ensures.bound, turn.auto.buf, c.portion-room.ensures.within, length-take c.portion-room.result c.deref_mut.result.now, c.loop-taken-test.true);
      room = inv.room;
      reads = omega (arith, inv.reads, turn.ensures.reads);
      refused = none_then _ _ _ inv.refused (turn.ensures.refused.1 (λ e. goes_on_unfailed (sym c.in-Go.is ∙ e)));
      writes = omega (arith, inv.writes, turn.ensures.writes);
    }

pub returns-in-Finish-clause-pumped : goal.returns-in-Finish-clause-pumped
returns-in-Finish-clause-pumped g c =
    let inv = c.loop-taken.invariant in
    let turn = c.take_turn-turn in
    finishes_on c.finish.result _ (g.M.Machine.fed turn.new.machine) (g.M.Machine.says c.args.machine.now) c.args.limit c.loop-taken.taken turn.result.read turn.new.buf _ _ _ _ _ _ _ _ _ _ _ _ _ inv.reached turn.ensures.bound
    (omega (arith, turn.ensures.bound, turn.auto.buf, c.portion-room.ensures.within, length-take c.portion-room.result c.deref_mut.result.now, c.loop-taken-test.true)) c.loop-taken-test.true turn.ensures.moved
    (rose_since _ _ _ (omega (arith, inv.writes, turn.ensures.writes)))
    (rw (inv.same, c.in-Finish.is) at (turn.ensures.turned inv.reached.octets inv.reached.known (ap (λ m. m.is_stopped inv.reached.octets) inv.same ∙ inv.reached.going)))
    (λ o fed e. rw (turn.ensures.same, inv.same) at (c.finish.ensures.finishes o fed e))

pub returns-in-Fail-clause-pumped : goal.returns-in-Fail-clause-pumped
returns-in-Fail-clause-pumped g c =
    let inv = c.loop-taken.invariant in
    let turn = c.take_turn-turn in
    fails_on c.in-Fail.status _ (g.M.Machine.says c.args.machine.now) c.args.limit c.loop-taken.taken turn.result.read turn.new.buf _ _ _ _ _ _ _ _ _ _ _ _ _ inv.reached turn.ensures.bound
    (omega (arith, turn.ensures.bound, turn.auto.buf, c.portion-room.ensures.within, length-take c.portion-room.result c.deref_mut.result.now, c.loop-taken-test.true)) c.loop-taken-test.true turn.ensures.moved
    (rose_since _ _ _ inv.reads) (rose_since _ _ _ inv.writes)
    (rw (inv.same, c.in-Fail.is) at (turn.ensures.turned inv.reached.octets inv.reached.known (ap (λ m. m.is_stopped inv.reached.octets) inv.same ∙ inv.reached.going)))

pub returns-clause-pumped : goal.returns-clause-pumped
returns-clause-pumped g c =
    let r = c.loop-taken.invariant.reached in
    record {
      octets = r.octets;
      moved = r.moved;
      within = omega (arith, r.counted, c.loop-taken.invariant.within);
      outcome = (r.counted ∙ omega (arith, c.loop-taken.invariant.within), r.going, r.appended);
    }

-- ---- the reads that were refused

pub returns-in_default-clause-refused : goal.returns-in_default-clause-refused
returns-in_default-clause-refused g c = (λ e. absurd (no_memory e), λ n. refl)

pub returns-in-Err-clause-refused : goal.returns-in-Err-clause-refused
returns-in-Err-clause-refused g c = (λ e. absurd (c.in-Err.ensures.unread e), λ n. refl)

pub returns-in-Finish-clause-refused : goal.returns-in-Finish-clause-refused
returns-in-Finish-clause-refused g c =
    let none = none_then _ _ _ c.loop-taken.invariant.refused (c.take_turn-turn.ensures.refused.1 (λ e. finishes_unfailed (sym c.in-Finish.is ∙ e))) in
    (λ e. absurd (c.finish.ensures.unread e), λ n. none)

pub returns-in-Fail-clause-refused : goal.returns-in-Fail-clause-refused
returns-in-Fail-clause-refused g c =
    let inv = c.loop-taken.invariant in
    let turn = c.take_turn-turn in (
      λ e. last_then _ _ _ inv.refused (turn.ensures.refused.0 (c.in-Fail.is ∙ ap nexts.Fail e)),
      λ n. none_then _ _ _ inv.refused (turn.ensures.refused.1 (λ e. n (ap failing (sym c.in-Fail.is ∙ e)))),
    )

pub returns-clause-refused : goal.returns-clause-refused
returns-clause-refused g c = (λ e. absurd (too_long e), λ n. c.loop-taken.invariant.refused)

use Rattle.std.proofs.Common.{◌≡◌, ◌+◌, ◌≤◌, take, subst, arith}
use Rattle.std.proofs.lemmas.List.{length-take, length-take-le}
use Rattle.zre_outside.specs.Causes.{Rose}
use Rattle.zre_outside.proofs.CountsThatRose.{rose_since}
use Rattle.zre_outside.proofs.RefusedReads.{none_then}
use Rattle.zre_console.specs.reader.Turning.{Finishes}
use Rattle.zre_console.proofs.reader.RefusedReads.{ends_then}
use Rattle.zre_console.proofs.reader.ReaderProgress.{over-now, too-long, finished, ended-turn, memory-first}
use Rattle.zre_console.proofs.reader.putting.ChatPipes.read_lines.Goals as goal

pub returns-in_default-clause-read : goal.returns-in_default-clause-read
returns-in_default-clause-read g c = memory-first c.args.pass _ _ c.args.limit (Rose (g.I.Source.faults c.args.input.now) (g.I.Source.faults c.args.input.now))

pub returns-then-load-clause-read : goal.returns-then-load-clause-read
returns-then-load-clause-read g c = over-now _ _ _ _ _ _ _ _ c.loop-taken.invariant.reached c.args.limit (Rose (g.I.Source.faults c.args.input.now) (g.I.Source.faults c.loop-taken.input)) c.loop-taken-test.true

pub returns-in-Finish-clause-read : goal.returns-in-Finish-clause-read
returns-in-Finish-clause-read g c =
    let reached = c.loop-taken.invariant.reached in
    let turn = c.take_turn-read in
    let o = reached.octets in
    let t = rw c.in-Finish.is at (turn.ensures.turned o reached.known reached.going) in
    finished _ _ _ _ _ _ _ _ reached c.args.limit _ _ (take turn.result.read turn.new.buf) turn.ensures.moved c.finish.result.0 _ c.finish.result.1 t.1 t.2 c.loop-taken-test.true
    (subst (λ p. Finishes c.finish.result.1 o p c.finish.result.0) t.3 (c.finish.ensures.finishes o t.0 reached.going))

pub returns-in-End-clause-read : goal.returns-in-End-clause-read
returns-in-End-clause-read g c =
    let reached = c.loop-taken.invariant.reached in
    let turn = c.take_turn-read in
    let t = rw c.in-End.is at (turn.ensures.turned reached.octets reached.known reached.going) in
    let within : c.loop-taken.taken + turn.result.read ≤ c.args.limit =
    omega (arith, turn.ensures.bound, turn.auto.buf, c.room_for-room.ensures.within, length-take c.room_for-room.result c.deref_mut.result.now, c.loop-taken-test.true) in
    ended-turn _ _ _ _ _ _ _ _ reached c.args.limit _ _ (take turn.result.read turn.new.buf) turn.ensures.moved turn.result.pass _ c.in-End.end _ _ turn.result.read
    (rose_since _ _ _ c.loop-taken.invariant.later) (length-take-le turn.result.read turn.new.buf turn.ensures.bound) within c.loop-taken-test.true t

pub returns-clause-read : goal.returns-clause-read
returns-clause-read g c =
    let all : c.loop-taken.taken ≡ c.args.limit = omega (arith, c.loop-taken.invariant.within, c.loop-taken-test.false) in
    too-long _ _ _ _ _ _ _ _ c.loop-taken.invariant.reached c.args.limit (Rose (g.I.Source.faults c.args.input.now) (g.I.Source.faults c.loop-taken.input)) all

-- ---- the reads that were refused

pub returns-in-Finish-clause-refused : goal.returns-in-Finish-clause-refused
returns-in-Finish-clause-refused g c =
    let none = rw c.in-Finish.is at c.take_turn-read.ensures.refused in
    c.finish.ensures.unrefused _ _ (none_then _ _ _ c.loop-taken.invariant.refused none)

pub returns-in-End-clause-refused : goal.returns-in-End-clause-refused
returns-in-End-clause-refused g c =
    let ends = rw c.in-End.is at c.take_turn-read.ensures.refused in
    ends_then c.in-End.end _ _ _ c.loop-taken.invariant.refused ends

use Rattle.std.proofs.Common.{◌∙◌, [], sym, ap, refl, subst, arith, append-nil}
use Rattle.std.proofs.KnownBytes.{Appends-nil}
use Rattle.std.proofs.Common.{⊎_elim}
use Rattle.zre_actor.specs.Passes.{taken_by, last_of}
use Rattle.zre_outside.proofs.CountsThatRose.{rose_since, rose_still}
use Rattle.zre_console.specs.printer.Printing.{IsLast}
use Rattle.zre_console.proofs.printer.PageCalls.{none_before}
use Rattle.zre_console.proofs.printer.PrintedLines.{has_printed}
use Rattle.zre_console.proofs.printer.printing.print_all.Goals as goal

pub loop-init : goal.loop-init
loop-init g c = let o = g.O.Sink in record {
  taker = c.requires.pipes.0;
  caller = c.requires.pipes.1;
  open_ = c.requires.open;
  prints = record {
    events = [];
    taken = sym (append-nil (taken_by c.args.taker));
    shows = record { done = []; rest = []; are_lines = refl; is_written = Appends-nil (o.written c.args.out.now); waits = λ none. sym (ap (λ p. p.text) c.new-page.ensures) };
    asked = λ pass h. h;
    calm = λ none is. is;
  };
  later = omega arith;
  counts = λ none. refl;
  failed = λ is. absurd (let x = sym (ap (λ p. p.fault) c.new-page.ensures) ∙ is in cc);
}

pub loop-preserved : goal.loop-preserved
loop-preserved g c = let o = g.O.Sink in let h = c.loop.invariant in let n = c.print_next-pass in record {
  taker = n.ensures.pipes.0;
  caller = n.ensures.pipes.1;
  open_ = subst (λ b. IsLast b (last_of n.result.0)) c.if-is_last.false n.ensures.last;
  prints = n.ensures.prints c.args.asker c.args.taker (o.written c.args.out.now) h.prints;
  later = omega (arith, h.later, n.ensures.tries.later);
  counts = λ none. n.ensures.tries.counts none ∙ h.counts (none_before _ _ _ _ _ _ n.ensures.tries none);
  failed = λ is. ⊎_elim (λ was. rose_still (o.faults c.args.out.now) (o.faults c.loop.out) (o.faults n.new.out) n.ensures.tries.later (h.failed was)) (λ rose. rose_since (o.faults c.args.out.now) (o.faults c.loop.out) (o.faults n.new.out) h.later rose) (n.ensures.tries.failed is);
}

pub returns-then-is_last-clause-printed : goal.returns-then-is_last-clause-printed
returns-then-is_last-clause-printed g c = let o = g.O.Sink in let h = c.loop.invariant in let n = c.print_next-pass in
    has_printed c.args.asker c.args.taker (o.written c.args.out.now) n.result.1 n.result.0 n.new.self (o.written n.new.out)
    (n.ensures.prints c.args.asker c.args.taker (o.written c.args.out.now) h.prints) (n.ensures.written c.if-is_last.true)

pub returns-then-is_last-clause-failed : goal.returns-then-is_last-clause-failed
returns-then-is_last-clause-failed g c = let o = g.O.Sink in let h = c.loop.invariant in let n = c.print_next-pass in
    λ is. ⊎_elim (λ was. rose_still (o.faults c.args.out.now) (o.faults c.loop.out) (o.faults n.new.out) n.ensures.tries.later (h.failed was)) (λ rose. rose_since (o.faults c.args.out.now) (o.faults c.loop.out) (o.faults n.new.out) h.later rose) (n.ensures.tries.failed is)

pub returns-then-is_last-clause-counts : goal.returns-then-is_last-clause-counts
returns-then-is_last-clause-counts g c = let h = c.loop.invariant in let n = c.print_next-pass in
    λ none. n.ensures.tries.counts none ∙ h.counts (none_before _ _ _ _ _ _ n.ensures.tries none)

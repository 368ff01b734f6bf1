use Rattle.std.proofs.Common.{◌≡◌, ◌≤◌, None, Some}
use Rattle.zre_outside.specs.Causes.{Rose}
use Rattle.zre_outside.specs.declared.sink.NextFault.TheVariants.{Failed}
use Rattle.zre_actor.specs.Passes.{IsTakerOf, IsCallerOf, last_of}
use Rattle.zre_console.specs.printer.Printing.{Prints}
use Rattle.zre_console.proofs.printer.printing.print_all.Given as goal

abbrev pub invariant-loop : goal.invariant-loop
invariant-loop g l = record {
  taker : IsTakerOf l.pipes l.taker;
  caller : IsCallerOf l.pipes l.asker.pass;
  open_ : last_of l.taker ≡ None;
  prints : Prints l.fn.asker l.fn.taker (g.O.Sink.written l.fn.out) l.asker l.taker l.page (g.O.Sink.written l.out);
  later : g.O.Sink.faults l.fn.out ≤ g.O.Sink.faults l.out;
  counts : l.page.fault ≡ None → g.O.Sink.refused l.out ≡ g.O.Sink.refused l.fn.out;
  failed : l.page.fault ≡ Some Failed → Rose (g.O.Sink.faults l.fn.out) (g.O.Sink.faults l.out);
}

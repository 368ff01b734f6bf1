use Rattle.std.proofs.Common.{◌≡◌, ◌++◌, false}
use Rattle.std.specs.List.{list_any}
use Rattle.std.specs.Vec.Iter.{into_iter_items}
use Rattle.zre_actor.specs.Passes.{IsCallerOf}
use Rattle.zre_console.specs.lines.Orders.{is_quit}
use Rattle.zre_console.specs.reader.Putting.{Puts}
use Rattle.zre_console.proofs.reader.putting.ChatPipes.put_all.Given as goal

abbrev pub invariant-loop-command : goal.invariant-loop-command
invariant-loop-command g l = record {
  pipes : IsCallerOf l.self.pipes.now l.pass;
  rest : l.fn.commands.items ≡ l.yielded ++ into_iter_items l.command-iterator;
  puts : Puts l.fn.pass l.pass l.yielded;
  none : list_any is_quit l.yielded ≡ false;
}

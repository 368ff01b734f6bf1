use Rattle.std.proofs.Common.{◌≡◌, []}
use Rattle.zre_actor.specs.Passes.{IsCallerOf}
use Rattle.zre_console.specs.reader.Putting.{Puts}
use Rattle.zre_console.proofs.reader.putting.ChatPipes.put_command.Given as goal

abbrev pub invariant-loop : goal.invariant-loop
invariant-loop g l = record {
  pipes : IsCallerOf l.self.pipes.now l.pass;
  puts : Puts l.fn.pass l.pass [];
  same : l.command ≡ l.fn.command;
}

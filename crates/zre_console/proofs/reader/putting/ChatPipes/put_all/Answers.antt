use Rattle.std.proofs.Common.{◌++◌, ap, ◌∙◌}
use Rattle.std.specs.Vec.Iter.{into_iter_items}
use Rattle.zre_console.proofs.reader.PutCommands.{put-quit}
use Rattle.zre_console.proofs.reader.putting.ChatPipes.put_all.Goals as goal

pub returns-in-Quit-clause-sent : goal.returns-in-Quit-clause-sent
returns-in-Quit-clause-sent g c = let l = c.loop-command in let sent = rw c.in-Quit.is at c.put_one-back.ensures.sent in
    put-quit c.args.pass l.pass c.put_one-back.result.0 c.args.commands.items l.yielded (into_iter_items c.next.new.self) c.in-Some.command (l.invariant.rest ∙ ap (λ cs. l.yielded ++ cs) c.in-Some.ensures.steps.0) l.invariant.none l.invariant.puts sent.0 sent.1

use Rattle.zre_commands.proofs.show.lines.push_line.Goals as goal

pub returns-in-Ready : goal.returns-in-Ready
returns-in-Ready c = rw c.in-Ready.is c.push_command.ensures

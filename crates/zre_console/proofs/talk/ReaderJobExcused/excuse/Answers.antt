use Rattle.std.proofs.Common.{[], refl, arith}
use mathlib.Core.Logic.{inl}
use Rattle.std.proofs.KnownBytes.{Appends-nil, Consumes-nil}
use Rattle.zre_console.proofs.reader.PutCommands.{puts-none}
use Rattle.zre_console.proofs.EndBeforeStart.{nothing_begins}
use Rattle.zre_console.proofs.talk.ReaderJobExcused.excuse.Goals as goal

pub returns : goal.returns
returns g c = let i = g.I.Source in let job = c.args.self in
    rw (c.leave.ensures) (
      job.of_pipes,
      omega arith,
      record {
        octets = [];
        moved = record { consumed = Consumes-nil (i.left job.input); recorded = Appends-nil (i.taken job.input) };
        within = omega arith;
        commands = [];
        puts = puts-none job.pass;
        outcome = (nothing_begins [], inl refl, inl ([], refl));
      },
      refl,
    )

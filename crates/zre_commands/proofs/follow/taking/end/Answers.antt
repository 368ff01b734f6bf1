use Rattle.std.proofs.Common.{◌≡◌, ◌≢◌, ◌++◌, subst}
use Rattle.zre_peer.specs.Lines.{line}
use Rattle.zre_peer.specs.Standing.{id_of, view_in}
use Rattle.zre_peer.specs.declared.peer_run.Run.{Run}
use Rattle.zre_peer.specs.declared.peer_run.RunFault.TheVariants.{OutOfMemory}
use Rattle.zre_commands.specs.follow.Runs.{end_of}
use Rattle.zre_commands.proofs.follow.MessageSteps.{ends_so}
use Rattle.zre_commands.proofs.follow.taking.end.Goals as goal

pub returns-in_ok-push_end-in_default : goal.returns-in_ok-push_end-in_default
returns-in_ok-push_end-in_default c = λ was m before h.
    ends_so was c.args.run.now m c.args.fault before c.args.out.now c.push_end.new.out c.in_default.not-OutOfMemory h
    (subst (λ (r : Run). c.push_end.new.out ≡ c.args.out.now ++ line (end_of (id_of r) (view_in r) c.args.fault)) c.run.ensures c.in_ok-push_end-in_default.ensures)

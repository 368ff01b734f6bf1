use Rattle.std.specs.Arc.{arc_value}
use Rattle.std.proofs.Math.Logic.{∥∥₁_map}
use Rattle.zre_gate.specs.Clients.{seen_client}
use Rattle.zre_gate.proofs.ClientAnswers.{left_alone}
use Rattle.zre_gate.proofs.client.leave_client.Goals as goal

pub invariant_of-answer : goal.invariant_of-answer
invariant_of-answer g c =
    let s = g.C.Source in let job = c.args.job in let x = job.reading in
    rw (c.leave-done.ensures) (record { known = ∥∥₁_map job.known (left_alone g.B.GateName.client_list (arc_value x.pipes) x.limit job.place x.pass (seen_client s.left s.taken s.faults s.refused x.input)) })

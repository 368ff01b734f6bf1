use Rattle.std.specs.Arc.{arc_value}
use Rattle.std.proofs.Math.Logic.{∥∥₁_map}
use Rattle.zre_gate.specs.Clients.{seen_client}
use Rattle.zre_gate.proofs.ClientAnswers.{answered}
use Rattle.zre_gate.proofs.client.read_client.Goals as goal

pub invariant_of-answer : goal.invariant_of-answer
invariant_of-answer g c =
    let s = g.C.Source in let job = c.args.job in let x = job.reading in let read = c.read-done in let done = read.result.0 in
    record {
      known = ∥∥₁_map job.known (λ k. answered g.B.GateName.client_list (arc_value x.pipes) x.limit job.place x.pass done.pass (seen_client s.left s.taken s.faults s.refused x.input) (seen_client s.left s.taken s.faults s.refused done.input) done.end
          k read.ensures.pipes.1 read.ensures.read read.ensures.later read.ensures.refused);
    }

use Rattle.std.proofs.Common.{arith}
use Rattle.zre_msg.specs.Further.{frames_of}
use Rattle.zre_msg.proofs.ReadClauses.{Answers-found, Answers-only}
use Rattle.zre_msg.proofs.reading.read_from.Goals as goal

pub returns-clause-found : goal.returns-clause-found
returns-clause-found c =
    Answers-found c.args.first.now (frames_of c.args.further) c.read_parts.result (λ i. omega (arith, c.type_inv.first i)) c.read_parts.ensures

pub returns-clause-only : goal.returns-clause-only
returns-clause-only c = λ m means. Answers-only c.args.first.now (frames_of c.args.further) c.read_parts.result m means c.read_parts.ensures

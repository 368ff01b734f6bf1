use Rattle.std.proofs.Common.{subst}
use Rattle.zre_shared.specs.Replicas.{HeldWrites}
use Rattle.zre_shared.proofs.MapKeepsTable.{rising}
use Rattle.zre_shared.proofs.RisingKeys.{Rising}
use Rattle.zre_shared.proofs.replica.Replica.len.Goals as goal

pub returns-clause-rising : goal.returns-clause-rising
returns-clause-rising c =
    subst (λ (h : HeldWrites). Rising h.writes) c.self.view_is (rising c.self.inside.writes c.self.inside.greatest c.self.inside.id c.self.invariant)

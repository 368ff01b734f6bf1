use Rattle.std.proofs.Common.{ℕ, ◌∷◌, max, ap, sym, ◌∙◌, subst}
use Rattle.zre_journal.specs.Chronicle.{Comes}
use Rattle.zre_node.specs.Stands.{Holds}
use Rattle.zre_node.proofs.EntriesThatCome.{quietly}
use Rattle.zre_node.proofs.tables.Tables.come.Goals as goal

pub returns : goal.returns
returns c = λ g H e at_is q h.
    let t = c.args.self.now in
    subst (λ (n : ℕ). Holds g (Comes e ∷ H) (record t { clock = n })) (ap (λ (m : ℕ). max m t.clock) at_is ∙ sym c.max-self.ensures) (quietly g H t h e q)

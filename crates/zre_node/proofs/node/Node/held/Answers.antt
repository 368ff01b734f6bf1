use Rattle.std.proofs.Common.{◌≤◌, length, sym, ap, ◌∙◌, subst}
use Rattle.zre_journal.specs.Asked.{held_after, bound_after}
use Rattle.zre_journal.specs.Connections.{open_ones}
use Rattle.zre_journal.specs.Events.{chronicle}
use Rattle.zre_journal.specs.Peers.{lives}
use Rattle.zre_journal.proofs.HeldIsBounded.{talks-faultless, answers-faultless, within, held-most}
use Rattle.zre_tables.specs.Holding.{capped}
use Rattle.zre_node.proofs.HeldAmounts.{can_be, all_read, all_send, all_held, told_whole}
use Rattle.zre_node.proofs.node.Node.held.Goals as goal

pub returns-clause-exact : goal.returns-clause-exact
returns-clause-exact c = λ g J s.
    let H = chronicle g J in
    let t = c.args.self.now.tables in
    let can = can_be g H t s.stands in
    let most = within g can J in
    c.octets.ensures (all_read g H t s.stands) (all_send g H t s.stands)
    ∙ ap capped (all_held g H t s.stands (talks-faultless g can J) (answers-faultless g can J))
    ∙ told_whole (held_after g J) (length (lives H)) (length (open_ones H)) (held-most g H most) most.few_peers most.few_connections

pub returns-clause-within : goal.returns-clause-within
returns-clause-within c = λ g J s.
    let H = chronicle g J in
    let can = can_be g H c.args.self.now.tables s.stands in
    subst (λ n. n ≤ bound_after g J) (sym (returns-clause-exact c g J s)) (held-most g H (within g can J))

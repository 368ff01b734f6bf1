use Rattle.std.proofs.Common.{◌≡◌, ◌≢◌, sym, ◌∙◌}
use Rattle.zre_peer.specs.declared.peer_run.RunFault.TheVariants as fault
use Rattle.zre_node.proofs.FirstMessages.{first_refused, on_did_as}
use Rattle.zre_node.proofs.tables.Tables.refuse_by.Goals as goal

pub returns-in-NotHello-clause-did : goal.returns-in-NotHello-clause-did
returns-in-NotHello-clause-did c = λ g H p m h live idle why.
    let other : c.args.fault ≢ fault.OutOfMemory = λ e. let z : fault.NotHello ≡ fault.OutOfMemory = sym c.in-NotHello.is ∙ e in absurd cc in
    on_did_as g _ _ H _ _ _ c.refuse.result ((first_refused g c.args.conn p m H c.args.fault (why other)).0 c.in-NotHello.is) (c.refuse.ensures g H h live idle)

pub returns-in-Limit-clause-did : goal.returns-in-Limit-clause-did
returns-in-Limit-clause-did c = λ g H p m h live idle why.
    let other : c.args.fault ≢ fault.OutOfMemory = λ e. let z : fault.Limit ≡ fault.OutOfMemory = sym c.in-Limit.is ∙ e in absurd cc in
    on_did_as g _ _ H _ _ _ c.refuse-in-Limit.result ((first_refused g c.args.conn p m H c.args.fault (why other)).1 c.in-Limit.is) (c.refuse-in-Limit.ensures g H h live idle)

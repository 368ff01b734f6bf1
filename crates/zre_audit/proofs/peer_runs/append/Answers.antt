use Rattle.std.proofs.Common.{ap, sym, ◌∙◌, is_some}
use Rattle.zre_audit.specs.Told.{at_last}
use Rattle.zre_audit.proofs.RunsOfOnePeer.{changed, found}
use Rattle.zre_audit.proofs.peer_runs.append.Goals as goal

pub returns-in_ok-append_last : goal.returns-in_ok-append_last
returns-in_ok-append_last c =
    let some = sym c.in-Some.ensures.value in
    let x = c.append_last.new.lists in
    let n = c.get_mut.follows.lender x in
    changed c.args.runs.now n c.args.id.0 x (at_last c.args.octets.now) ((c.get_mut.follows.holds x).3 (ap is_some some)).0
    (c.in_ok-append_last.ensures ∙ ap (at_last c.args.octets.now) (sym (found c.args.runs.now c.args.id.0 _ c.in-Some.ensures.value)))

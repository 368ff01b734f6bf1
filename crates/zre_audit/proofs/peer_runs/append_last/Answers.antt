use Rattle.std.proofs.Common.{◌∙◌, arith}
use Rattle.zre_audit.proofs.RunsOfOnePeer.{last_set}
use Rattle.zre_audit.proofs.peer_runs.append_last.Goals as goal

pub returns-in_ok-append_at : goal.returns-in_ok-append_at
returns-in_ok-append_at c =
    let p = c.in-Some.ensures in
    let a = p.0 in
    let b = p.1 in
    let n = c.len.ensures in
    c.in_ok-append_at.ensures ∙ last_set c.args.octets.now c.args.lists.now c.in-Some.last (omega (arith, a, b, n))

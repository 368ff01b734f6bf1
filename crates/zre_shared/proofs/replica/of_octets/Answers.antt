use Rattle.std.proofs.Common.{rules, ℕ, ◌<◌, List, get_or, subst}
use Rattle.zre_shared.proofs.MapKeepsTable.{octets-all}
use Rattle.zre_shared.proofs.replica.of_octets.Goals as goal

pub returns-clause-fits : goal.returns-clause-fits
returns-clause-fits c =
    let small : (i : ℕ) → get_or c.as_slice-slice.result.now i 0 < 256 = search rules in
    record {
      sixteen = search rules;
      octets = octets-all c.args.octets (subst (λ (xs : List ℕ). (i : ℕ) → get_or xs i 0 < 256) c.as_slice-slice.ensures small);
    }

use Rattle.std.proofs.Common.{◌≡◌, List, [], sym, ap}
use Rattle.std.proofs.lemmas.List.Elements.{All-nil, All-same}
use Rattle.std.specs.Map.{values_of}
use Rattle.zre_shared.specs.declared.write.Write.{Write}
use Rattle.zre_shared.specs.Kept.{Name, IsAtKey}
use Rattle.zre_shared.specs.Replicas.{greatest_count}
use Rattle.zre_shared.proofs.replica.Replica.new.Goals as goal

pub invariant_of-result : goal.invariant_of-result
invariant_of-result c =
    let none : c.new.result.entries ≡ [] = c.new.ensures.empty in
    record {
      ordered = c.new.ensures.ordered;
      entries = All-same IsAtKey c.new.result.entries [] none (All-nil IsAtKey);
      greatest_is = ap (λ (es : List (Name × Write)). greatest_count (values_of es)) (sym none);
      id_fits = c.of_octets.ensures.fits;
    }

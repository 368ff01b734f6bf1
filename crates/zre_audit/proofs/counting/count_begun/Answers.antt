use Rattle.std.proofs.Common.{ℕ, List, map, Bor, rules, ◌∙◌}
use Rattle.std.proofs.lemmas.List.Sorted.{IsPartitionPoint-from_clause}
use Rattle.zre_audit.proofs.OrderedPrefixes.{counted-map, parts-map, below_parts, up_to_parts, below, up_to}
use Rattle.zre_audit.proofs.counting.count_begun.Goals as goal

pub returns : goal.returns
returns c =
    let h = c.args.octets.now in
    let xs = c.args.rising.now in
    let lists = map (λ (r : Bor (List ℕ)). r.now) xs in
    let p = IsPartitionPoint-from_clause (λ (r : Bor (List ℕ)). below h r.now) xs c.partition_point-below.result c.partition_point-below.ensures.partitioned (parts-map (λ (r : Bor (List ℕ)). r.now) (below h) xs (below_parts lists c.requires h)) (λ a r f k. search rules) in
    let q = IsPartitionPoint-from_clause (λ (r : Bor (List ℕ)). up_to h r.now) xs c.partition_point-up_to.result c.partition_point-up_to.ensures.partitioned (parts-map (λ (r : Bor (List ℕ)). r.now) (up_to h) xs (up_to_parts lists c.requires h)) (λ a r f k. search rules) in
    c.saturating_sub.ensures ∙ counted-map (λ (r : Bor (List ℕ)). r.now) h xs c.partition_point-below.result c.partition_point-up_to.result c.partition_point-below.ensures.bound c.partition_point-up_to.ensures.bound p q

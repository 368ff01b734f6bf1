use Rattle.std.proofs.Common.{◌≡◌, ◌∙◌, ◌&&◌, nat_le, ap, sym, subst, map, rules, List, ℕ}
use Rattle.std.specs.List.{filter}
use Rattle.std.specs.List.Sorted.{IsPermutation}
use Rattle.std.specs.BTreeMap.Range.{range_contains}
use Rattle.std.specs.declared.ops.Bound.TheVariants.{Included}
use Rattle.zre_timers.specs.Agreement.{by_moment}
use Rattle.zre_timers.specs.Moments.{has_moment_between}
use Rattle.zre_values.specs.Keys.{IsRisingListOf}
use Rattle.zre_timers.proofs.EntriesAsMap.{rising_by_view}
use Rattle.zre_timers.proofs.RisingPairs.{between, rising_keys}
use Rattle.zre_timers.proofs.timers.Timers.keys_between.Goals as goal

pub returns : goal.returns
returns c =
    let part : c.range-pairs.result ≡ filter (between c.args.first c.args.last) c.self.inside.queue.keys =
    c.range-pairs.ensures.between c.new.ensures.exhausted
    ∙ (λ i. filter (range_contains by_moment (Included (c.new.ensures.start i)) (Included (c.new.ensures.end i))) c.self.inside.queue.keys) in
    let keys : c.in_ok-keys.keys.items ≡ map (λ p. p.1) c.range-pairs.result = search rules in
    let moved : IsPermutation (map (λ p. p.1) (filter (between c.args.first c.args.last) c.self.inside.queue.keys)) c.sort_unstable.new.self.items =
    subst (λ (xs : List ℕ). IsPermutation xs c.sort_unstable.new.self.items) (keys ∙ ap (map (λ p. p.1)) part) c.sort_unstable.ensures.permutation in
    let rising = rising_keys c.self.inside.moments c.self.inside.queue c.args.first c.args.last c.sort_unstable.new.self.items c.self.invariant c.range-pairs.ensures.ordered moved c.sort_unstable.ensures.sorted in
    subst (λ (xs : List ℕ). IsRisingListOf (has_moment_between c.args.self.now c.args.first c.args.last) xs) (sym c.from_vec.ensures)
    (rising_by_view c.self.inside.moments c.args.self.now (λ at. nat_le c.args.first at && nat_le at c.args.last) c.sort_unstable.new.self.items c.self.view_is rising)

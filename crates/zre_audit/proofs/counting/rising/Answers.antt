use Rattle.std.proofs.Common.{◌≡◌, ℕ, List, Bor, map, ◌∙◌, take_all, subst, IsPermutation}
use Rattle.std.proofs.lemmas.List.Sorted.{IsPermutation-map}
use Rattle.zre_audit.proofs.OrderedPrefixes.{rises-map}
use Rattle.zre_audit.proofs.counting.rising.Goals as goal

pub returns : goal.returns
returns c =
    let now : Bor (List ℕ) → List ℕ = λ r. r.now in
    let all : map now c.loop-list.rising.items ≡ c.args.lists.now = c.loop-list.invariant ∙ take_all c.loop-list.list-index c.args.lists.now c.loop-list-test.false in
    record {
      same = subst (λ ls. IsPermutation ls (map now c.sort_unstable.new.self.items)) all (IsPermutation-map now c.loop-list.rising.items c.sort_unstable.new.self.items c.sort_unstable.ensures.permutation);
      are_rising = rises-map now c.sort_unstable.new.self.items c.sort_unstable.ensures.sorted;
    }

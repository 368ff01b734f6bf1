use Rattle.std.proofs.Common.{◌≡◌, ℕ, List, eqb, ◌∙◌, subst, sym, rules}
use Rattle.std.proofs.lemmas.List.Filters.{dedup_is}
use Rattle.std.specs.List.{list_any}
use Rattle.std.specs.List.Sorted.{IsPermutation}
use Rattle.zre_values.specs.Keys.{IsRisingListOf}
use Rattle.zre_tables.proofs.OffersByLinks.{rising_from}
use Rattle.zre_tables.proofs.offers.rising_of.Goals as goal

pub returns : goal.returns
returns c =
    let links = c.args.links.now in
    let same : c.in_ok-rising.rising.items ≡ links = search rules in
    let moved = subst (λ (xs : List ℕ). IsPermutation xs c.sort_unstable.new.self.items) same c.sort_unstable.ensures.permutation in
    subst (λ (xs : List ℕ). IsRisingListOf (λ n. list_any (eqb n) links) xs) (sym (c.from_vec.ensures ∙ dedup_is _ _ _ c.dedup.ensures.filtered))
    (rising_from links c.sort_unstable.new.self.items moved c.sort_unstable.ensures.sorted)

use Rattle.std.proofs.Common.{◌≡◌, ◌++◌, nat_cmp, drop}
use Rattle.std.specs.List.Sorted.{IsStrictlySortedBy}
use Rattle.std.specs.Map.{keys_of}
use Rattle.zre_tables.specs.Searches.{offered_among}
use Rattle.zre_tables.proofs.offers.offer_rows.Given as goal

-- what was offered, with what is offered of the rest
abbrev pub invariant-loop-link : goal.invariant-loop-link
invariant-loop-link l =
    (l.acts ++ offered_among l.rest (drop l.link-index l.rows.all.items) ≡ l.fn.acts ++ offered_among l.links l.rows.all.items)
    × IsStrictlySortedBy nat_cmp l.rest × IsStrictlySortedBy nat_cmp (keys_of (drop l.link-index l.rows.all.items))

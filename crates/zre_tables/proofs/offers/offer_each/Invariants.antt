use Rattle.std.proofs.Common.{◌≡◌, ◌++◌, map, filter, take}
use Rattle.zre_outside.specs.declared.act.Act.TheVariants as act
use Rattle.zre_tables.specs.Rows.{passes_at}
use Rattle.zre_tables.specs.Searches.{row_offered}
use Rattle.zre_tables.proofs.offers.offer_each.Given as goal

-- those of the links so far are offered
abbrev pub invariant-loop-link : goal.invariant-loop-link
invariant-loop-link l = l.acts ≡ l.fn.acts ++ map (λ link. act.Offer link) (filter (passes_at row_offered l.rows.all.items) (take l.link-index l.links))

use Rattle.std.proofs.Common.{Bool, drop}
use Rattle.zre_tables.specs.Agreement.{AreHeard}
use Rattle.zre_tables.proofs.OffersByWalk.{Left}
use Rattle.zre_tables.proofs.searches.update.Given as goal

-- the moments agree with the rows still
abbrev pub invariant-loop-due : goal.invariant-loop-due
invariant-loop-due l = (r : Bool) → AreHeard l.rows.all.items l.fn.heard r → AreHeard l.rows.all.items l.heard r

abbrev pub invariant-loop-link : goal.invariant-loop-link
invariant-loop-link l =
    ((r : Bool) → AreHeard l.rows.all.items l.fn.heard r → AreHeard l.rows.all.items l.heard r) × Left l.rows.all.items (drop l.link-index l.rows.all.items)

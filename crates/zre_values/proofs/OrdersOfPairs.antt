-- The order of pairs, by those of their parts.
use Rattle.std.proofs.Common.{◌≡◌, ◌&&◌, refl, ◌∙◌}
use Rattle.std.proofs.Math.Bool.{and_comm}
use Rattle.std.specs.declared.cmp.Ordering.{Ordering}
use Rattle.std.specs.declared.cmp.Ordering.TheVariants.{Less, Equal, Greater}
use Rattle.std.specs.Ordering.{ordering_then, is_eq}

-- two pairs are the same where both of their parts are
pub both_equal : (r s : Ordering) → is_eq (ordering_then r s) ≡ (is_eq s && is_eq r)
both_equal r s = by r ∙ and_comm (is_eq r) (is_eq s)
  where
    by : (r : Ordering) → is_eq (ordering_then r s) ≡ (is_eq r && is_eq s)
    by Less = refl
    by Equal = refl
    by Greater = refl

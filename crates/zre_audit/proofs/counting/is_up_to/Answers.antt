use Rattle.std.proofs.Common.{◌≡◌, false, ◌||◌, nat_eq, ap, sym, ◌∙◌}
use Rattle.std.specs.Ordering.{nat_cmp, is_lt}
use Rattle.std.specs.Cmp.Lexicographic.{slice_cmp}
use Rattle.zre_audit.specs.Prefixes.{begins}
use Rattle.zre_audit.proofs.OrderedPrefixes.{begins-is}
use Rattle.zre_audit.proofs.counting.is_up_to.Goals as goal

pub returns-else-is_below : goal.returns-else-is_below
returns-else-is_below c =
    let low : is_lt (slice_cmp nat_cmp c.args.x.now c.args.octets.now) ≡ false = sym c.is_below.ensures ∙ c.if-is_below.false in
    c.starts_with.ensures.value ∙ sym (begins-is c.args.octets.now c.args.x.now) ∙ ap (λ b. b || begins nat_eq c.args.octets.now c.args.x.now) (sym low)

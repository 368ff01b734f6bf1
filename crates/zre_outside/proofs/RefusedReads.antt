-- Reads that were refused, or none.
use Rattle.std.proofs.Common.{◌≡◌, ℕ, true, false, Option, None, Some, option_map, refl, sym, ap, ◌∙◌}
use Rattle.zre_outside.specs.Causes.{counted}
use Rattle.zre_outside.specs.Refusals.{Refusals, after_read, RefusesNone, RefusesLast}

-- a read was answered
pub none_read : (a b : Option Refusals) → b ≡ option_map (after_read false) a → RefusesNone a b
none_read None b is = ap (option_map (λ (r : Refusals). r.count)) is
none_read (Some r) b is = ap (option_map (λ (r : Refusals). r.count)) is

pub none_then : (a b c : Option Refusals) → RefusesNone a b → RefusesNone b c → RefusesNone a c
none_then a b c p q = q ∙ p

-- what a refusal makes of the reads refused depends on their count alone
abbrev once_more : ℕ → Refusals
once_more n = record { count = counted true n; is_last = true }

by_count : (x : Option Refusals) → option_map (after_read true) x ≡ option_map once_more (option_map (λ (r : Refusals). r.count) x)
by_count None = refl
by_count (Some r) = refl

pub last_then : (a b c : Option Refusals) → RefusesNone a b → RefusesLast b c → RefusesLast a c
last_then a b c p q = q ∙ by_count b ∙ ap (option_map once_more) p ∙ sym (by_count a)

-- Timers as a map from keys to moments.
use Rattle.std.specs.Prelude.{◌≡◌, ℕ, ◌-◌, ◌≤◌, ◌==◌, nat_le, ◌&&◌, Bool, true, false, cond, Option, Some, None, IfSome}
use Rattle.std.specs.Cmp.{nat_cmp_total, unsigned_tied}
use Rattle.std.specs.FinMap as map
use Rattle.std.specs.Option.{option_map_or}
use Rattle.std.specs.Ordering.{nat_cmp}
use Rattle.std.proofs.Common.{sym, ap, ◌∙◌, subst}

abbrev pub Moments : Type 0
Moments = map.FinMap nat_cmp ℕ

-- the moment of a key, where it has one
abbrev pub moment_of : Moments → ℕ → Option ℕ
moment_of moments key = map.get moments key

-- no key's moment is after this one
abbrev pub NoneAfter : ℕ → Moments → Type 0
NoneAfter now moments = (key : ℕ) → IfSome (moment_of moments key) (λ at. at ≤ now)

-- the key has a moment, and by now it lies at least so long back
abbrev pub is_silent_for : Moments → ℕ → ℕ → ℕ → Bool
is_silent_for moments now span key = option_map_or (λ at. nat_le span (now - at)) (moment_of moments key) false

-- the key has a moment, and it is in this range
abbrev pub has_moment_between : Moments → ℕ → ℕ → ℕ → Bool
has_moment_between moments first last key =
    option_map_or (λ at. nat_le first at && nat_le at last) (moment_of moments key) false

-- ---- laws

pub moment_of-empty : (key : ℕ) → moment_of map.empty key ≡ None
moment_of-empty key = map.get-empty nat_cmp key

pub moment_of-insert : (moments : Moments) (at_key at key : ℕ)
    → moment_of (map.insert moments at_key at) key ≡ cond (key == at_key) (Some at) (moment_of moments key)
moment_of-insert moments at_key at key =
    map.get-insert nat_cmp_total moments at_key at key ∙ ap (λ b. cond b (Some at) (moment_of moments key))
    (unsigned_tied key at_key)

pub moment_of-remove : (moments : Moments) (at_key key : ℕ)
    → moment_of (map.remove moments at_key) key ≡ cond (key == at_key) None (moment_of moments key)
moment_of-remove moments at_key key =
    map.get-remove nat_cmp_total moments at_key key ∙ ap (λ b. cond b None (moment_of moments key))
    (unsigned_tied key at_key)

pub NoneAfter-empty : (now : ℕ) → NoneAfter now map.empty
NoneAfter-empty now key = subst (λ o. IfSome o (λ at. at ≤ now)) (sym (moment_of-empty key)) tt

pub NoneAfter-insert : (moments : Moments) (key at now : ℕ) → NoneAfter now moments → at ≤ now
    → NoneAfter now (map.insert moments key at)
NoneAfter-insert moments key at now before fits k =
    subst (λ o. IfSome o (λ m. m ≤ now)) (sym (moment_of-insert moments key at k))
    (elim (k == key) as (λ b. IfSome (cond b (Some at) (moment_of moments k))
    (λ m. m ≤ now)) [ true ↦ fits | false ↦ before k ])

pub NoneAfter-remove : (moments : Moments) (key now : ℕ) → NoneAfter now moments
    → NoneAfter now (map.remove moments key)
NoneAfter-remove moments key now before k =
    subst (λ o. IfSome o (λ m. m ≤ now)) (sym (moment_of-remove moments key k))
    (elim (k == key) as (λ b. IfSome (cond b None (moment_of moments k))
    (λ m. m ≤ now)) [ true ↦ tt | false ↦ before k ])

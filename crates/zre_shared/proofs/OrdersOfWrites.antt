-- The orders of writes.
use Rattle.std.proofs.Common.{◌≡◌, ◌<◌, ◌≤◌, true, false, refl, sym, ap, ◌∙◌, arith}
use Rattle.std.specs.Cmp.{IsTotalOrder, on_total, then_total, nat_cmp_total, tied_itself, upto}
use Rattle.std.specs.Cmp.Lexicographic.{slice_cmp, nat_list_cmp_total}
use Rattle.std.specs.Ordering.{nat_cmp, ordering_then, ordering_reverse, is_lt, is_gt}
use Rattle.std.specs.declared.cmp.Ordering.{Ordering}
use Rattle.std.specs.declared.cmp.Ordering.TheVariants.{Less, Equal, Greater}
use Rattle.std.proofs.lemmas.Cmp.{ranked, by_ranked}
use Rattle.std.proofs.lemmas.Map.Lookups.{exact_bytes, exact_unsigned}
use Rattle.zre_shared.specs.declared.write.Write.{Write}
use Rattle.zre_shared.specs.Tables.{by_key, by_octets, by_age}

pub key_total : IsTotalOrder by_key
key_total = on_total (λ (w : Write). w.key) nat_list_cmp_total

octets_total : IsTotalOrder by_octets
octets_total = then_total (on_total (λ (w : Write). w.id.0) nat_list_cmp_total) (on_total (λ (w : Write). w.value) nat_list_cmp_total)

pub age_total : IsTotalOrder by_age
age_total = then_total (on_total (λ (w : Write). w.count) nat_cmp_total) octets_total

pub same_key : (v w : Write) → by_key v w ≡ Equal → v.key ≡ w.key
same_key v w e = exact_bytes v.key w.key e

both_equal : (r s : Ordering) → ordering_then r s ≡ Equal → (r ≡ Equal) × (s ≡ Equal)
both_equal Less s e = absurd cc
both_equal Equal s e = (refl, e)
both_equal Greater s e = absurd cc

-- writes that are equal in all are the same
pub same_write : (v w : Write) → by_key v w ≡ Equal → by_age v w ≡ Equal → v ≡ w
same_write v w key age =
    let p = both_equal (nat_cmp v.count w.count) (by_octets v w) age in
    let q = both_equal (slice_cmp nat_cmp v.id.0 w.id.0) (slice_cmp nat_cmp v.value w.value) p.1 in
    let keys : v.key ≡ w.key = exact_bytes v.key w.key key in
    let counts : v.count ≡ w.count = exact_unsigned v.count w.count p.0 in
    let ids : v.id.0 ≡ w.id.0 = exact_bytes v.id.0 w.id.0 q.0 in
    let values : v.value ≡ w.value = exact_bytes v.value w.value q.1 in
    λ i. record { key = keys i; count = counts i; id = record { 0 = ids i }; value = values i }

reverse_not_lt : (r : Ordering) → is_lt r ≡ false → is_gt (ordering_reverse r) ≡ false
reverse_not_lt Less e = absurd cc
reverse_not_lt Equal e = refl
reverse_not_lt Greater e = refl

-- what isn't less on one side isn't greater on the other
pub not_above : (v w : Write) → is_lt (by_age v w) ≡ false → is_gt (by_age w v) ≡ false
not_above v w e = ap is_gt (age_total.antisymm w v) ∙ reverse_not_lt (by_age v w) e

lt_not_gt : (r : Ordering) → is_lt r ≡ true → is_gt r ≡ false
lt_not_gt Less e = refl
lt_not_gt Equal e = absurd cc
lt_not_gt Greater e = absurd cc

pub below : (v w : Write) → is_lt (by_age v w) ≡ true → is_gt (by_age v w) ≡ false
below v w e = lt_not_gt (by_age v w) e

pub itself : (w : Write) → is_gt (by_age w w) ≡ false
itself w = ap is_gt (tied_itself age_total w)

pub over : (u v w : Write) → is_gt (by_age u v) ≡ false → is_gt (by_age v w) ≡ false → is_gt (by_age u w) ≡ false
over u v w p q = upto age_total u v w p q

no_sides : (r s : Ordering) → r ≡ ordering_reverse s → is_gt r ≡ false → is_gt s ≡ false → r ≡ Equal
no_sides Less Less e p q = absurd cc
no_sides Less Equal e p q = absurd cc
no_sides Less Greater e p q = absurd cc
no_sides Equal s e p q = refl
no_sides Greater s e p q = absurd cc

-- neither is greater
pub alike : (v w : Write) → is_gt (by_age v w) ≡ false → is_gt (by_age w v) ≡ false → by_age v w ≡ Equal
alike v w p q = no_sides (by_age v w) (by_age w v) (age_total.antisymm v w) p q

reversed_greater : (r : Ordering) → r ≡ Greater → ordering_reverse r ≡ Less
reversed_greater r e = ap ordering_reverse e

pub key_back : (v w : Write) → by_key v w ≡ Greater → by_key w v ≡ Less
key_back v w e = key_total.antisymm w v ∙ ap ordering_reverse e

pub never_below_itself : (v w : Write) → by_key v w ≡ Less → by_key w v ≡ Less → ⊥
never_below_itself v w p q =
    let e : Less ≡ Greater = sym p ∙ key_total.antisymm v w ∙ ap ordering_reverse q in
    cc

-- ---- counts

lt_count : (v w : Write) (r : Ordering) → r ≡ nat_cmp v.count w.count → is_lt (ordering_then r (by_octets v w)) ≡ true → v.count ≤ w.count
lt_count v w r e lt =
    by_ranked (v.count < w.count) (v.count ≡ w.count) (w.count < v.count) r (ranked v.count w.count r e)
    (λ is less. omega (arith, less)) (λ is same. omega (arith, same))
    (λ is more. let no : is_lt (ordering_then Greater (by_octets v w)) ≡ true = ap (λ (o : Ordering). is_lt (ordering_then o (by_octets v w))) (sym is) ∙ lt in absurd cc)

-- a less write has no greater count
pub count_up : (v w : Write) → is_lt (by_age v w) ≡ true → v.count ≤ w.count
count_up v w lt = lt_count v w (nat_cmp v.count w.count) refl lt

not_lt_count : (v w : Write) (r : Ordering) → r ≡ nat_cmp v.count w.count → is_lt (ordering_then r (by_octets v w)) ≡ false → w.count ≤ v.count
not_lt_count v w r e lt =
    by_ranked (v.count < w.count) (v.count ≡ w.count) (w.count < v.count) r (ranked v.count w.count r e)
    (λ is less. let no : is_lt (ordering_then Less (by_octets v w)) ≡ false = ap (λ (o : Ordering). is_lt (ordering_then o (by_octets v w))) (sym is) ∙ lt in absurd cc)
    (λ is same. omega (arith, same)) (λ is more. omega (arith, more))

-- one that isn't less has no smaller count
pub count_down : (v w : Write) → is_lt (by_age v w) ≡ false → w.count ≤ v.count
count_down v w lt = not_lt_count v w (nat_cmp v.count w.count) refl lt

below_count : (v w : Write) (r : Ordering) → r ≡ nat_cmp v.count w.count → v.count < w.count → ordering_then r (by_octets v w) ≡ Less
below_count v w r e lt =
    by_ranked (v.count < w.count) (v.count ≡ w.count) (w.count < v.count) r (ranked v.count w.count r e)
    (λ is less. ap (λ (o : Ordering). ordering_then o (by_octets v w)) is) (λ is same. absurd (omega (arith, same, lt))) (λ is more. absurd (omega (arith, more, lt)))

-- a greater count is enough
pub by_count : (v w : Write) → v.count < w.count → by_age v w ≡ Less
by_count v w lt = below_count v w (nat_cmp v.count w.count) refl lt

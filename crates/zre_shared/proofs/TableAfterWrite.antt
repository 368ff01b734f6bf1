-- What a further write does to a table.
use Rattle.std.proofs.Common.{◌≡◌, ◌≤◌, max, inl, inr, true, false, cond, List, [], ◌∷◌, refl, ap, ◌∙◌, subst, arith}
use Rattle.std.specs.List.{AllByRecursion}
use Rattle.std.specs.Cmp.{tied_itself, tied_back}
use Rattle.std.specs.Ordering.{match_ordering, is_lt, is_gt}
use Rattle.std.specs.declared.cmp.Ordering.TheVariants.{Less, Equal, Greater}
use Rattle.zre_shared.specs.declared.write.Write.{Write}
use Rattle.zre_shared.specs.Tables.{by_key, by_age, greater, put, IsCovered}
use Rattle.zre_shared.specs.Replicas.{greatest_count}
use Rattle.zre_shared.proofs.OrdersOfWrites.{key_total, not_above, below, itself, over, key_back, count_up, count_down}
use Rattle.zre_shared.proofs.RisingKeys.{In, in-from, contains-from, Rising, rising-head, rising-tail, rising-nil, rising-cons, all_members}

-- the greater of two is one of them
pub greater-one : (P : Write → Type 0) (w v : Write) → P w → P v → P (greater w v)
greater-one P w v pw pv = elim (is_lt (by_age v w)) as (λ b. P (cond b w v)) [ true ↦ pw | false ↦ pv ]

-- what holds of all holds of all after it
pub put-all : (P : Write → Type 0) (w : Write) (t : List Write) → P w → AllByRecursion P t → AllByRecursion P (put w t)
put-all P w [] pw all = (pw, tt)
put-all P w (v ∷ vs) pw all =
    elim (by_key w v) as (λ o. AllByRecursion P (match_ordering o (w ∷ v ∷ vs) (greater w v ∷ vs) (v ∷ put w vs))) [
      | Less ↦ (pw, all)
      | Equal ↦ (greater-one P w v pw all.0, all.1)
      | Greater ↦ (all.0, put-all P w vs pw all.1)
    ]

pub less_of_all : (w v : Write) (vs : List Write) → by_key w v ≡ Less → AllByRecursion (λ y. by_key v y ≡ Less) vs → AllByRecursion (λ y. by_key w y ≡ Less) vs
less_of_all w v [] e all = tt
less_of_all w v (y ∷ ys) e all = (key_total.trans w v y e all.0, less_of_all w v ys e all.1)

alike_below : (w v : Write) (vs : List Write) → by_key w v ≡ Equal → AllByRecursion (λ y. by_key v y ≡ Less) vs → AllByRecursion (λ y. by_key w y ≡ Less) vs
alike_below w v [] e all = tt
alike_below w v (y ∷ ys) e all = (key_total.congr w v y e ∙ all.0, alike_below w v ys e all.1)

pub put-rising : (w : Write) (t : List Write) → Rising t → Rising (put w t)
put-rising w [] r = rising-cons w [] tt rising-nil
put-rising w (v ∷ vs) r =
    elim (by_key w v) as (λ o. by_key w v ≡ o → Rising (match_ordering o (w ∷ v ∷ vs) (greater w v ∷ vs) (v ∷ put w vs))) [
      | Less ↦ λ e. rising-cons w (v ∷ vs) (e, less_of_all w v vs e (rising-head v vs r)) r
      | Equal ↦ λ e. rising-cons (greater w v) vs
          (greater-one (λ x. AllByRecursion (λ y. by_key x y ≡ Less) vs) w v (alike_below w v vs e (rising-head v vs r)) (rising-head v vs r))
          (rising-tail v vs r)
      | Greater ↦ λ e. rising-cons v (put w vs) (put-all (λ y. by_key v y ≡ Less) w vs (key_back w v e) (rising-head v vs r)) (put-rising w vs (rising-tail v vs r))
    ] refl

pub covered-itself : (t : List Write) (w : Write) → In t w → IsCovered t w
covered-itself t w i = record { by = w; there = contains-from t w i; same_key = tied_itself key_total w; not_less = itself w }

pub covered-over : (t : List Write) (v w : Write) → by_key v w ≡ Equal → is_gt (by_age v w) ≡ false → IsCovered t w → IsCovered t v
covered-over t v w key age c = record {
  by = c.by;
  there = c.there;
  same_key = key_total.congr v w c.by key ∙ c.same_key;
  not_less = over v w c.by age c.not_less;
}

later : (t : List Write) (v w : Write) → IsCovered t w → IsCovered (v ∷ t) w
later t v w c = record { by = c.by; there = contains-from (v ∷ t) c.by (inr (in-from t c.by c.there)); same_key = c.same_key; not_less = c.not_less }

-- the greater of two covers both
greater-first : (w v : Write) (vs : List Write) → by_key w v ≡ Equal → IsCovered (greater w v ∷ vs) w
greater-first w v vs e =
    elim (is_lt (by_age v w)) as (λ b. is_lt (by_age v w) ≡ b → IsCovered (cond b w v ∷ vs) w) [
      | true ↦ λ lt. covered-itself (w ∷ vs) w (inl refl)
      | false ↦ λ lt. record { by = v; there = contains-from (v ∷ vs) v (inl refl); same_key = e; not_less = not_above v w lt }
    ] refl

greater-second : (w v : Write) (vs : List Write) → by_key w v ≡ Equal → IsCovered (greater w v ∷ vs) v
greater-second w v vs e =
    elim (is_lt (by_age v w)) as (λ b. is_lt (by_age v w) ≡ b → IsCovered (cond b w v ∷ vs) v) [
      | true ↦ λ lt. record { by = w; there = contains-from (w ∷ vs) w (inl refl); same_key = tied_back key_total w v e; not_less = below v w lt }
      | false ↦ λ lt. covered-itself (v ∷ vs) v (inl refl)
    ] refl

pub put-covers : (w : Write) (t : List Write) → IsCovered (put w t) w
put-covers w [] = covered-itself (w ∷ []) w (inl refl)
put-covers w (v ∷ vs) =
    elim (by_key w v) as (λ o. by_key w v ≡ o → IsCovered (match_ordering o (w ∷ v ∷ vs) (greater w v ∷ vs) (v ∷ put w vs)) w) [
      | Less ↦ λ e. covered-itself (w ∷ v ∷ vs) w (inl refl)
      | Equal ↦ λ e. greater-first w v vs e
      | Greater ↦ λ e. later (put w vs) v w (put-covers w vs)
    ] refl

-- a member stays, or a greater one of its key has its place
put-member : (w : Write) (t : List Write) (x : Write) → In t x → IsCovered (put w t) x
put-member w [] x i = absurd i
put-member w (v ∷ vs) x (inl same) =
    elim (by_key w v) as (λ o. by_key w v ≡ o → IsCovered (match_ordering o (w ∷ v ∷ vs) (greater w v ∷ vs) (v ∷ put w vs)) x) [
      | Less ↦ λ e. covered-itself (w ∷ v ∷ vs) x (inr (inl same))
      | Equal ↦ λ e. subst (IsCovered (greater w v ∷ vs)) same (greater-second w v vs e)
      | Greater ↦ λ e. covered-itself (v ∷ put w vs) x (inl same)
    ] refl
put-member w (v ∷ vs) x (inr i) =
    elim (by_key w v) as (λ o. IsCovered (match_ordering o (w ∷ v ∷ vs) (greater w v ∷ vs) (v ∷ put w vs)) x) [
      | Less ↦ covered-itself (w ∷ v ∷ vs) x (inr (inr i))
      | Equal ↦ covered-itself (greater w v ∷ vs) x (inr i)
      | Greater ↦ later (put w vs) v x (put-member w vs x i)
    ]

pub put-keeps : (w : Write) (t : List Write) (x : Write) → IsCovered t x → IsCovered (put w t) x
put-keeps w t x c = covered-over (put w t) x c.by c.same_key c.not_less (put-member w t c.by (in-from t c.by c.there))

-- ---- counts

greater-count : (w v : Write) → (greater w v).count ≡ max w.count v.count
greater-count w v =
    elim (is_lt (by_age v w)) as (λ b. is_lt (by_age v w) ≡ b → (cond b w v).count ≡ max w.count v.count) [
      | true ↦ λ lt. omega (arith, count_up v w lt)
      | false ↦ λ lt. omega (arith, count_down v w lt)
    ] refl

pub put-count : (w : Write) (t : List Write) → greatest_count (put w t) ≡ max w.count (greatest_count t)
put-count w [] = refl
put-count w (v ∷ vs) =
    elim (by_key w v) as (λ o. greatest_count (match_ordering o (w ∷ v ∷ vs) (greater w v ∷ vs) (v ∷ put w vs)) ≡ max w.count (max v.count (greatest_count vs))) [
      | Less ↦ refl
      | Equal ↦ omega (arith, greater-count w v)
      | Greater ↦ omega (arith, put-count w vs)
    ]

pub count-within : (t : List Write) → AllByRecursion (λ v. v.count ≤ greatest_count t) t
count-within t = all_members (λ v. v.count ≤ greatest_count t) t (within t)
  where
    within : (t : List Write) (v : Write) → In t v → v.count ≤ greatest_count t
    within [] v i = absurd i
    within (x ∷ xs) v (inl same) = let e : x.count ≡ v.count = ap (λ (w : Write). w.count) same in omega (arith, e)
    within (x ∷ xs) v (inr later) = omega (arith, within xs v later)

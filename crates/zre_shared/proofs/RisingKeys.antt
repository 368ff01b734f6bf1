-- Members of a list of writes, and lists whose keys rise.
use Rattle.std.proofs.Common.{◌≡◌, ◌<◌, ◌⊎◌, inl, inr, List, [], ◌∷◌, ◌++◌, refl, sym, ap, ◌∙◌, subst, arith}
use Rattle.std.specs.List.{AllByRecursion, Contains}
use Rattle.std.specs.List.Sorted.{IsStrictlySortedBy}
use Rattle.std.specs.declared.cmp.Ordering.{Ordering}
use Rattle.std.specs.declared.cmp.Ordering.TheVariants.{Less, Equal}
use Rattle.std.specs.Cmp.{tied_itself, tied_back}
use Rattle.std.proofs.lemmas.List.Elements.{Contains-append_left, Contains-append_right, Contains-append_cases, Contains-push, Contains-push_cases}
use Rattle.zre_shared.specs.declared.write.Write.{Write}
use Rattle.zre_shared.specs.Tables.{by_key}
use Rattle.zre_shared.proofs.OrdersOfWrites.{key_total, never_below_itself}

-- a member, by recursion on the list
abbrev pub In : List Write → Write → Type 0
In [] x = ⊥
In (y ∷ ys) x = (y ≡ x) ⊎ In ys x

nothing : (x : Write) → Contains [] x → ⊥
nothing x c = let lt : c.0 < 0 = c.1 in omega (arith, lt)

pub in-from : (xs : List Write) (x : Write) → Contains xs x → In xs x
in-from [] x c = nothing x c
in-from (y ∷ ys) x c =
    elim (Contains-append_cases (y ∷ []) ys x c) [
      | inl here ↦ elim (Contains-push_cases [] y x here) [ inl none ↦ absurd (nothing x none) | inr same ↦ inl same ]
      | inr later ↦ inr (in-from ys x later)
    ]

pub contains-from : (xs : List Write) (x : Write) → In xs x → Contains xs x
contains-from [] x i = absurd i
contains-from (y ∷ ys) x (inl same) = Contains-append_left (y ∷ []) ys x (subst (λ (z : Write). Contains (y ∷ []) z) same (Contains-push [] y))
contains-from (y ∷ ys) x (inr later) = Contains-append_right (y ∷ []) ys x (contains-from ys x later)

-- what holds of each holds of a member
pub at_member : (P : Write → Type 0) (xs : List Write) (x : Write) → AllByRecursion P xs → In xs x → P x
at_member P [] x all i = absurd i
at_member P (y ∷ ys) x all (inl same) = subst P same all.0
at_member P (y ∷ ys) x all (inr later) = at_member P ys x all.1 later

pub all_members : (P : Write → Type 0) (xs : List Write) → ((x : Write) → In xs x → P x) → AllByRecursion P xs
all_members P [] h = tt
all_members P (y ∷ ys) h = (h y (inl refl), all_members P ys (λ x i. h x (inr i)))

pub in-left : (xs ys : List Write) (x : Write) → In xs x → In (xs ++ ys) x
in-left [] ys x i = absurd i
in-left (y ∷ xs) ys x (inl same) = inl same
in-left (y ∷ xs) ys x (inr later) = inr (in-left xs ys x later)

pub in-right : (xs ys : List Write) (x : Write) → In ys x → In (xs ++ ys) x
in-right [] ys x i = i
in-right (y ∷ xs) ys x i = inr (in-right xs ys x i)

pub in-cases : (xs ys : List Write) (x : Write) → In (xs ++ ys) x → In xs x ⊎ In ys x
in-cases [] ys x i = inr i
in-cases (y ∷ xs) ys x (inl same) = inl (inl same)
in-cases (y ∷ xs) ys x (inr later) = elim (in-cases xs ys x later) [ inl left ↦ inl (inr left) | inr right ↦ inr right ]

-- ---- keys that rise

abbrev pub Rising : List Write → Type 0
Rising xs = IsStrictlySortedBy by_key xs

pub rising-head : (x : Write) (xs : List Write) → Rising (x ∷ xs) → AllByRecursion (λ y. by_key x y ≡ Less) xs
unfolding IsStrictlySortedBy
rising-head x xs r = r.0

pub rising-tail : (x : Write) (xs : List Write) → Rising (x ∷ xs) → Rising xs
unfolding IsStrictlySortedBy
rising-tail x xs r = r.1

pub rising-nil : Rising []
unfolding IsStrictlySortedBy
rising-nil = tt

pub rising-cons : (x : Write) (xs : List Write) → AllByRecursion (λ y. by_key x y ≡ Less) xs → Rising xs → Rising (x ∷ xs)
unfolding IsStrictlySortedBy
rising-cons x xs head tail = (head, tail)

not_both : (r : Ordering) → r ≡ Less → r ≡ Equal → ⊥
not_both r p q = let e : Less ≡ Equal = sym p ∙ q in cc

-- a key stands once
pub one_of_key : (xs : List Write) → Rising xs → (x y : Write) → In xs x → In xs y → by_key x y ≡ Equal → x ≡ y
one_of_key [] r x y i j e = absurd i
one_of_key (z ∷ zs) r x y (inl same) (inl also) e = sym same ∙ also
one_of_key (z ∷ zs) r x y (inl same) (inr later) e =
    let lt : by_key z y ≡ Less = at_member (λ v. by_key z v ≡ Less) zs y (rising-head z zs r) later in
    absurd (not_both (by_key z y) lt (ap (λ (v : Write). by_key v y) same ∙ e))
one_of_key (z ∷ zs) r x y (inr later) (inl same) e =
    let lt : by_key z x ≡ Less = at_member (λ v. by_key z v ≡ Less) zs x (rising-head z zs r) later in
    let eq : by_key z x ≡ Equal = ap (λ (v : Write). by_key v x) same ∙ tied_back key_total x y e in
    absurd (not_both (by_key z x) lt eq)
one_of_key (z ∷ zs) r x y (inr later) (inr after) e = one_of_key zs (rising-tail z zs r) x y later after e

member_above : (x y : Write) (ys : List Write) → Rising (y ∷ ys) → In ys x → by_key y x ≡ Less
member_above x y ys r i = at_member (λ v. by_key y v ≡ Less) ys x (rising-head y ys r) i

same_head : (x : Write) (xs : List Write) (y : Write) (ys : List Write) → Rising (x ∷ xs) → Rising (y ∷ ys) → In (y ∷ ys) x → In (x ∷ xs) y → x ≡ y
same_head x xs y ys r s (inl same) j = sym same
same_head x xs y ys r s (inr later) (inl same) = same
same_head x xs y ys r s (inr later) (inr after) = absurd (never_below_itself x y (member_above y x xs r after) (member_above x y ys s later))

-- a later member isn't the first
in_tail : (x y : Write) (xs : List Write) → Rising (x ∷ xs) → (ys : List Write) → x ≡ y → (z : Write) → In xs z → In (y ∷ ys) z → In ys z
in_tail x y xs r ys same z i (inr later) = later
in_tail x y xs r ys same z i (inl is) =
    absurd (not_both (by_key x z) (member_above z x xs r i) (ap (by_key x) (sym is ∙ sym same) ∙ tied_itself key_total x))

-- there is one rising list of some members
pub same_list : (xs ys : List Write) → Rising xs → Rising ys → ((z : Write) → In xs z → In ys z) → ((z : Write) → In ys z → In xs z) → xs ≡ ys
same_list [] [] r s to from = refl
same_list [] (y ∷ ys) r s to from = absurd (from y (inl refl))
same_list (x ∷ xs) [] r s to from = absurd (to x (inl refl))
same_list (x ∷ xs) (y ∷ ys) r s to from =
    let first : x ≡ y = same_head x xs y ys r s (to x (inl refl)) (from y (inl refl)) in
    let rest : xs ≡ ys = same_list xs ys (rising-tail x xs r) (rising-tail y ys s)
    (λ z i. in_tail x y xs r ys first z i (to z (inr i)))
    (λ z i. in_tail y x ys s xs (sym first) z i (from z (inr i))) in
    λ i. first i ∷ rest i

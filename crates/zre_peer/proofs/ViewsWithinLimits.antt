-- A view within the limits, with a group more or less.
use Rattle.std.proofs.Common.{◌≡◌, ℕ, ◌≤◌, Bool, true, false, cond, ◌&&◌, ◌||◌, List, [], ◌∷◌, ◌++◌, length, ltb, leb, refl, sym, ap, ◌∙◌, arith, inl, inr}
use Rattle.std.specs.List.{list_any, list_all}
use Rattle.std.specs.Str.{bytes_eq}
use Rattle.std.proofs.lemmas.Bool.{and_parts, and_from, or_right, leb-true, le-leb, ltb-true, lt-ltb, cases_Bool, both_ways, false≢true}
use Rattle.std.proofs.lemmas.List.{length-append}
use Rattle.std.proofs.lemmas.List.Folds.{list_all-append}
use Rattle.std.proofs.lemmas.Slice.Eq.{bytes_eq-Decides}
use Rattle.std.proofs.Math.Bool.{or-false}
use Rattle.zre_values.specs.Lists.{without}
use Rattle.zre_peer.specs.declared.view.View.{View}
use Rattle.zre_msg.specs.declared.message.Body.TheVariants.{Join, Leave}
use Rattle.zre_peer.specs.Members.{are_few, with_group}
use Rattle.zre_peer.specs.Views.{after, is_small}

abbrev is_short : List ℕ → Bool
is_short g = leb (length g) 255

record Parts (groups : List (List ℕ)) (headers : List (List ℕ × List ℕ)) : Type 0 where
  count : length groups ≤ 1024
  short : list_all is_short groups ≡ true
  named : length headers ≤ 256

parts : (v : View) → is_small v ≡ true → Parts v.groups v.headers
unfolding is_small
parts v e =
    let a = and_parts (leb (length v.groups) 1024 && list_all is_short v.groups) (leb (length v.headers) 256) e in
    let b = and_parts (leb (length v.groups) 1024) (list_all is_short v.groups) a.0 in
    record { count = leb-true _ _ b.0; short = b.1; named = leb-true _ _ a.1 }

pub and_true : (b : Bool) → (b && true) ≡ b
and_true true = refl
and_true false = refl

made : (v : View) → Parts v.groups v.headers → is_small v ≡ true
unfolding is_small
made v p = and_from (leb (length v.groups) 1024 && list_all is_short v.groups) (leb (length v.headers) 256) (and_from (leb (length v.groups) 1024) (list_all is_short v.groups) (le-leb _ _ p.count) p.short) (le-leb _ _ p.named)

same_tests : (a b : Bool) → (a ≡ true → b ≡ true) → (b ≡ true → a ≡ true) → a ≡ b
same_tests true true f g = refl
same_tests true false f g = absurd (both_ways false refl (f refl))
same_tests false true f g = absurd (both_ways false refl (g refl))
same_tests false false f g = refl

-- the groups of a view within the limits are
pub groups_are_few : (v : View) → is_small v ≡ true → are_few v.groups ≡ true
unfolding is_small
groups_are_few v e = (and_parts (are_few v.groups) (leb (length v.headers) 256) e).0

-- a JOIN is within the limits where the groups are
pub joined_is_small : (v : View) (g : List ℕ) (s : ℕ) → is_small v ≡ true → are_few (with_group v.groups g) ≡ is_small (after v (Join g s))
unfolding is_small
joined_is_small v g s e =
    let named = (and_parts (are_few v.groups) (leb (length v.headers) 256) e).1 in
    sym (and_true (are_few (with_group v.groups g))) ∙ ap (λ b. are_few (with_group v.groups g) && b) (sym named)

abbrev is_there : List (List ℕ) → List ℕ → Bool
is_there groups g = list_any (λ x. bytes_eq x g) groups

-- a group that is among short ones is short
there_is_short : (g : List ℕ) (groups : List (List ℕ)) → list_all is_short groups ≡ true → is_there groups g ≡ true → is_short g ≡ true
there_is_short g [] e there = absurd (false≢true there)
there_is_short g (x ∷ xs) e there =
    let p = and_parts (is_short x) (list_all is_short xs) e in
    elim (cases_Bool (bytes_eq x g)) [
      | inl t ↦ ap is_short (sym ((bytes_eq-Decides x g).0 t)) ∙ p.0
      | inr f ↦ there_is_short g xs p.1 (ap (λ b. b || is_there xs g) (sym f) ∙ there)
    ]

-- whether the groups are few with one more
pub few_with : (groups : List (List ℕ)) (g : List ℕ) → are_few groups ≡ true → (is_short g && (ltb (length groups) 1024 || is_there groups g)) ≡ are_few (with_group groups g)
few_with groups g e =
    let p = and_parts (leb (length groups) 1024) (list_all is_short groups) e in
    elim (cases_Bool (is_there groups g)) [
      | inl t ↦ and_from (is_short g) (ltb (length groups) 1024 || is_there groups g) (there_is_short g groups p.1 t) (or_right (ltb (length groups) 1024) (is_there groups g) t)
          ∙ sym (ap are_few (ap (λ b. cond b groups (groups ++ g ∷ [])) t) ∙ e)
      | inr f ↦ rw f (same_tests (is_short g && (ltb (length groups) 1024 || false)) (are_few (groups ++ g ∷ []))
          (λ t. let q = and_parts (is_short g) (ltb (length groups) 1024 || false) t in
          let lt = ltb-true (length groups) 1024 (sym (or-false (ltb (length groups) 1024)) ∙ q.1) in
          and_from (leb (length (groups ++ g ∷ [])) 1024) (list_all is_short (groups ++ g ∷ [])) (le-leb _ _ (omega (arith, lt, length-append groups (g ∷ []))))
          (list_all-append is_short groups (g ∷ []) ∙ and_from (list_all is_short groups) (list_all is_short (g ∷ [])) p.1 (and_from (is_short g) true q.0 refl)))
          (λ t. let q = and_parts (leb (length (groups ++ g ∷ [])) 1024) (list_all is_short (groups ++ g ∷ [])) t in
          let count = leb-true _ _ q.0 in
          let both = and_parts (list_all is_short groups) (list_all is_short (g ∷ [])) (sym (list_all-append is_short groups (g ∷ [])) ∙ q.1) in
          and_from (is_short g) (ltb (length groups) 1024 || false) (and_parts (is_short g) true both.1).0
          (or-false (ltb (length groups) 1024) ∙ lt-ltb _ _ (omega (arith, count, length-append groups (g ∷ []))))))
    ]

pub length-without : (g : List ℕ) (groups : List (List ℕ)) → length (without g groups) ≤ length groups
length-without g [] = omega arith
length-without g (x ∷ xs) =
    elim (cases_Bool (bytes_eq x g)) [
      | inl t ↦ rw t (omega arith)
      | inr f ↦ rw f (let h = length-without g xs in omega arith)
    ]

short-without : (g : List ℕ) (groups : List (List ℕ)) → list_all is_short groups ≡ true → list_all is_short (without g groups) ≡ true
short-without g [] e = refl
short-without g (x ∷ xs) e =
    let p = and_parts (is_short x) (list_all is_short xs) e in
    elim (cases_Bool (bytes_eq x g)) [
      | inl t ↦ rw t p.1
      | inr f ↦ rw f (and_from (is_short x) (list_all is_short (without g xs)) p.0 (short-without g xs p.1))
    ]

pub left_is_small : (v : View) (g : List ℕ) (s : ℕ) → is_small v ≡ true → is_small (after v (Leave g s)) ≡ true
left_is_small v g s e =
    let p = parts v e in
    made (after v (Leave g s)) record { count = omega (arith, p.count, length-without g v.groups); short = short-without g v.groups p.short; named = p.named }

-- the view after a LEAVE, by its groups
pub left_view : (v w : View) (groups : List (List ℕ)) (g : List ℕ) (s : ℕ) → w ≡ record v { groups = groups } → groups ≡ without g v.groups → record w { status = s } ≡ after v (Leave g s)
left_view v w groups g s e f = ap (λ x. let y : View = record x { status = s } in y) e ∙ ap (λ x. let y : View = record v { groups = x; status = s } in y) f

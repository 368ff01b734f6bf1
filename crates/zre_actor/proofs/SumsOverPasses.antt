-- Counts over the passes, and the commands under a number.
use Rattle.std.proofs.Common.{◌≡◌, ◌≢◌, ℕ, zero, suc, ◌+◌, ◌≤◌, ◌==◌, true, false, cond, List, [], ◌∷◌, ◌++◌, take, drop, set, refl, sym, ap, ◌∙◌, arith, eq-eqb, ne_eqb}
use mathlib.Core.Option.{some, some-injective, some-ne-none}
use lib.ListN.{get_elem?}
use Rattle.zre_actor.specs.declared.views.Placed.{Placed}
use Rattle.zre_actor.specs.declared.views.CommandView.{CommandView}
use Rattle.zre_actor.specs.Commands.{times, under, naming, Closed, total}

pub times-append : (n : ℕ) (xs ys : List ℕ) → times n (xs ++ ys) ≡ times n xs + times n ys
times-append n [] ys = omega arith
times-append n (x ∷ xs) ys = omega (arith, times-append n xs ys)

pub times_cut : (n : ℕ) (xs : List ℕ) → times n (take 1 xs) + times n (drop 1 xs) ≡ times n xs
times_cut n [] = refl
times_cut n (x ∷ xs) = omega arith

-- a number that stands in a list once at most isn't its first one and a later one
pub other_number : (n m : ℕ) (ns : List ℕ) → times m (n ∷ ns) ≤ 1 → 1 ≤ times m ns → n ≢ m
other_number n m ns most there same = (let one : ◌≡◌ {A = ℕ} (cond (n == m) 1 0) 1 = ap (λ b. cond b 1 0) (eq-eqb n m same) in absurd (omega (arith, one, most, there)))

pub is_first : (n : ℕ) (ns : List ℕ) → times n (n ∷ ns) ≡ 1 + times n ns
is_first n ns = (let one : ◌≡◌ {A = ℕ} (cond (n == n) 1 0) 1 = ap (λ b. cond b 1 0) (eq-eqb n n refl) in omega (arith, one))

pub not_first : (n m : ℕ) (ns : List ℕ) → times m (n ∷ ns) ≡ 0 → n ≢ m
not_first n m ns none same = (let one : ◌≡◌ {A = ℕ} (cond (n == m) 1 0) 1 = ap (λ b. cond b 1 0) (eq-eqb n m same) in absurd (omega (arith, one, none)))

pub under-append : (n : ℕ) (xs ys : List Placed) → under n (xs ++ ys) ≡ under n xs ++ under n ys
under-append n [] ys = refl
under-append n (e ∷ es) ys = elim (e.number == n) as (λ b. cond b (e ∷ under n (es ++ ys)) (under n (es ++ ys)) ≡ cond b (e ∷ under n es) (under n es) ++ under n ys) [
  | true ↦ ap (λ l. e ∷ l) (under-append n es ys)
  | false ↦ under-append n es ys
]

pub under_other : (n : ℕ) (e : Placed) → e.number ≢ n → under n (e ∷ []) ≡ []
under_other n e other = ap (λ b. cond b (e ∷ []) []) (ne_eqb e.number n other)

pub naming-append : (n : ℕ) (xs ys : List Placed) → naming n (xs ++ ys) ≡ naming n xs + naming n ys
naming-append n [] ys = omega arith
naming-append n (e ∷ es) ys = omega (arith, naming-append n es ys)

-- a command may follow where none before it names its number as ended
pub Closed-snoc : (es : List Placed) (x : Placed) → Closed es → naming x.number es ≡ 0 → Closed (es ++ x ∷ [])
Closed-snoc [] x c none = ((λ n h. refl), tt)
Closed-snoc (e ∷ es) x c none = (
  (λ n h. let other : x.number ≢ n = λ is. (let no : times n e.ended ≡ 0 = ap (λ k. times k e.ended) (sym is) ∙ omega arith in omega arith) in
      under-append n es (x ∷ []) ∙ ap (λ l. l ++ under n (x ∷ [])) (c.0 n h) ∙ under_other n x other),
  Closed-snoc es x c.1 (omega arith),
)

module _ (f : CommandView → ℕ) where
  pub total_set : (views : List CommandView) (p : ℕ) (v w : CommandView) → get_elem? views p ≡ some v → total f (set views p w) + f v ≡ total f views + f w
  total_set [] p v w at = absurd (some-ne-none v (sym at))
  total_set (u ∷ us) zero v w at = let e : f u ≡ f v = ap f (some-injective u v at) in omega arith
  total_set (u ∷ us) (suc p) v w at = omega (arith, total_set us p v w at)

  pub total_snoc : (views : List CommandView) (v : CommandView) → total f (views ++ v ∷ []) ≡ total f views + f v
  total_snoc [] v = omega arith
  total_snoc (u ∷ us) v = omega (arith, total_snoc us v)

  pub total_one : (views : List CommandView) (p : ℕ) (v : CommandView) → get_elem? views p ≡ some v → f v ≤ total f views
  total_one [] p v at = absurd (some-ne-none v (sym at))
  total_one (u ∷ us) zero v at = let e : f u ≡ f v = ap f (some-injective u v at) in omega arith
  total_one (u ∷ us) (suc p) v at = omega (arith, total_one us p v at)

  pub total_two : (views : List CommandView) (p q : ℕ) (v w : CommandView) → q ≢ p → get_elem? views p ≡ some v → get_elem? views q ≡ some w → f v + f w ≤ total f views
  total_two [] p q v w other at at' = absurd (some-ne-none v (sym at))
  total_two (u ∷ us) zero zero v w other at at' = absurd (other refl)
  total_two (u ∷ us) zero (suc q) v w other at at' = let e : f u ≡ f v = ap f (some-injective u v at) in omega (arith, total_one us q w at')
  total_two (u ∷ us) (suc p) zero v w other at at' = let e : f u ≡ f w = ap f (some-injective u w at') in omega (arith, total_one us p v at)
  total_two (u ∷ us) (suc p) (suc q) v w other at at' = omega (arith, total_two us p q v w (λ e. other (ap suc e)) at at')

pub total_sum : (f g h : CommandView → ℕ) → ((v : CommandView) → h v ≡ f v + g v) → (views : List CommandView) → total h views ≡ total f views + total g views
total_sum f g h is [] = refl
total_sum f g h is (v ∷ vs) = omega (arith, is v, total_sum f g h is vs)

pub total_same : (f g : CommandView → ℕ) → ((v : CommandView) → f v ≡ g v) → (views : List CommandView) → total f views ≡ total g views
total_same f g is [] = refl
total_same f g is (v ∷ vs) = omega (arith, is v, total_same f g is vs)

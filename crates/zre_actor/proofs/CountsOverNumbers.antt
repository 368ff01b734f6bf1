-- Counts over the numbers from 1 to 16.
use Rattle.std.proofs.Common.{◌≡◌, ◌≢◌, ℕ, zero, suc, ◌+◌, ◌≤◌, ◌<◌, ◌==◌, true, false, cond, List, [], ◌∷◌, length, refl, sym, ap, ◌∙◌, arith, eq-eqb, ne_eqb}
use mathlib.Core.Logic.{dite}
use native.Mathlib.Decide.{dec_le, ℕ_discrete}
use Rattle.zre_actor.specs.declared.views.Placed.{Placed}
use Rattle.zre_actor.specs.Commands.{times, under}

-- f at each of k numbers from a on, added up
along : (ℕ → ℕ) → ℕ → ℕ → ℕ
along f a zero = 0
along f a (suc k) = f a + along f (suc a) k

along_sum : (f g h : ℕ → ℕ) → ((n : ℕ) → h n ≡ f n + g n) → (a k : ℕ) → along h a k ≡ along f a k + along g a k
unfolding along
along_sum f g h is a zero = refl
along_sum f g h is a (suc k) = omega (arith, is a, along_sum f g h is (suc a) k)

along_same : (f g : ℕ → ℕ) → ((n : ℕ) → f n ≡ g n) → (a k : ℕ) → along f a k ≡ along g a k
unfolding along
along_same f g is a zero = refl
along_same f g is a (suc k) = omega (arith, is a, along_same f g is (suc a) k)

along_none : (f : ℕ → ℕ) → ((n : ℕ) → f n ≡ 0) → (a k : ℕ) → along f a k ≡ 0
unfolding along
along_none f none a zero = refl
along_none f none a (suc k) = omega (arith, none a, along_none f none (suc a) k)

is : ℕ → ℕ → ℕ
is x n = cond (x == n) 1 0

is_here : (x n : ℕ) → x ≡ n → is x n ≡ 1
unfolding is
is_here x n e = ap (λ b. cond b 1 0) (eq-eqb x n e)

is_away : (x n : ℕ) → x ≢ n → is x n ≡ 0
unfolding is
is_away x n e = ap (λ b. cond b 1 0) (ne_eqb x n e)

along_before : (x a k : ℕ) → x < a → along (is x) a k ≡ 0
unfolding along
along_before x a zero h = refl
along_before x a (suc k) h = let z = is_away x a (λ e. omega arith) in omega (arith, along_before x (suc a) k (omega arith))

along_one : (x a k : ℕ) → a ≤ x → x < a + k → along (is x) a k ≡ 1
unfolding along
along_one x a zero low high = absurd (omega arith)
along_one x a (suc k) low high = dite (ℕ_discrete x a)
    (λ (e : x ≡ a). let o = is_here x a e in let z = along_before x (suc a) k (omega arith) in omega arith)
    (λ (ne : x ≢ a). let z = is_away x a ne in omega (arith, along_one x (suc a) k (omega arith) (omega arith)))

along_most : (f : ℕ → ℕ) → ((n : ℕ) → f n ≤ 1) → (a k : ℕ) → along f a k ≤ k
unfolding along
along_most f one a zero = omega arith
along_most f one a (suc k) = omega (arith, one a, along_most f one (suc a) k)

along_full : (f : ℕ → ℕ) → ((n : ℕ) → f n ≤ 1) → (a k : ℕ) → along f a k ≡ k → (n : ℕ) → a ≤ n → n < a + k → 1 ≤ f n
unfolding along
along_full f one a zero full n low high = absurd (omega arith)
along_full f one a (suc k) full n low high = dite (ℕ_discrete n a)
    (λ (e : n ≡ a). let s : f n ≡ f a = ap f e in omega (arith, one a, along_most f one (suc a) k))
    (λ (ne : n ≢ a). along_full f one (suc a) k (omega (arith, one a, along_most f one (suc a) k)) n (omega arith) (omega arith))

-- a list of numbers from 1 to 16 is as long as their counts together
times_along : (xs : List ℕ) → ((n : ℕ) → 1 ≤ times n xs → (1 ≤ n) × (n ≤ 16)) → along (λ n. times n xs) 1 16 ≡ length xs
unfolding is
times_along [] within = along_none (λ n. 0) (λ n. refl) 1 16
times_along (x ∷ xs) within = let r = within x (let o = is_here x x refl in omega arith) in
    omega (arith, along_sum (is x) (λ n. times n xs) (λ n. times n (x ∷ xs)) (λ n. refl) 1 16, along_one x 1 16 r.0 (omega arith), times_along xs (λ n h. within n (omega arith)))

-- sixteen numbers from 1 to 16, none of them twice, are all of them
pub all_there : (xs : List ℕ) → length xs ≡ 16 → ((n : ℕ) → times n xs ≤ 1) → ((n : ℕ) → 1 ≤ times n xs → (1 ≤ n) × (n ≤ 16)) → (n : ℕ) → 1 ≤ n → n ≤ 16 → 1 ≤ times n xs
all_there xs long one within n low high = along_full (λ j. times j xs) one 1 16 (times_along xs within ∙ long) n low (omega arith)

empty_list : (l : List Placed) → length l ≡ 0 → l ≡ []
empty_list [] h = refl
empty_list (x ∷ xs) h = absurd (omega arith)

more : (e : Placed) (es : List Placed) (n : ℕ) → length (under n (e ∷ es)) ≡ is e.number n + length (under n es)
unfolding is
more e es n = elim (e.number == n) as (λ b. length (cond b (e ∷ under n es) (under n es)) ≡ cond b 1 0 + length (under n es)) [ true ↦ omega arith | false ↦ omega arith ]

inside : (e : Placed) (es : List Placed) → ((n : ℕ) → ¬ ((1 ≤ n) × (n ≤ 16)) → under n (e ∷ es) ≡ []) → (1 ≤ e.number) × (e.number ≤ 16)
inside e es within = let filled : ¬ ((1 ≤ e.number) × (e.number ≤ 16)) → ⊥ = λ out. (let l = more e es e.number in let o = is_here e.number e.number refl in let z : length (under e.number (e ∷ es)) ≡ 0 = ap length (within e.number out) in omega arith) in dite (dec_le 1 e.number)
    (λ (low : 1 ≤ e.number). dite (dec_le e.number 16) (λ (high : e.number ≤ 16). (low, high)) (λ (no_ : ¬ (e.number ≤ 16)). absurd (filled (λ h. no_ h.1))))
    (λ (no_ : ¬ (1 ≤ e.number)). absurd (filled (λ h. no_ h.0)))

rest : (e : Placed) (es : List Placed) (n : ℕ) → under n (e ∷ es) ≡ [] → under n es ≡ []
rest e es n none = empty_list (under n es) (let l = more e es n in let z : length (under n (e ∷ es)) ≡ 0 = ap length none in omega arith)

-- commands under numbers from 1 to 16 are as many as those under each of these numbers together
lengths_along : (es : List Placed) → ((n : ℕ) → ¬ ((1 ≤ n) × (n ≤ 16)) → under n es ≡ []) → along (λ n. length (under n es)) 1 16 ≡ length es
lengths_along [] within = along_none (λ n. 0) (λ n. refl) 1 16
lengths_along (e ∷ es) within =
    let shown : (n : ℕ) → length (under n (e ∷ es)) ≡ is e.number n + length (under n es) = more e es in
    let here : (1 ≤ e.number) × (e.number ≤ 16) = inside e es within in
    omega (arith, along_sum (is e.number) (λ n. length (under n es)) (λ n. length (under n (e ∷ es))) shown 1 16, along_one e.number 1 16 here.0 (omega arith), lengths_along es (λ n out. rest e es n (within n out)))

pub same_length : (xs ys : List Placed) → ((n : ℕ) → under n xs ≡ under n ys) → ((n : ℕ) → ¬ ((1 ≤ n) × (n ≤ 16)) → under n xs ≡ []) → length xs ≡ length ys
same_length xs ys same within = sym (lengths_along xs within) ∙ along_same (λ n. length (under n xs)) (λ n. length (under n ys)) (λ n. ap length (same n)) 1 16 ∙ lengths_along ys (λ n out. sym (same n) ∙ within n out)

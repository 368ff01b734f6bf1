-- Rows of numbers.
use Rattle.std.proofs.Common.{◌≡◌, ℕ, zero, suc, ◌+◌, ◌-◌, ◌<◌, ◌≤◌, ◌==◌, Bool, true, false, cond, [], ◌∷◌, ◌++◌, length, refl, sym, ap, ◌∙◌, arith, add-one, ne_eqb}
use Rattle.zre_actor.specs.Commands.{times, row}
use Rattle.zre_actor.proofs.SumsOverPasses.{times-append}

pub row_snoc : (a k : ℕ) → row a (k + 1) ≡ row a k ++ (a + k) ∷ []
row_snoc a zero = (let e : a ≡ a + 0 = omega arith in ap (λ n. n ∷ []) e)
row_snoc a (suc k) = let e : suc a + k ≡ a + suc k = omega arith in
    rw (add-one) (ap (λ l. a ∷ l) (ap (row (suc a)) (sym (add-one k)) ∙ row_snoc (suc a) k ∙ ap (λ n. row (suc a) k ++ n ∷ []) e))

pub row_next : (a k m : ℕ) → k ≡ suc m → row a k ≡ a ∷ row (a + 1) m
row_next a k m e = ap (row a) e ∙ ap (λ b. a ∷ row b m) (sym (add-one a))

pub length_row : (a k : ℕ) → length (row a k) ≡ k
length_row a zero = refl
length_row a (suc k) = ap suc (length_row (suc a) k)

-- the numbers from the next one up to 16
pub row_left : (n : ℕ) → n < 16 → row (1 + n) (16 - n) ≡ (1 + n) ∷ row (1 + (n + 1)) (16 - (n + 1))
row_left n h = row_next (1 + n) (16 - n) (16 - (n + 1)) (omega arith) ∙ (let e : 1 + n + 1 ≡ 1 + (n + 1) = omega arith in ap (λ b. (1 + n) ∷ row b (16 - (n + 1))) e)

row_more : (k n : ℕ) → (times n (row 1 k) ≤ 1) × (k < n → times n (row 1 k) ≡ 0) → (times n (row 1 (suc k)) ≤ 1) × (suc k < n → times n (row 1 (suc k)) ≡ 0)
row_more k n r = (
  by (suc k == n) refl,
  λ h. (
      let rest = r.1 (omega (arith, h)) in
      let no : ◌≡◌ {A = ℕ} (cond (suc k == n) 1 0) 0 = ap (λ b. cond b 1 0) (ne_eqb (suc k) n (λ e. absurd (omega (arith, e, h)))) in
      omega (arith, whole, rest, no)),
)
  where
    last : row 1 (suc k) ≡ row 1 k ++ (suc k) ∷ []
    last = (let e : k + 1 ≡ suc k = omega arith in let f : 1 + k ≡ suc k = omega arith in ap (row 1) (sym e) ∙ row_snoc 1 k ∙ ap (λ m. row 1 k ++ m ∷ []) f)

    whole : times n (row 1 (suc k)) ≡ times n (row 1 k) + (cond (suc k == n) 1 0 + 0)
    whole = ap (times n) last ∙ times-append n (row 1 k) ((suc k) ∷ [])

    same : (suc k == n) ≡ true → k < n
    same t = grind (arith, t)

    by : (b : Bool) → (suc k == n) ≡ b → times n (row 1 (suc k)) ≤ 1
    by false isnt = (let no : ◌≡◌ {A = ℕ} (cond (suc k == n) 1 0) 0 = ap (λ c. cond c 1 0) isnt in let most = r.0 in omega (arith, whole, no, most))
    by true is = (let one : ◌≡◌ {A = ℕ} (cond (suc k == n) 1 0) 1 = ap (λ c. cond c 1 0) is in let rest = r.1 (same is) in omega (arith, whole, one, rest))

-- a row holds each number once at most, and none outside it
pub row_once : (k n : ℕ) → (times n (row 1 k) ≤ 1) × (k < n → times n (row 1 k) ≡ 0)
row_once zero n = (omega arith, λ h. refl)
row_once (suc k) n = row_more k n (row_once k n)

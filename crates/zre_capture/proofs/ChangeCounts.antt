-- How often a peer of the exercise has joined or left: of four messages the first and the last do.
use Rattle.std.proofs.Common.{◌≡◌, ◌≢◌, ℕ, zero, suc, ◌+◌, ◌*◌, ◌/◌, ◌%◌, ◌<◌, true, false, cond, refl, ap, ◌∙◌, arith}
use Rattle.std.specs.Prelude.{◌==◌, ◌||◌}
use Rattle.zre_capture.specs.Exercise.{is_change, changes}

changes_nothing : changes 0 ≡ 0
unfolding changes
changes_nothing = refl

one_more : (n : ℕ) → is_change n ≡ true → changes (suc n) ≡ changes n + 1
unfolding changes
one_more n e = ap (λ b. cond b (changes n + 1) (changes n)) e

no_more : (n : ℕ) → is_change n ≡ false → changes (suc n) ≡ changes n
unfolding changes
no_more n e = ap (λ b. cond b (changes n + 1) (changes n)) e

by_rest : (n r : ℕ) → n % 4 ≡ r → is_change n ≡ ((r == 0) || (r == 3))
by_rest n r e = ap (λ m. (m == 0) || (m == 3)) e

-- of four messages, so many by each
record Four (n c : ℕ) : Type 0 where
  joined : changes (suc n) ≡ c + 1
  shouted : changes (suc (suc n)) ≡ c + 1
  whispered : changes (suc (suc (suc n))) ≡ c + 1
  left : changes (suc (suc (suc (suc n)))) ≡ c + 2

four : (n q c : ℕ) → n ≡ 4 * q → changes n ≡ c → Four n c
four n q c e so_far =
    let a = one_more n (by_rest n 0 (omega arith)) in
    let b = no_more (suc n) (by_rest (suc n) 1 (omega arith)) in
    let d = no_more (suc (suc n)) (by_rest (suc (suc n)) 2 (omega arith)) in
    let f = one_more (suc (suc (suc n))) (by_rest (suc (suc (suc n))) 3 (omega arith)) in
    record {
      joined = omega (arith, a, so_far);
      shouted = omega (arith, a, b, so_far);
      whispered = omega (arith, a, b, d, so_far);
      left = omega (arith, a, b, d, f, so_far);
    }

by_fours : (q : ℕ) → changes (4 * q) ≡ 2 * q
by_fours zero = changes_nothing
by_fours (suc q) =
    let fs = four (4 * q) q (2 * q) refl (by_fours q) in
    let e : 4 * suc q ≡ suc (suc (suc (suc (4 * q)))) = omega arith in
    omega (arith, ap changes e, fs.left)

of_four : (k : ℕ) → Four (4 * (k / 4)) (2 * (k / 4))
of_four k = four (4 * (k / 4)) (k / 4) _ refl (by_fours (k / 4))

pub changes_by_leave : (k : ℕ) → k % 4 ≡ 3 → changes (suc k) ≡ k / 4 * 2 + 2
changes_by_leave k e =
    let n : suc k ≡ suc (suc (suc (suc (4 * (k / 4))))) = omega arith in
    omega (arith, ap changes n, (of_four k).left)

by_rest_of : (k r : ℕ) → k ≡ 4 * (k / 4) + r → r < 3 → changes (suc k) ≡ 2 * (k / 4) + 1
by_rest_of k zero e lt = let n : suc k ≡ suc (4 * (k / 4)) = omega arith in ap changes n ∙ (of_four k).joined
by_rest_of k (suc zero) e lt = let n : suc k ≡ suc (suc (4 * (k / 4))) = omega arith in ap changes n ∙ (of_four k).shouted
by_rest_of k (suc (suc zero)) e lt = let n : suc k ≡ suc (suc (suc (4 * (k / 4)))) = omega arith in ap changes n ∙ (of_four k).whispered
by_rest_of k (suc (suc (suc r))) e lt = absurd (omega arith)

pub changes_by_others : (k : ℕ) → k % 4 ≢ 3 → changes (suc k) ≡ k / 4 * 2 + 1
changes_by_others k other = omega (arith, by_rest_of k (k % 4) (omega arith) (omega arith))

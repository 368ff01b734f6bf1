-- The first octets that wait, as far as they may go.
use Rattle.std.proofs.Common.{◌≡◌, ◌≢◌, ℕ, zero, suc, ◌-◌, List, [], ◌∷◌, ◌++◌, length, take, refl, sym, ap, subst, ◌∙◌, arith}
use Rattle.std.specs.Prelude.{min}
use Rattle.zre_link.specs.Front.{IsFront}

none_taken : (n : ℕ) → take {A = ℕ} n [] ≡ []
none_taken zero = refl
none_taken (suc n) = refl

-- of a list that is joined to another
take_both : (n : ℕ) (xs ys : List ℕ) → take n (xs ++ ys) ≡ take (min n (length xs)) xs ++ take (n - length xs) ys
take_both n [] ys = ap (λ k. take k ys) (let e : n ≡ n - 0 = omega arith in e) ∙ ap (λ l. l ++ take (n - 0) ys) (sym (none_taken (min n 0)))
take_both zero (x ∷ xs) ys =
    ap (λ k. take k ys) (let e : 0 ≡ 0 - length (x ∷ xs) = omega arith in e)
    ∙ ap (λ k. take k (x ∷ xs) ++ take (0 - length (x ∷ xs)) ys) (let e : 0 ≡ min 0 (length (x ∷ xs)) = omega arith in e)
take_both (suc n) (x ∷ xs) ys =
    let less : n - length xs ≡ suc n - length (x ∷ xs) = omega arith in
    let fewer : suc (min n (length xs)) ≡ min (suc n) (length (x ∷ xs)) = omega arith in
    ap (λ l. x ∷ l) (take_both n xs ys) ∙ ap (λ k. (x ∷ take (min n (length xs)) xs) ++ take k ys) less
    ∙ ap (λ k. take k (x ∷ xs) ++ take (suc n - length (x ∷ xs)) ys) fewer

some_left : (may : ℕ) (whole part : List ℕ) → IsFront whole part → take may whole ≢ [] → take (min may (length part)) part ≢ []
some_left may [] [] f n z = n (none_taken may)
some_left may (x ∷ whole) [] f n z = f.some (λ e. cc) refl
some_left zero whole (p ∷ part) f n z = n refl
some_left (suc may) whole (p ∷ part) f n z =
    let more : min (suc may) (length (p ∷ part)) ≡ suc (min may (length part)) = omega arith in
    let e : take (suc (min may (length part))) (p ∷ part) ≡ [] = subst (λ k. take k (p ∷ part) ≡ []) more z in cc

-- where so many of all may go out
pub cut_front : (may size : ℕ) (whole part : List ℕ) → IsFront whole part → size ≡ min may (length part) → IsFront (take may whole) (take size part)
cut_front may size whole part f is =
    subst (λ k. IsFront (take may whole) (take k part)) (sym is) (record {
      rest = take (may - length part) f.rest;
      begins = ap (λ l. take may l) f.begins ∙ take_both may part f.rest;
      some = some_left may whole part f;
    })

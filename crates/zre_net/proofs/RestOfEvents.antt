-- What is left of all that was told.
use Rattle.std.proofs.Common.{◌≡◌, ℕ, zero, suc, ◌+◌, ◌≤◌, List, [], ◌∷◌, ◌++◌, length, drop, refl, sym, ap, ◌∙◌, subst, arith}
use Rattle.std.proofs.lemmas.List.{length-append}
use Rattle.zre_peer.specs.declared.event.Event.{Event}
use Rattle.zre_net.specs.Said.{IsRest}

drop_front : (n : ℕ) (xs ys : List (ℕ × Event)) → n ≤ length xs → drop n (xs ++ ys) ≡ drop n xs ++ ys
drop_front zero xs ys le = refl
drop_front (suc n) [] ys le = absurd (omega (arith, le))
drop_front (suc n) (x ∷ xs) ys le = drop_front n xs ys (omega (arith, le))

drop_whole : (n : ℕ) (xs : List (ℕ × Event)) → n ≤ length xs → (m : ℕ) → m ≡ n + length (drop n xs) → (m ≤ length xs) × ([] ≡ drop m xs)
drop_whole zero [] le m e = let z : 0 ≡ m = omega (arith, e) in (omega (arith, e), ap (λ k. drop k []) z)
drop_whole zero (x ∷ xs) le m e =
    let same : length xs ≡ 0 + length xs = omega arith in
    let r = drop_whole zero xs (omega arith) (length xs) same in
    let z : suc (length xs) ≡ m = omega (arith, e) in
    (omega (arith, e), r.1 ∙ ap (λ k. drop k (x ∷ xs)) z)
drop_whole (suc n) [] le m e = absurd (omega (arith, le))
drop_whole (suc n) (x ∷ xs) le m e =
    let r = drop_whole n xs (omega (arith, le)) (n + length (drop n xs)) refl in
    let few = r.0 in
    let z : suc (n + length (drop n xs)) ≡ m = omega (arith, e) in
    (omega (arith, e, few), r.1 ∙ ap (λ k. drop k (x ∷ xs)) z)

module _ (handed : ℕ) (all : List (ℕ × Event)) where
  -- more is told
  pub rest_more : (more left : List (ℕ × Event)) → IsRest handed all left → IsRest handed (all ++ more) (left ++ more)
  rest_more more left r = record {
    few = let f = r.few in let l = length-append all more in omega (arith, f, l);
    is = ap (λ es. es ++ more) r.is ∙ sym (drop_front handed all more r.few);
  }

  pub rest_told : (more left new : List (ℕ × Event)) → IsRest handed all left → IsRest handed (all ++ more) new → new ≡ left ++ more
  rest_told more left new r s = s.is ∙ drop_front handed all more r.few ∙ ap (λ es. es ++ more) (sym r.is)

pub rest_same : (a b : ℕ) (all left now : List (ℕ × Event)) → b ≡ a → now ≡ left → IsRest a all left → IsRest b all now
rest_same a b all left now e f r = subst (λ n. IsRest n all now) (sym e) (subst (IsRest a all) (sym f) r)

-- all is handed out
pub rest_out : (a b : ℕ) (all left now : List (ℕ × Event)) → IsRest a all left → b ≡ a + length left → now ≡ [] → IsRest b all now
rest_out a b all left now r e f =
    let w = drop_whole a all r.few b (e ∙ ap (λ es. a + length es) r.is) in
    record { few = w.0; is = f ∙ w.1 }

-- Octets are removed from the front of parts.
use Rattle.std.proofs.Common.{◌≡◌, ℕ, zero, suc, ◌+◌, ◌-◌, ◌<◌, ◌≤◌, List, [], ◌∷◌, ◌++◌, length, drop, All, sym, ap, subst, ◌∙◌, arith, length-append}
use Rattle.std.specs.List.{concat}
use Rattle.std.proofs.Math.Seq.{drop-append-add}
use Rattle.std.proofs.lemmas.List.{length-drop}
use Rattle.std.proofs.lemmas.List.Elements.{All-rest, All-cons}
use Rattle.zre_link.specs.Front.{HasOctets}

-- of a list that is joined to another
pub drop_both : (n : ℕ) (xs ys : List ℕ) → drop n xs ++ drop (n - length xs) ys ≡ drop n (xs ++ ys)
drop_both zero xs ys = ap (λ k. xs ++ drop k ys) (let e : 0 - length xs ≡ 0 = omega arith in e)
drop_both (suc n) [] ys = ap (λ k. drop k ys) (let e : suc n - 0 ≡ suc n = omega arith in e)
drop_both (suc n) (x ∷ xs) ys =
    ap (λ k. drop n xs ++ drop k ys) (let e : suc n - length (x ∷ xs) ≡ n - length xs = omega arith in e) ∙ drop_both n xs ys

-- Of the first parts these are left, and so many octets are still to be removed where so many were.
abbrev pub IsRemoving : List (List ℕ) → ℕ → List (List ℕ) → ℕ → Type 0
IsRemoving first count parts left =
    (drop left (concat parts) ≡ drop count (concat first))
    × (left - length (concat parts) ≡ count - length (concat first))
    × (All HasOctets first → All HasOctets parts)

-- the first part goes whole
pub part_gone : (first : List (List ℕ)) (part : List ℕ) (parts all : List (List ℕ)) (count left size : ℕ) → all ≡ part ∷ parts → size ≡ length part → size ≤ left
    → IsRemoving first count all left → IsRemoving first count parts (left - size)
part_gone first part parts all count left size is len whole was =
    let n : length part + (left - size) ≡ left = omega (arith, len, whole) in
    let all_is : concat all ≡ part ++ concat parts = ap concat is in
    let both : length (concat all) ≡ length part + length (concat parts) = ap length all_is ∙ length-append part (concat parts) in
    let less : left - size - length (concat parts) ≡ left - length (concat all) = omega (arith, len, whole, both) in (
      sym (drop-append-add part (concat parts) (left - size)) ∙ ap (λ k. drop k (part ++ concat parts)) n ∙ ap (λ l. drop left l) (sym all_is) ∙ was.0,
      less ∙ was.1,
      λ some. All-rest HasOctets part parts all is (was.2 some),
    )

-- and of the last of them the rest stays
pub part_begun : (first : List (List ℕ)) (part rest : List ℕ) (parts all now : List (List ℕ)) (count left : ℕ) → all ≡ part ∷ parts → left < length part → rest ≡ drop left part → now ≡ rest ∷ parts → IsRemoving first count all left
    → (concat now ≡ drop count (concat first)) × (0 ≡ count - length (concat first)) × (All HasOctets first → All HasOctets now)
part_begun first part rest parts all now count left is less rest_is now_is was =
    let all_is : concat all ≡ part ++ concat parts = ap concat is in
    let both : length (concat all) ≡ length part + length (concat parts) = ap length all_is ∙ length-append part (concat parts) in
    let none : 0 ≡ left - length part = omega (arith, less) in
    let nothing : 0 ≡ left - length (concat all) = omega (arith, less, both) in
    let some : HasOctets rest = let len = ap length rest_is ∙ length-drop left part in omega (arith, less, len) in (
      ap concat now_is ∙ ap (λ l. l ++ concat parts) rest_is ∙ ap (λ k. drop left part ++ drop k (concat parts)) none
          ∙ drop_both left part (concat parts) ∙ ap (λ l. drop left l) (sym all_is) ∙ was.0,
      nothing ∙ was.1,
      λ have. subst (λ l. All HasOctets l) (sym now_is) (All-cons HasOctets rest parts some (All-rest HasOctets part parts all is (was.2 have))),
    )

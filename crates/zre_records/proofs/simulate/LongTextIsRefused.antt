-- As much of a text as a schedule may have, and one octet, is refused and answered as the text is.
use Rattle.std.proofs.Common.{◌≡◌, ℕ, zero, suc, ◌-◌, min, List, [], ◌∷◌, ◌++◌, length, take, Option, Some, None, refl, sym, ap, ◌∙◌, arith, take_all}
use Rattle.std.specs.Prelude.{Result, Ok, Err, OnErr}
use Rattle.std.specs.Option.{option_or}
use Rattle.zre_net.specs.Answer.{bad_in, bad_move}
use Rattle.zre_net.specs.Reading.{bad_line, lines_in, moves_of}
use Rattle.zre_net.proofs.TooLongText.{as_short, is_short}
use Rattle.zre_records.specs.simulate.Simulate.{answer, answer_of}

-- a front of a text, and what may be kept of the next piece
pub keeps : (n : ℕ) (o piece : List ℕ) → take n o ++ take (n - length (take n o)) piece ≡ take n (o ++ piece)
keeps zero o piece = refl
keeps (suc n) [] piece = let e : suc n - 0 ≡ suc n = omega arith in ap (λ k. take k piece) e
keeps (suc n) (b ∷ o) piece =
    let e : suc n - length (b ∷ take n o) ≡ n - length (take n o) = omega arith in
    ap (λ k. b ∷ (take n o ++ take k piece)) e ∙ ap (λ xs. b ∷ xs) (keeps n o piece)

take-none : (n : ℕ) (o : List ℕ) → o ≡ [] → take n o ≡ []
take-none zero o e = refl
take-none (suc n) [] e = refl
take-none (suc n) (b ∷ o) e = absurd cc

-- no more than there is
pub at_most : (n : ℕ) (o : List ℕ) → take (min n (length o)) o ≡ take n o
at_most n [] = take-none (min n 0) [] refl ∙ sym (take-none n [] refl)
at_most zero (b ∷ o) = let e : min 0 (length (b ∷ o)) ≡ 0 = omega arith in ap (λ k. take k (b ∷ o)) e
at_most (suc n) (b ∷ o) = let e : min (suc n) (length (b ∷ o)) ≡ suc (min n (length o)) = omega arith in ap (λ k. take k (b ∷ o)) e ∙ ap (λ xs. b ∷ xs) (at_most n o)

whole : (o : List ℕ) → bad_line (take 16777217 o) ≡ None → take 16777217 o ≡ o
whole o none = let fits = is_short o (sym (as_short o) ∙ none) in take_all 16777217 o (omega (arith, fits))

pub as_kept : (o : List ℕ) → bad_in (take 16777217 o) ≡ bad_in o
as_kept o = by (bad_line (take 16777217 o)) refl
  where
    by : (r : Option ℕ) → bad_line (take 16777217 o) ≡ r → bad_in (take 16777217 o) ≡ bad_in o
    by None e = ap bad_in (whole o e)
    by (Some n) e = ap (λ r. option_or r (bad_move (moves_of (lines_in (take 16777217 o))))) e
        ∙ sym (ap (λ r. option_or r (bad_move (moves_of (lines_in o)))) (sym (as_short o) ∙ e))

pub as_answered : (o : List ℕ) → answer (take 16777217 o) ≡ answer o
as_answered o = by (bad_line (take 16777217 o)) refl
  where
    by : (r : Option ℕ) → bad_line (take 16777217 o) ≡ r → answer (take 16777217 o) ≡ answer o
    by None e = ap answer (whole o e)
    by (Some n) e = ap (λ r. answer_of (option_or r (bad_move (moves_of (lines_in (take 16777217 o))))) (take 16777217 o)) e
        ∙ sym (ap (λ r. answer_of (option_or r (bad_move (moves_of (lines_in o)))) o) (sym (as_short o) ∙ e))

-- what is kept with one piece more
pub fed_on : (o piece kept front new : List ℕ) (room k : ℕ) → kept ≡ take 16777217 o → room ≡ 16777217 - length kept → k ≡ min room (length piece) → front ≡ take k piece → new ≡ kept ++ front → new ≡ take 16777217 (o ++ piece)
fed_on o piece kept front new room k had left most cut more =
    more ∙ ap (λ xs. kept ++ xs) (cut ∙ ap (λ n. take n piece) most ∙ at_most room piece ∙ ap (λ n. take n piece) (left ∙ ap (λ xs. 16777217 - length xs) had))
    ∙ ap (λ xs. xs ++ take (16777217 - length (take 16777217 o)) piece) had ∙ keeps 16777217 o piece

pub on_err_too : {T E A C : Type 0} (r : Result T E) → OnErr r A → (A → C) → OnErr r C
on_err_too (Ok x) a f = tt
on_err_too (Err e) a f = f a

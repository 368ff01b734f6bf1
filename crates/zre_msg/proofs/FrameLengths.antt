-- How long frames are together.
use Rattle.std.proofs.Common.{◌≡◌, ℕ, ◌+◌, Bool, true, false, cond, ltb, List, [], ◌∷◌, ◌++◌, length, sum_by, suc, refl, sym, ap, ◌∙◌, arith}
use Rattle.std.specs.Int.{w64, to_be_bytes}
use Rattle.std.proofs.lemmas.List.{length-append}
use Rattle.std.proofs.lemmas.List.Sums.{sum_by-cons}
use Rattle.zre_values.specs.Framing.{frame, frames}

by_len : (b : Bool) (s t : ℕ) (body : List ℕ) → length (cond b (s ∷ length body ∷ body) (suc (suc s) ∷ (to_be_bytes w64 (length body) ++ body))) ≡ length (cond b (t ∷ length body ∷ body) (suc (suc t) ∷ (to_be_bytes w64 (length body) ++ body)))
by_len true s t body = refl
by_len false s t body = refl

-- a frame is as long with one flag as with the other
pub length-frame : (s t : ℕ) (body : List ℕ) → length (frame s body) ≡ length (frame t body)
length-frame s t body = by_len (ltb (length body) 256) s t body

abbrev one_length : List ℕ → ℕ
one_length body = length (frame 0 body)

-- frames are as long as each is
pub length-frames : (x : List ℕ) (more : List (List ℕ)) → length (frames (x ∷ more)) ≡ length (frame 0 x) + sum_by (λ body. length (frame 0 body)) more
length-frames x [] = omega arith
length-frames x (y ∷ more) =
    length-append (frame 1 x) (frames (y ∷ more))
    ∙ ap (λ (n : ℕ). n + length (frames (y ∷ more))) (length-frame 1 0 x)
    ∙ ap (λ (n : ℕ). length (frame 0 x) + n) (length-frames y more ∙ sym (sum_by-cons one_length y more))

-- Frames in their shortest form are read back.
use Rattle.std.proofs.Common.{◌≡◌, ℕ, zero, suc, ◌+◌, ◌≤◌, ◌<◌, ◌^◌, Bool, true, false, cond, ltb, lt-ltb, List, [], ◌∷◌, ◌++◌, ◌==◌, length, take, drop, refl, sym, ap, ◌∙◌, arith, length-append, append_assoc, append-nil}
use Rattle.std.specs.Int.{w64, to_be_bytes, from_be_bytes}
use Rattle.std.specs.List.{AllByRecursion}
use Rattle.std.proofs.lemmas.Nat.{from_be_bytes-to_be_bytes_8}
use Rattle.std.proofs.lemmas.List.{take_at, drop_at}
use Rattle.std.proofs.lemmas.Bool.{le-ltb, ne_eqb}
use Rattle.zre_values.specs.Framing.{frame, frames, FitsFrame}
use Rattle.zre_link.specs.Tail.{size_in, after_size, bodies_in, bodies_of}

cut : (most flags : ℕ) (o body rest : List ℕ) → size_in flags o ≡ length body → after_size flags o ≡ body ++ rest → bodies_in (suc most) (flags ∷ o) ≡ body ∷ bodies_in most rest
cut most flags o body rest size after =
    let ways : ℕ → List ℕ → List (List ℕ) = λ n l. take n l ∷ bodies_in most (drop n l) in
    ap (λ n. ways n (after_size flags o)) size ∙ ap (λ l. ways (length body) l) after
    ∙ ap (λ l. l ∷ bodies_in most (drop (length body) (body ++ rest))) (take_at body rest (length body) refl)
    ∙ ap (λ l. body ∷ bodies_in most l) (drop_at body rest (length body) refl)

-- the first of them
first_body : (most flags : ℕ) (body rest : List ℕ) → flags < 2 → FitsFrame body → bodies_in (suc most) (frame flags body ++ rest) ≡ body ∷ bodies_in most rest
first_body most flags body rest low fits = by (ltb (length body) 256)
  where
    size : List ℕ
    size = to_be_bytes w64 (length body)

    by : (b : Bool) → bodies_in (suc most) (cond b (flags ∷ length body ∷ body) (suc (suc flags) ∷ (size ++ body)) ++ rest) ≡ body ∷ bodies_in most rest
    by true =
        let less = lt-ltb flags 2 low in
        cut most flags (length body ∷ (body ++ rest)) body rest (rw less refl) (rw less refl)
    by false =
        let more = le-ltb (suc (suc flags)) 2 (omega arith) in
        let o = size ++ body ++ rest in
        let octets : o ≡ size ++ (body ++ rest) = append_assoc size body rest in
        let eight : take 8 o ≡ size = ap (λ l. take 8 l) octets ∙ take_at size (body ++ rest) 8 refl in
        let later : drop 8 o ≡ body ++ rest = ap (λ l. drop 8 l) octets ∙ drop_at size (body ++ rest) 8 refl in
        cut most (suc (suc flags)) o body rest (rw more (ap (λ l. from_be_bytes w64 l) eight ∙ from_be_bytes-to_be_bytes_8 (length body) fits)) (rw more later)

-- all of them
all_bodies : (most : ℕ) (bodies : List (List ℕ)) → length bodies ≤ most → AllByRecursion FitsFrame bodies → bodies_in most (frames bodies) ≡ bodies
all_bodies zero [] few fit = refl
all_bodies zero (b ∷ bs) few fit = absurd (omega (arith, few))
all_bodies (suc most) [] few fit = refl
all_bodies (suc most) (b ∷ []) few fit =
    ap (λ l. bodies_in (suc most) l) (sym (append-nil (frame 0 b))) ∙ first_body most 0 b [] (omega arith) fit.0 ∙ ap (λ l. b ∷ l) (none most)
  where
    none : (n : ℕ) → bodies_in n [] ≡ []
    none zero = refl
    none (suc n) = refl
all_bodies (suc most) (b ∷ c ∷ bs) few fit =
    first_body most 1 b (frames (c ∷ bs)) (omega arith) fit.0 ∙ ap (λ l. b ∷ l) (all_bodies most (c ∷ bs) (omega (arith, few)) fit.1)

-- ---- frames have more octets than their bodies

body_within : (flags : ℕ) (body : List ℕ) → length body + 1 ≤ length (frame flags body)
body_within flags body = by (ltb (length body) 256)
  where
    by : (b : Bool) → length body + 1 ≤ length (cond b (flags ∷ length body ∷ body) (suc (suc flags) ∷ (to_be_bytes w64 (length body) ++ body)))
    by true = omega arith
    by false = omega (arith, length-append (to_be_bytes w64 (length body)) body)

counts : (bodies : List (List ℕ)) → length bodies ≤ length (frames bodies)
counts [] = omega arith
counts (b ∷ []) = omega (arith, body_within 0 b)
counts (b ∷ c ∷ bs) = omega (arith, body_within 1 b, length-append (frame 1 b) (frames (c ∷ bs)), counts (c ∷ bs))

fitting : (bodies : List (List ℕ)) → length (frames bodies) < 2 ^ 64 → AllByRecursion FitsFrame bodies
fitting [] few = tt
fitting (b ∷ []) few = (omega (arith, body_within 0 b, few), tt)
fitting (b ∷ c ∷ bs) few =
    let both = length-append (frame 1 b) (frames (c ∷ bs)) in
    (omega (arith, body_within 1 b, both, few), fitting (c ∷ bs) (omega (arith, both, few)))

-- octets that are the frames of some bodies have those bodies
pub bodies_back : (octets : List ℕ) (bodies : List (List ℕ)) → octets ≡ frames bodies → length octets < 2 ^ 64 → bodies_of octets ≡ bodies
bodies_back octets bodies is few =
    let small : length (frames bodies) < 2 ^ 64 = omega (arith, ap (λ (l : List ℕ). length l) is, few) in
    ap bodies_of is ∙ all_bodies (length (frames bodies)) bodies (counts bodies) (fitting bodies small)

-- there are no octets where there are no bodies
pub none_as : (bodies : List (List ℕ)) → (length (frames bodies) == 0) ≡ (length bodies == 0)
none_as [] = refl
none_as (b ∷ bs) =
    ne_eqb (length (frames (b ∷ bs))) 0 (λ e. absurd (omega (arith, counts (b ∷ bs), e))) ∙ sym (ne_eqb (length (b ∷ bs)) 0 (λ e. absurd (omega (arith, e))))

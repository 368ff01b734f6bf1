-- What the tables hold, added up row by row.
use Rattle.std.proofs.Common.{◌≡◌, ℕ, ◌+◌, ◌-◌, ◌^◌, ◌<◌, ◌≤◌, min, List, [], ◌∷◌, ◌++◌, length, take, Some, ap, ◌∙◌, arith, sum_by, subst}
use Rattle.std.proofs.lemmas.List.{take_more}
use Rattle.std.proofs.lemmas.List.Sums.{sum_by-append, sum_by-cons}
use Rattle.std.proofs.lemmas.Option.{get_or_from_slice_get}
use Rattle.std.specs.List.{AllByRecursion, slice_get}
use Rattle.zre_tables.specs.Holding.{capped}

-- one member more
pub sum_next : {A : Type 0} (f : A → ℕ) (xs : List A) (i : ℕ) (x : A) → i < length xs → slice_get xs i ≡ Some x → sum_by f (take (i + 1) xs) ≡ sum_by f (take i xs) + f x
sum_next f xs i x low e =
    let more : take (i + 1) xs ≡ take i xs ++ x ∷ [] = take_more xs i x low ∙ ap (λ y. take i xs ++ y ∷ []) (get_or_from_slice_get xs i x x e) in
    ap (sum_by f) more ∙ sum_by-append f (take i xs) (x ∷ []) ∙ omega (arith, sum_by-cons f x [])

-- rows are left, of each of which Q tells, and with what they hold the sum is the total
abbrev pub AddUp : {V : Type 0} → (V → Type 0) → (V → ℕ) → List (ℕ × V) → ℕ → ℕ → Type 0
AddUp {V} Q f es sum total = AllByRecursion (λ (e : ℕ × V). Q e.1) es × (sum ≤ 2 ^ 64 - 1) × (capped (sum + sum_by (λ (e : ℕ × V). f e.1) es) ≡ capped total)

pub one_row : {V : Type 0} (Q : V → Type 0) (f : V → ℕ) (es rest : List (ℕ × V)) (l : ℕ) (k : V) (sum new total size : ℕ) → es ≡ (l, k) ∷ rest → (Q k → capped size ≡ capped (f k)) → new ≡ min (sum + size) (2 ^ 64 - 1)
    → AddUp Q f es sum total → AddUp Q f rest new total
one_row {V} Q f es rest l k sum new total size e is n a =
    let b : AddUp Q f ((l, k) ∷ rest) sum total = subst (λ (xs : List (ℕ × V)). AddUp Q f xs sum total) e a in
    let s : capped size ≡ capped (f k) = is b.0.0 in
    (b.0.1, omega (arith, n), omega (arith, n, s, b.2, sum_by-cons (λ (x : ℕ × V). f x.1) (l, k) rest))

pub no_row_left : {V : Type 0} (Q : V → Type 0) (f : V → ℕ) (es : List (ℕ × V)) (sum total : ℕ) → es ≡ [] → AddUp Q f es sum total → sum ≡ capped total
no_row_left {V} Q f es sum total e a =
    let b : AddUp Q f [] sum total = subst (λ (xs : List (ℕ × V)). AddUp Q f xs sum total) e a in
    omega (arith, b.1, b.2)

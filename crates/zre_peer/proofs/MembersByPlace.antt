-- Going over members by their places.
use Rattle.std.proofs.Common.{◌≡◌, ℕ, ◌+◌, ◌<◌, ◌≤◌, Bool, true, false, ◌&&◌, List, [], ◌∷◌, ◌++◌, length, drop, Some, map, sym, ap, ◌∙◌, leb, append_assoc}
use Rattle.std.specs.Prelude.{slice_get}
use Rattle.std.specs.List.{list_all}
use Rattle.std.proofs.lemmas.Bool.{le-leb, lt-leb}
use Rattle.std.proofs.lemmas.List.{at_drop_more}
use Rattle.std.proofs.lemmas.Option.{get_or_from_slice_get, slice_get_within}

-- a function of what is left, one member on
pub at_next : {X Y : Type 0} (f : List X → Y) (xs : List X) (i : ℕ) (x : X) → slice_get xs i ≡ Some x → f (drop i xs) ≡ f (x ∷ drop (i + 1) xs)
at_next f xs i x e = at_drop_more f xs i x (slice_get_within xs i x e) ∙ ap (λ y. f (y ∷ drop (i + 1) xs)) (get_or_from_slice_get xs i x x e)

abbrev is_short : List ℕ → Bool
is_short g = leb (length g) 255

pub short_next : (groups : List (List ℕ)) (i : ℕ) (g : List ℕ) → slice_get groups i ≡ Some g → length g ≤ 255 → list_all is_short (drop i groups) ≡ list_all is_short groups → list_all is_short (drop (i + 1) groups) ≡ list_all is_short groups
short_next groups i g e short so_far =
    let test : is_short g ≡ true = le-leb _ _ short in
    sym (at_next (list_all is_short) groups i g e ∙ ap (λ b. b && list_all is_short (drop (i + 1) groups)) test) ∙ so_far

pub long_here : (groups : List (List ℕ)) (i : ℕ) (g : List ℕ) → slice_get groups i ≡ Some g → 255 < length g → list_all is_short (drop i groups) ≡ list_all is_short groups → false ≡ list_all is_short groups
long_here groups i g e long so_far =
    let test : is_short g ≡ false = lt-leb _ _ long in
    sym (at_next (list_all is_short) groups i g e ∙ ap (λ b. b && list_all is_short (drop (i + 1) groups)) test) ∙ so_far

-- what is appended for a member, and for those after it
pub mapped_next : {X Y : Type 0} (f : X → Y) (out now whole : List Y) (xs : List X) (i : ℕ) (x : X) → slice_get xs i ≡ Some x → now ≡ out ++ f x ∷ [] → out ++ map f (drop i xs) ≡ whole → now ++ map f (drop (i + 1) xs) ≡ whole
mapped_next f out now whole xs i x e is so_far =
    ap (λ r. r ++ map f (drop (i + 1) xs)) is ∙ append_assoc out (f x ∷ []) (map f (drop (i + 1) xs)) ∙ sym (ap (λ r. out ++ r) (at_next (map f) xs i x e)) ∙ so_far

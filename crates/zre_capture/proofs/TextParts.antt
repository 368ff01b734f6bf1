-- Texts and their parts.
use Rattle.std.proofs.Common.{◌≡◌, ℕ, ◌==◌, Bool, true, false, List, [], ◌∷◌, ◌++◌, refl, sym, ap, ◌∙◌}
use Rattle.std.specs.List.{list_any}
use Rattle.std.proofs.lemmas.Bool.{false_from_ne_true}
use Rattle.std.proofs.lemmas.List.Folds.{list_any_at}
use Rattle.std.proofs.lemmas.List.Splits.{slice_split_at, slice_split_none}
use Rattle.std.proofs.lemmas.Bool.{eq-eqb}
use Rattle.std.specs.Str.{bytes_eq}
use Rattle.std.proofs.lemmas.Slice.Eq.{bytes_eq-Decides}
use Rattle.zre_capture.specs.Parts.{between, Lacks}

-- a text with the octet, cut at the first
pub between-cut : (o : ℕ) (text front after : List ℕ) → text ≡ front ++ (o ∷ after) → Lacks o front → between o text ≡ front ∷ between o after
between-cut o text front after e none = ap (between o) e ∙ slice_split_at (λ b. b == o) front o after none (eq-eqb o o refl)

-- a text without it
pub between-whole : (o : ℕ) (text : List ℕ) → Lacks o text → between o text ≡ text ∷ []
between-whole o text none = slice_split_none (λ b. b == o) text none

pub lacks-from_any : (o : ℕ) (text : List ℕ) → list_any (λ b. b == o) text ≡ false → Lacks o text
lacks-from_any o text none = λ k d within. false_from_ne_true _ (λ is.
    let there : list_any (λ b. b == o) text ≡ true = list_any_at (λ b. b == o) text k d within is in
    absurd cc)

-- what a comparison of texts tells
pub equal : (xs ys zs : List ℕ) (b : Bool) → b ≡ bytes_eq xs ys → ys ≡ zs → b ≡ true → xs ≡ zs
equal xs ys zs b e same is = (bytes_eq-Decides xs ys).0 (sym e ∙ is) ∙ same

pub unequal : (xs ys zs : List ℕ) (b : Bool) → b ≡ bytes_eq xs ys → ys ≡ zs → b ≡ false → xs ≡ zs → ⊥
unequal xs ys zs b e same isnt both =
    let is : bytes_eq xs ys ≡ true = (bytes_eq-Decides xs ys).1 (both ∙ sym same) in
    absurd cc

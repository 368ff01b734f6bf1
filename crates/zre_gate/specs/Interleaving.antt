-- Lists that are merged into one.
use Rattle.std.specs.Prelude.{◌≡◌, ℕ, ◌≤◌, ◌==◌, cond, List, [], ◌∷◌, map, All}
use Rattle.zre_actor.specs.Commands.{times}

-- those with this name, in order
abbrev pub of_name : {X : Type 0} → ℕ → List (ℕ × X) → List X
of_name n [] = []
of_name n (x ∷ xs) = cond (x.0 == n) (x.1 ∷ of_name n xs) (of_name n xs)

-- a list is an interleaving of others: each of its members is given the name of one of them, and those with the name of
-- a list are that list, in order
pub record IsInterleaving {X : Type 0} (lists : List (List X)) (whole : List X) : Type 0 where
  pub names : List ℕ
  pub apart : (n : ℕ) → times n names ≤ 1
  pub named : List (ℕ × X)
  pub are_whole : map (λ x. x.1) named ≡ whole
  pub are_lists : map (λ n. of_name n named) names ≡ lists
  pub known : All (λ x. 1 ≤ times x.0 names) named

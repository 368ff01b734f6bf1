-- Lists that begin others, and whether each of some lists can be given a place of its own among others that it begins.
use Rattle.std.specs.Prelude.{◌≡◌, ℕ, ◌+◌, ◌<◌, Bool, true, false, ◌&&◌, List, [], ◌∷◌, ◌++◌, Option, Some, None}
use Rattle.std.specs.Prelude.{if◌then◌else◌, length, nat_lt}
use Rattle.std.specs.List.{AllByRecursion, count_by}

module _ {A : Type 0} (same : A → A → Bool) where
  -- whether the second list begins with the first
  abbrev pub begins : List A → List A → Bool
  begins [] ys = true
  begins (x ∷ xs) [] = false
  begins (x ∷ xs) (y ∷ ys) = same x y && begins xs ys

  -- how many of these lists begin with xs
  abbrev pub begun : List A → List (List A) → ℕ
  begun xs lists = count_by (begins xs) lists

  -- xs has a place among these lists, one that begins with it, and the lists without that place leave what is said
  pub record HasPlace (xs : List A) (lists : List (List A)) (Leaves : List (List A) → Type 0) : Type 0 where
    pub before : List (List A)
    pub place : List A
    pub later : List (List A)
    pub stands : lists ≡ before ++ place ∷ later
    pub is_begun : begins xs place ≡ true
    pub leaves : Leaves (before ++ later)

  -- each of the first lists has a place of its own among the others, one that begins with it
  abbrev pub Fits : List (List A) → List (List A) → Type 0
  Fits [] lists = Unit {0}
  Fits (xs ∷ xss) lists = HasPlace xs lists (Fits xss)

  -- more of the first lists begin with xs than of the others
  abbrev pub is_short : (firsts others : List (List A)) → List A → Bool
  is_short firsts others xs = nat_lt (begun xs others) (begun xs firsts)

  abbrev pub NoneIsShort : List (List A) → List (List A) → Type 0
  NoneIsShort firsts others = AllByRecursion (λ xs. is_short firsts others xs ≡ false) firsts

  -- the first of the first lists for which this is so: which it is, counted from 1, and both numbers
  pub record IsFirstShort (firsts others : List (List A)) (number more fewer : ℕ) : Type 0 where
    pub before : List (List A)
    pub list : List A
    pub later : List (List A)
    pub stands : firsts ≡ before ++ list ∷ later
    pub number_is : number ≡ length before + 1
    pub more_is : more ≡ begun list firsts
    pub fewer_is : fewer ≡ begun list others
    pub exceeds : fewer < more
    pub none_earlier : AllByRecursion (λ xs. is_short firsts others xs ≡ false) before

  -- the same as a function: these are the last of the first lists, from this number on
  abbrev pub first_from : ℕ → (firsts others last : List (List A)) → Option (ℕ × ℕ × ℕ)
  first_from number firsts others [] = None
  first_from number firsts others (xs ∷ xss) =
      if is_short firsts others xs then Some (number, begun xs firsts, begun xs others)
      else first_from (number + 1) firsts others xss

  abbrev pub first_short : (firsts others : List (List A)) → Option (ℕ × ℕ × ℕ)
  first_short firsts others = first_from 1 firsts others firsts

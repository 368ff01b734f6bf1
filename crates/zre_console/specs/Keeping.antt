-- What a recorder holds.
use Rattle.std.specs.Prelude.{◌≡◌, ℕ, Bool, true, List, [], Option, option_map}
use Rattle.std.specs.Io.KnownBytes.{Keeps, Appends}
use Rattle.zre_values.specs.declared.settings.Settings.{Settings as Config}
use Rattle.zre_capture.specs.Heads.{head}
use Rattle.zre_capture.specs.declared.format.Format.TheVariants.{Second}

-- the head of the capture of a node with these settings
abbrev pub head_of : Config → List ℕ
head_of g = head Second g

-- a recorder was begun under a name, emptied, and this head was put, where it tells what it holds
pub record Begins (top name : List ℕ) (begun : Bool) (kept kept' named named' : Option (List ℕ)) : Type 0 where
  pub is_begun : begun ≡ true
  pub is_kept : Appends (option_map (λ _. []) kept) kept' top
  pub is_named : Keeps (option_map (λ _. name) named) named'

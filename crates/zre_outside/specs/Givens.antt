-- What was given away.
use Rattle.std.specs.Prelude.{List, [], ◌∷◌, ◌++◌}
use Rattle.zre_outside.specs.declared.given.Given.{Given, Nothing, More'}

-- the values, in the order in which they were given
abbrev pub given_in : {T : Type 0} → Given T → List T
given_in Nothing = []
given_in (More' place earlier last) = given_in earlier ++ last.value ∷ []

-- What is said, as octets. The octets of no message begin those of another one.
use Rattle.std.specs.Prelude.{ℕ, List, [], ◌∷◌, ◌++◌, if◌then◌else◌, nat_lt, flat_map}
use Rattle.zre_msg.specs.declared.message.Body.{Body}
use Rattle.zre_msg.specs.declared.message.Body.TheVariants.{Whisper, Shout}

-- octets below 2 stand after a 1
abbrev pub escaped : ℕ → List ℕ
escaped b = if nat_lt b 2 then 1 ∷ b ∷ [] else b ∷ []

-- so a 0 alone ends a list of octets
abbrev pub part : List ℕ → List ℕ
part octets = flat_map escaped octets ++ 0 ∷ []

-- and a 1 with a 2 after it ends a list of them
abbrev pub parts : List (List ℕ) → List ℕ
parts frames = flat_map part frames ++ 1 ∷ 2 ∷ []

-- what is said to a group begins with a 1 and a 3; what isn't said has no octets
abbrev pub octets_of : Body → List ℕ
octets_of (Whisper content) = parts content
octets_of (Shout group content) = 1 ∷ 3 ∷ part group ++ parts content
octets_of _ = []

-- what is said one after another
abbrev pub code : List Body → List ℕ
code bodies = flat_map octets_of bodies

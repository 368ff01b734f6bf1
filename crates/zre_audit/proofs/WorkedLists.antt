-- Worked lists: which run is one too many for the links, written down by hand.
use Rattle.std.specs.Prelude.{◌≡◌, [], ◌∷◌, Some, None, codes}
use Rattle.std.proofs.Common.{refl}
use Rattle.zre_msg.specs.declared.message.Body.{Body}
use Rattle.zre_msg.specs.declared.message.Body.TheVariants as body
use Rattle.zre_audit.specs.Exchanged.{is_same_said}
use Rattle.zre_audit.specs.Prefixes.{first_short}

abbrev x : Body
x = body.Whisper (codes "x" ∷ [])

abbrev y : Body
y = body.Shout (codes "g") (codes "x" ∷ [])

-- a run needs a link of its own
two_on_one : first_short is_same_said ((x ∷ []) ∷ (x ∷ []) ∷ []) ((x ∷ y ∷ []) ∷ []) ≡ Some (1, 2, 1)
two_on_one = refl

two_on_two : first_short is_same_said ((x ∷ []) ∷ (x ∷ []) ∷ []) ((x ∷ y ∷ []) ∷ (x ∷ []) ∷ []) ≡ None
two_on_two = refl

-- what was heard begins what was put, and nothing else does
other_way : first_short is_same_said ((x ∷ y ∷ []) ∷ []) ((x ∷ []) ∷ []) ≡ Some (1, 1, 0)
other_way = refl

-- a shout isn't a whisper of the same content
shout_is_another : first_short is_same_said ((x ∷ []) ∷ []) ((y ∷ []) ∷ []) ≡ Some (1, 1, 0)
shout_is_another = refl

-- the second run is the first that is one too many
second_is_short : first_short is_same_said ((x ∷ []) ∷ (y ∷ []) ∷ []) ((x ∷ []) ∷ []) ≡ Some (2, 1, 0)
second_is_short = refl

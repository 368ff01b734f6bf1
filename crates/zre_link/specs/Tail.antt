-- The frames in octets that are nothing but frames in their shortest form.
use Rattle.std.specs.Prelude.{ℕ, zero, suc, nat_lt, List, [], ◌∷◌, length, take, drop, get_or, if◌then◌else◌}
use Rattle.std.specs.Int.{w64, from_be_bytes}
use Rattle.zre_link.specs.declared.tail.Spelled.{Spelled}
use Rattle.zre_link.specs.declared.tail.Spelled.TheVariants.{Copied, Shared}

-- the size of the body, by the flags and what stands after them: one octet of a short frame, eight of a long one
abbrev pub size_in : ℕ → List ℕ → ℕ
size_in flags o = if nat_lt flags 2 then get_or o 0 0 else from_be_bytes w64 (take 8 o)

-- what stands after the size
abbrev pub after_size : ℕ → List ℕ → List ℕ
after_size flags o = if nat_lt flags 2 then drop 1 o else drop 8 o

-- the bodies of these frames, so many at most
abbrev pub bodies_in : ℕ → List ℕ → List (List ℕ)
bodies_in zero o = []
bodies_in (suc most) [] = []
bodies_in (suc most) (flags ∷ o) =
    take (size_in flags o) (after_size flags o) ∷ bodies_in most (drop (size_in flags o) (after_size flags o))

-- the bodies of these frames
abbrev pub bodies_of : List ℕ → List (List ℕ)
bodies_of o = bodies_in (length o) o

-- the octets that are held of a tail
abbrev pub spelled_octets : Spelled → List ℕ
spelled_octets (Copied o) = o
spelled_octets (Shared o) = o

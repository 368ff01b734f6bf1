-- Frames of ZMTP in their shortest form (RFC 23, traffic): flags, size, body.
use Rattle.std.specs.Prelude.{ℕ, suc, ◌<◌, ◌^◌, nat_lt, List, [], ◌∷◌, ◌++◌, length, if◌then◌else◌}
use Rattle.std.specs.Int.{w64, to_be_bytes}

-- a frame with these flags and one octet of size; where the body has more than 255 octets, the long flag and eight
-- octets of size
abbrev pub frame : ℕ → List ℕ → List ℕ
frame flags body =
    if nat_lt (length body) 256 then flags ∷ length body ∷ body
    else suc (suc flags) ∷ (to_be_bytes w64 (length body) ++ body)

-- the frames of a message: each but the last says that more follow
abbrev pub frames : List (List ℕ) → List ℕ
frames [] = []
frames (body ∷ []) = frame 0 body
frames (body ∷ next ∷ more) = frame 1 body ++ frames (next ∷ more)

-- a body whose length fits the size of a long frame
abbrev pub FitsFrame : List ℕ → Type 0
FitsFrame body = length body < 2 ^ 64

-- The clock, the octets of a connection, and what an entry completes of what they say.
use Rattle.std.specs.Prelude.{ℕ, max, Bool, false, List, [], ◌∷◌, ◌++◌, if◌then◌else◌, nat_eq, length, drop}
use Rattle.zre_values.specs.declared.peer_id.PeerId.{PeerId}
use Rattle.zre_outside.specs.declared.entry.Input.{Input}
use Rattle.zre_outside.specs.declared.entry.Input.TheVariants as input
use Rattle.zre_mailbox.specs.Talk.{Said, talk}
use Rattle.zre_journal.specs.Chronicle.{Mark, Comes, Opens, ever}

-- the greatest reading so far, 0 before any
abbrev pub clock : List Mark → ℕ
clock [] = 0
clock (Comes e ∷ H) = max e.at (clock H)
clock (_ ∷ H) = clock H

abbrev pub opens : ℕ → Mark → Bool
opens c (Opens d) = nat_eq c d
opens c _ = false

-- c was opened before
abbrev pub was_opened : ℕ → List Mark → Bool
was_opened c H = ever (opens c) H

abbrev pub piece_of : ℕ → Input → List ℕ
piece_of c (input.Piece d octets) = if nat_eq c d then octets else []
piece_of c _ = []

-- all pieces of c that have come since it was opened, joined
abbrev pub bytes : ℕ → List Mark → List ℕ
bytes c [] = []
bytes c (Comes e ∷ H) = bytes c H ++ (if was_opened c H then piece_of c e.input else [])
bytes c (_ ∷ H) = bytes c H

-- what is newly said on c with the entry that came last: H is the chronicle before it, K with it
abbrev pub newly_completed : PeerId → ℕ → List Mark → List Mark → List Said
newly_completed own c H K = drop (length (talk own (bytes c H))) (talk own (bytes c K))

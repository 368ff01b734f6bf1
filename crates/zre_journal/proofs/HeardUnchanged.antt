-- Which marks leave what was heard on a connection as it is.
-- a mark that neither opens d, nor comes of what it says
use Rattle.std.proofs.Common.{ℕ, Bool, false, eqb, List, ◌≡◌}
use Rattle.std.specs.List.{AllByRecursion}
use Rattle.zre_journal.specs.Chronicle.{Mark, Comes, Opens, Identifies, Starts, Counts}
use Rattle.zre_outside.specs.declared.entry.Input.{Input}
use Rattle.zre_outside.specs.declared.entry.Input.TheVariants as input

abbrev pub Quiet : ℕ → Mark → Type 0
Quiet d (Comes e) = ⊥
Quiet d (Opens c) = eqb d c ≡ false
Quiet d (Identifies c p) = eqb d c ≡ false
Quiet d (Starts c l m) = eqb d c ≡ false
Quiet d (Counts c l m) = eqb d c ≡ false
Quiet d _ = Unit {0}

abbrev pub AreQuiet : ℕ → List Mark → Type 0
AreQuiet d hs = AllByRecursion (Quiet d) hs

-- the entry opens d, or has octets of it
abbrev pub is_of : ℕ → Input → Bool
is_of d (input.Opened c) = eqb d c
is_of d (input.Piece c o) = eqb d c
is_of d _ = false

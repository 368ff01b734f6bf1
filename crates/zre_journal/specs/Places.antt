-- The places of a journal: an entry as a whole, or one of the things that its octets say, at a moment of the chronicle.
use Rattle.std.specs.Prelude.{◌≡◌, ℕ, Bool, true, false, List, ◌∷◌, ◌++◌}
use Rattle.zre_outside.specs.declared.entry.Entry.{Entry}
use Rattle.zre_outside.specs.declared.entry.Input.{Input}
use Rattle.zre_outside.specs.declared.entry.Input.TheVariants as input
use Rattle.zre_mailbox.specs.Talk.{Said}
use Rattle.zre_values.specs.declared.settings.Settings.{Settings as Config}
use Rattle.zre_journal.specs.Arrivals.{at_places}
use Rattle.zre_journal.specs.Chronicle.{Mark, Comes, after}
use Rattle.zre_journal.specs.Events.{chronicle}
use Rattle.zre_journal.specs.Happens.{has_stopped}
use Rattle.zre_journal.specs.Heard.{newly_completed}

-- the entry brings octets of a connection, whose places are what they say
abbrev pub is_piece : Input → Bool
is_piece (input.Piece c o) = true
is_piece _ = false

-- An entry of the journal J, before a stop.
pub record IsEntry (g : Config) (J earlier : List Entry) (entry : Entry) (later : List Entry) : Type 0 where
  pub in_journal : J ≡ earlier ++ entry ∷ later
  pub going : has_stopped (chronicle g earlier) ≡ false

-- This is said on c in the journal J: an entry brings octets of c, with which it is whole, and K is the chronicle after
-- all that they said before it.
pub record Arrives (g : Config) (J : List Entry) (c : ℕ) (one : Said) (K : List Mark) : Type 0 where
  pub earlier : List Entry
  pub entry : Entry
  pub later : List Entry
  pub is_entry : IsEntry g J earlier entry later
  pub octets : List ℕ
  pub is_piece : entry.input ≡ input.Piece c octets
  pub said : List Said
  pub more : List Said
  pub completes : newly_completed g.id c (chronicle g earlier) (Comes entry ∷ chronicle g earlier) ≡ said ++ one ∷ more
  pub moment : K ≡ after (at_places g c said (Comes entry ∷ chronicle g earlier)) (Comes entry ∷ chronicle g earlier)

-- A piece that is cut in two.
use Rattle.std.specs.Prelude.{◌≡◌, ℕ, Bool, true, false, not, List, [], ◌∷◌, ◌++◌}
use Rattle.std.specs.List.{filter}
use Rattle.zre_outside.specs.declared.act.Act.{Act}
use Rattle.zre_outside.specs.declared.act.Act.TheVariants as act
use Rattle.zre_outside.specs.declared.entry.Entry.{Entry}
use Rattle.zre_outside.specs.declared.entry.Input.TheVariants as input
use Rattle.zre_values.specs.declared.settings.Settings.{Settings as Config}
use Rattle.zre_journal.specs.Chronicle.{Mark, Comes}
use Rattle.zre_journal.specs.Events.{chronicle, events, acts}
use Rattle.zre_journal.specs.Heard.{clock, bytes}

abbrev pub is_entry : Mark → Bool
is_entry (Comes e) = true
is_entry _ = false

-- what came about, without the entries at which it did
abbrev pub but_entries : List Mark → List Mark
but_entries H = filter (λ h. not (is_entry h)) H

abbrev pub is_offer : Act → Bool
is_offer (act.Offer l) = true
is_offer _ = false

-- the acts but for the offers
abbrev pub but_offers : List Act → List Act
but_offers done = filter (λ a. not (is_offer a)) done

-- an entry with octets of c at this reading
abbrev pub piece : ℕ → ℕ → List ℕ → Entry
piece at c octets = record { at = at; input = input.Piece c octets }

-- Octets that come after J in two pieces at the same reading, or in one: the same comes about and is told; the same is
-- done but for offers, which are made at the end of each entry; and the clock and the octets of each connection are
-- the same.
pub record IsSameCut (g : Config) (J : List Entry) (at c : ℕ) (a b : List ℕ) : Type 0 where
  pub happened : but_entries (chronicle g (J ++ piece at c a ∷ piece at c b ∷ [])) ≡ but_entries (chronicle g (J
      ++ piece at c (a ++ b) ∷ []))
  pub told : events g (J ++ piece at c a ∷ piece at c b ∷ []) ≡ events g (J ++ piece at c (a ++ b) ∷ [])
  pub done : but_offers (acts g (J ++ piece at c a ∷ piece at c b ∷ [])) ≡ but_offers (acts g (J
      ++ piece at c (a ++ b) ∷ []))
  pub clock_is : clock (chronicle g (J ++ piece at c a ∷ piece at c b ∷ [])) ≡ clock (chronicle g (J
      ++ piece at c (a ++ b) ∷ []))
  pub octets_are : (d : ℕ)
      → bytes d (chronicle g (J ++ piece at c a ∷ piece at c b ∷ [])) ≡ bytes d (chronicle g (J
      ++ piece at c (a ++ b) ∷ []))

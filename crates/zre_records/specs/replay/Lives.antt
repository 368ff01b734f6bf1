-- What lives only once its settings are told.
use Rattle.std.specs.Prelude.{◌≡◌, ℕ, Bool, true, false, List, [], Option, Some, None, IfSome, if◌then◌else◌}
use Rattle.zre_values.specs.Settings.{is_valid}
use Rattle.zre_values.specs.declared.settings.Settings.{Settings}
use Rattle.zre_node.specs.declared.node.Node.{Node}
use Rattle.zre_node.specs.Journal.{StandsFor}
use Rattle.zre_outside.specs.declared.entry.Entry.{Entry}
use Rattle.zre_records.specs.replay.Taken.{Took}

-- there is something exactly where settings are told: then this holds of it with them, and else that
abbrev pub IfTold : {N : Type 0} → (Settings → N → Type 0) → (nothing : Type 0) → Option Settings → Option N → Type 0
IfTold holds nothing None None = nothing
IfTold holds nothing None (Some n) = ⊥
IfTold holds nothing (Some s) None = ⊥
IfTold holds nothing (Some s) (Some n) = holds s n

-- what is made of the settings that are told stands for this journal; there is none before they are
abbrev pub Made : {N : Type 0} → (Settings → List Entry → N → Type 0) → Option Settings → List Entry → Option N → Type 0
Made stands told J n = IfTold (λ s m. stands s J m) (Unit {0}) told n

-- so a node is
abbrev pub Lives : Option Settings → List Entry → Option Node → Type 0
Lives told J n = Made (λ g K m. StandsFor g K m) told J n

-- the settings of what isn't made yet, where valid ones are told
abbrev pub due_of : Option Settings → Option Settings
due_of None = None
due_of (Some s) = if is_valid s then Some s else None

abbrev pub due : (is_made : Bool) → Option Settings → Option Settings
due true told = None
due false told = due_of told

-- settings that were told are told still, and before them there was no journal
abbrev pub AreStill : Option Settings → List Entry → Option Settings → Type 0
AreStill None J told = J ≡ []
AreStill (Some s) J told = told ≡ Some s

-- valid settings are told, or none, after those before with this journal
pub record Tells (before : Option Settings) (J : List Entry) (told : Option Settings) : Type 0 where
  pub still : AreStill before J told
  pub valid : IfSome told (λ s. is_valid s ≡ true)

-- it took entries after a journal, and the lines of what it tells were appended; where there is none, nothing was
abbrev pub TookIfAny : Option Settings → (J es : List Entry) → Option Node → (out out' : List ℕ) → Type 0
TookIfAny told J es n out out' = IfTold (λ s m. Took s J es m out out') (out' ≡ out) told n

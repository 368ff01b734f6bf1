-- Whether a second capture is of the same node as the first, seen in pieces.
use Rattle.std.specs.Prelude.{◌≡◌, ℕ, List, length, take, Option}
use Rattle.zre_values.specs.declared.settings.Settings.{Settings}
use Rattle.zre_records.specs.audit.Audit.{own_front}
use Rattle.zre_records.specs.replay.Lives.{IfTold}
use Rattle.zre_records.specs.declared.audit.again.Again.{Again}

-- the octets so far are seen, as many as the front of a head of the first node has
pub record Sees (s : Settings) (o : List ℕ) (again : Again) : Type 0 where
  pub own_is : again.own ≡ own_front s
  pub front_is : again.front ≡ take (length (own_front s)) o

-- so it is where its settings are told
abbrev pub IsSeen : Option Settings → List ℕ → Option Again → Type 0
IsSeen told o again = IfTold (λ s a. Sees s o a) (Unit {0}) told again

-- Whether two journals agree: what each node heard in a run of the other is the beginning of what the other put on a
-- link, on another one for each run.
use Rattle.std.specs.Prelude.{◌≡◌, ◌⊎◌, ℕ, List, Option, Some, None}
use Rattle.zre_outside.specs.declared.entry.Entry.{Entry}
use Rattle.zre_values.specs.declared.settings.Settings.{Settings as Config}
use Rattle.zre_journal.specs.Events.{chronicle}
use Rattle.zre_msg.specs.declared.message.Body.{Body}
use Rattle.zre_audit.specs.Exchanged.{heard, put, is_same_said}
use Rattle.zre_audit.specs.Prefixes.{Fits, NoneIsShort, IsFirstShort, first_short}
use Rattle.zre_audit.specs.declared.verdicts.Verdict.{Verdict}
use Rattle.zre_audit.specs.declared.verdicts.Verdict.TheVariants.{Yes, No}

-- what is said in each run can be given a link of its own, whose list it begins
abbrev pub AreAmong : List (List Body) → List (List Body) → Type 0
AreAmong runs links = Fits is_same_said runs links

-- a run of this side is one too many, or else this
abbrev pub too_many : ℕ → Option (ℕ × ℕ × ℕ) → Verdict → Verdict
too_many side None verdict = verdict
too_many side (Some first) verdict = No side first.0 first.1 first.2

module _ (g k : Config) (J K : List Entry) where
  -- what the first node heard of the second, and what the second put for the first; and the other way round
  abbrev pub heard_first : List (List Body)
  heard_first = heard k.id (chronicle g J)

  abbrev pub put_second : List (List Body)
  put_second = put g.id (chronicle k K)

  abbrev pub heard_second : List (List Body)
  heard_second = heard g.id (chronicle k K)

  abbrev pub put_first : List (List Body)
  put_first = put k.id (chronicle g J)

  -- the journals J of the node g and K of the node k agree
  pub record Agree : Type 0 where
    pub first : AreAmong heard_first put_second
    pub second : AreAmong heard_second put_first

  -- which run is one too many: the first node's before the second's
  abbrev pub IsTooMany : (side run runs links : ℕ) → Type 0
  IsTooMany side run runs links =
      ((side ≡ 1) × IsFirstShort is_same_said heard_first put_second run runs links)
      ⊎ ((side ≡ 2) × NoneIsShort is_same_said heard_first put_second
      × IsFirstShort is_same_said heard_second put_first run runs links)

  -- a verdict on them is right
  abbrev pub Judges : Verdict → Type 0
  Judges Yes = Agree
  Judges (No side run runs links) = IsTooMany side run runs links

  -- the one that is
  abbrev pub judged : Verdict
  judged =
      too_many 1 (first_short is_same_said heard_first put_second)
      (too_many 2 (first_short is_same_said heard_second put_first) Yes)

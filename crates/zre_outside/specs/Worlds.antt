-- What a world tells of itself, and what its calls do to that.
use Rattle.std.specs.Prelude.{◌≡◌, ℕ, ◌+◌, Bool, true, false, List, [], ◌∷◌, ◌++◌, Option, Some, None, ⊤}
use Rattle.std.specs.Prelude.{option_to_list}
use Rattle.zre_outside.specs.declared.start.Start.{Start}
use Rattle.zre_outside.specs.declared.entry.Entry.{Entry}
use Rattle.zre_outside.specs.declared.entry.Input.TheVariants as input
use Rattle.zre_outside.specs.declared.entry.Command.{Command}
use Rattle.zre_outside.specs.declared.turn.Turn.{Turn}
use Rattle.zre_outside.specs.declared.turn.Turn.TheVariants as turn
use Rattle.zre_outside.specs.declared.deed.Deed.{Deed}

pub record Log : Type 0 where
  -- how it was last started
  pub begun : Option Start
  -- the entries that it gave
  pub given : List Entry
  -- how many looks it answered
  pub looks : ℕ
  -- the commands of the turns that it answered
  pub handed : List Command
  -- the acts and the offers, in order
  pub done : List Deed

-- it was started
abbrev pub with_start : Start → Log → Log
with_start s l = record l { begun = Some s }

abbrev pub is_look : Turn → Bool
is_look turn.Look = true
is_look (turn.Entry e) = false

-- a command that is handed in comes back as the entry to do it
abbrev pub IsTurn : Option Command → Turn → Type 0
IsTurn None t = ⊤
IsTurn (Some c) turn.Look = ⊥
IsTurn (Some c) (turn.Entry e) = e.input ≡ input.Do c

-- a turn was answered
abbrev pub after_turn : Option Command → Turn → Log → Log
after_turn command turn.Look l = record l { looks = l.looks + 1 }
after_turn command (turn.Entry e) l =
    record l { given = l.given ++ e ∷ []; handed = l.handed ++ option_to_list command }

-- an act or an offer was done
abbrev pub with_deed : Deed → Log → Log
with_deed d l = record l { done = l.done ++ d ∷ [] }

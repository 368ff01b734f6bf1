-- What a member holds of the shared table, and what becomes of it.
use Rattle.std.specs.Prelude.{ℕ, ◌+◌, max, List, [], ◌∷◌, ◌++◌}
use Rattle.std.specs.Option.{option_map_or}
use Rattle.zre_values.specs.declared.peer_id.PeerId.{PeerId}
use Rattle.zre_shared.specs.Tables.{table}
use Rattle.zre_shared.specs.Writes.{write_of}
use Rattle.zre_shared.specs.declared.write.Write.{Write}

-- whose writes it makes, and the writes that it holds
pub record HeldWrites : Type 0 where
  pub id : PeerId
  pub writes : List Write

abbrev pub none_held : PeerId → HeldWrites
none_held id = record { id = id; writes = [] }

-- the table with a write
abbrev pub with_write : HeldWrites → Write → HeldWrites
with_write held w = record { id = held.id; writes = table (held.writes ++ w ∷ []) }

-- the table with what a frame says
abbrev pub with_frame : HeldWrites → List ℕ → HeldWrites
with_frame held frame = option_map_or (with_write held) (write_of frame) held

-- what is held after some frames, taken one after the other
abbrev pub with_frames : HeldWrites → List (List ℕ) → HeldWrites
with_frames held [] = held
with_frames held (frame ∷ frames) = with_frames (with_frame held frame) frames

-- the greatest count of some writes, 0 where there are none
abbrev pub greatest_count : List Write → ℕ
greatest_count [] = 0
greatest_count (w ∷ ws) = max w.count (greatest_count ws)

-- the write that a member makes of a key and a value
abbrev pub next_write : HeldWrites → (key value : List ℕ) → Write
next_write held key value =
    record { key = key; count = greatest_count held.writes + 1; id = held.id; value = value }

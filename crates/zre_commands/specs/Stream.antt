-- A stream of ZMTP that is read in pieces: a whole one from the greeting on, or its traffic after the handshake.
use Rattle.std.specs.Prelude.{◌≡◌, ℕ, Bool, not, ◌&&◌, ◌||◌, ◌==◌, List, ◌++◌, length, Option, Some, None, is_some}
use Rattle.zre_commands.specs.pump.Lines.{bad_line}
use Rattle.zre_zmtp.specs.Reading.{Reading, Reads, new_items}
use Rattle.zre_zmtp.specs.Stream.{Kind, fault, opened, split}
use Rattle.zre_zmtp.specs.declared.want.Want.TheVariants.{Any}
use Rattle.zre_zmtp.specs.declared.fault.ZmtpFault.{ZmtpFault}
use Rattle.zre_zmtp.specs.declared.item.Item.{Item}

-- no message is unfinished, and nothing stands after the last item
abbrev pub at_rest : Kind → List ℕ → Bool
at_rest kind o = length (split Any kind o).1 == 0 && length (opened kind (split Any kind o).0) == 0

-- it has a fault, or ends where it isn't at rest
abbrev pub is_bad : Kind → List ℕ → Bool
is_bad kind o = is_some (fault Any kind o) || not (at_rest kind o)

-- the place of a fault, or of the end of the input
abbrev pub place_of : Option ZmtpFault → ℕ → ℕ
place_of None end = end
place_of (Some f) end = f.place

-- the last line where it is bad
abbrev pub bad_end : Kind → List ℕ → List ℕ
bad_end kind o = bad_line (place_of (fault Any kind o) (length o))

-- these octets were read: the fault in them was found, and the reader stands after them unless there is one
pub record HasRead (kind : Kind) (o : List ℕ) (found : Option ZmtpFault) (reader : Reading) : Type 0 where
  pub faulty : found ≡ fault Any kind o
  pub reads : found ≡ None → Reads Any kind o reader

-- so was a piece after them, and the new items were appended
pub record ReadPiece (kind : Kind) (o piece : List ℕ) (found : Option ZmtpFault) (reader : Reading)
    (items items' : List Item) : Type 0 where
  pub read : HasRead kind (o ++ piece) found reader
  pub appended : items' ≡ items ++ new_items Any kind o piece

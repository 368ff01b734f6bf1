-- Pieces that a reader takes where they lie, with no item made: those that end a message, and parts of a frame.
use Rattle.std.specs.Prelude.{◌≡◌, ℕ, ◌+◌, ◌≤◌, false, List, [], ◌∷◌, ◌++◌, length, sum_by, Some, None}
use Rattle.std.specs.Prelude.{option_copied, option_to_list, Result, Ok}
use Rattle.zre_values.specs.declared.limits.TheConstants.{MESSAGE_OCTETS}
use Rattle.zre_zmtp.specs.declared.bodies.Came.{Came}
use Rattle.zre_zmtp.specs.declared.bodies.Came.TheVariants as came
use Rattle.zre_zmtp.specs.declared.bodies.LentBodies.{LentBodies}
use Rattle.zre_zmtp.specs.declared.header.Header.{Header}
use Rattle.zre_zmtp.specs.declared.item.Item.{Item}
use Rattle.zre_zmtp.specs.declared.item.What.TheVariants.{Message}
use Rattle.zre_zmtp.specs.declared.expected.Expected.TheVariants as expect
use Rattle.zre_zmtp.specs.declared.progress.Progress.{Progress}
use Rattle.zre_zmtp.specs.Frame.{has_more}
use Rattle.zre_zmtp.specs.Front.{BeginsWith}
use Rattle.zre_zmtp.specs.Looks.{LooksOnce}
use Rattle.zre_zmtp.specs.Reading.{Reading, Reads, Adds}
use Rattle.zre_zmtp.specs.Shown.{before_of, left_of, Waits, Advances}
use Rattle.zre_zmtp.specs.Stream.{Want, Kind}

-- the bodies of a message that is lent
abbrev pub bodies_in : LentBodies → List (List ℕ)
bodies_in l = l.first.now ∷ option_to_list (option_copied l.second)

-- the item that a piece gives, by where its message begins and where the piece ends
abbrev pub given : Came → ℕ → ℕ → List Item
given (came.Message l) start end = record { start = start; end = end; what = Message (bodies_in l) } ∷ []
given came.Part start end = []
given came.Other start end = []

-- A message or a command comes next, and no octet of its frame is there.
pub record IsBetweenFrames (p : Progress) : Type 0 where
  pub traffic : p.expected ≡ expect.Traffic
  pub none : p.partial.head ≡ []

-- A message or a command comes next, and the header of its frame isn't whole.
pub record IsInHeader (p : Progress) : Type 0 where
  pub traffic : p.expected ≡ expect.Traffic
  pub unknown : p.partial.header ≡ None

-- A message or a command comes next, and the header of its frame says this.
pub record IsInBody (p : Progress) (h : Header) : Type 0 where
  pub traffic : p.expected ≡ expect.Traffic
  pub known : p.partial.header ≡ Some h

-- The octets o are the last frame of a message, with this header and this body.
pub record IsLast (h : Header) (body o : List ℕ) : Type 0 where
  pub frame : BeginsWith h body [] o
  pub last : has_more h.flags ≡ false

-- The octets o are the second frame of a message, and end it.
pub record EndsWith (p : Progress) (h : Header) (body o : List ℕ) : Type 0 where
  pub one : length p.opened ≡ 1
  pub room : sum_by length p.opened + length body ≤ MESSAGE_OCTETS
  pub last : IsLast h body o

-- The octets o were read by a reader that waited for more, and brought this.
abbrev pub Brings : Came → Progress → Progress → List ℕ → Type 0
Brings c was now o =
    (want : Want) (out : List Item) → Waits want (before_of was) (left_of was) →
    Advances want (before_of was) (left_of was ++ o) out (out ++ given c was.start now.place)
    (before_of now) (left_of now)

-- The reader took the octets o, which brought this, or it changed nothing and left them to its slower way.
abbrev pub TakesPiece : Came → Progress → Progress → List ℕ → Type 0
TakesPiece (came.Message l) was now o = Brings (came.Message l) was now o
TakesPiece came.Part was now o = Brings came.Part was now o
TakesPiece came.Other was now o = now ≡ was

-- The octets o were read, after whatever the reader had, and brought this.
abbrev pub BringsOn : Came → Reading → Reading → List ℕ → Type 0
BringsOn c was now o =
    (want : Want) (kind : Kind) (before : List ℕ) → Reads want kind before was →
    Reads want kind (before ++ o) now × Adds want kind before o [] (given c was.before.start now.before.place)

-- The reader took the octets o after whatever it had, or it changed nothing and left them to its slower way.
abbrev pub TakesOn : Came → Reading → Reading → List ℕ → Type 0
TakesOn (came.Message l) was now o = BringsOn (came.Message l) was now o
TakesOn came.Part was now o = BringsOn came.Part was now o
TakesOn came.Other was now o = now ≡ was

-- Each of n octets of a piece was looked at once at most, and none where nothing changed.
pub record LooksIfTaken {E : Type 0} (looks looks' kept kept' n : ℕ) (result : Result Came E) : Type 0 where
  pub other : result ≡ Ok came.Other → looks' ≡ looks
  pub taken : LooksOnce looks looks' kept kept' n result

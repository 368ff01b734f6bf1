-- What contracts see of a reader, and of which octets it is the reader.
use Rattle.std.specs.Prelude.{◌≡◌, ℕ, ◌+◌, Bool, false, List, ◌++◌, length, drop, Option, Some, None, sum_by}
use Rattle.std.specs.Prelude.{Result, OnOk, IfErr}
use Rattle.zre_zmtp.specs.declared.fault.ZmtpFault.{ZmtpFault}
use Rattle.zre_zmtp.specs.declared.fault.FeedFault.{FeedFault}
use Rattle.zre_zmtp.specs.declared.fault.FeedFault.TheVariants.{Zmtp, OutOfMemory}
use Rattle.zre_zmtp.specs.declared.item.Item.{Item}
use Rattle.zre_zmtp.specs.Stream.{Before, Want, Kind, before, split, items, fault}
use Rattle.zre_zmtp.specs.Run.{Found}

-- What a reader keeps of the octets so far: what the whole parts tell, and the octets after them.
pub record Reading : Type 0 where
  pub before : Before
  pub left : List ℕ
  pub spent : Bool
  pub wanted : Want

-- The reader stands after the octets o, which have no fault.
pub record Reads (want : Want) (kind : Kind) (o : List ℕ) (r : Reading) : Type 0 where
  pub before : r.before ≡ before kind (split want kind o).0
  pub left : r.left ≡ (split want kind o).1
  pub faultless : fault want kind o ≡ None
  pub unspent : r.spent ≡ false
  pub wants : r.wanted ≡ want

-- what becomes whole with more octets
abbrev pub new_items : Want → Kind → List ℕ → List ℕ → List Item
new_items want kind o more = drop (length (items want kind o)) (items want kind (o ++ more))

-- These items became whole, and were appended.
pub record Adds (want : Want) (kind : Kind) (o more : List ℕ) (old new : List Item) : Type 0 where
  pub extended : items want kind (o ++ more) ≡ items want kind o ++ new_items want kind o more
  pub appended : new ≡ old ++ new_items want kind o more

-- Whatever octets come after o, its fault and its items stay.
pub record IsOver (want : Want) (kind : Kind) (o : List ℕ) : Type 0 where
  pub fault : (more : List ℕ) → fault want kind (o ++ more) ≡ fault want kind o
  pub items : (more : List ℕ) → items want kind (o ++ more) ≡ items want kind o

-- A refusal names the fault that is there, and then P holds; of OutOfMemory nothing is said.
abbrev pub Refuses : FeedFault → Option ZmtpFault → Type 0 → Type 0
Refuses (Zmtp found) there P = (there ≡ Some found) × P
Refuses OutOfMemory there P = Unit {0}

-- These octets were read, after whatever the reader had: it stands after them too, and what became whole was appended.
abbrev pub ReadsOn : Result (Unit {0}) FeedFault → Reading → Reading → List ℕ → List Item → List Item → Type 0
ReadsOn result was now more old new =
    (want : Want) (kind : Kind) (o : List ℕ) → Reads want kind o was →
    OnOk result (Reads want kind (o ++ more) now × Adds want kind o more old new)

-- They were refused: the refusal names their fault, what became whole was appended, and no further octet changes it.
abbrev pub RefusesOn : Result (Unit {0}) FeedFault → Reading → List ℕ → List Item → List Item → Type 0
RefusesOn result was more old new =
    (want : Want) (kind : Kind) (o : List ℕ) → Reads want kind o was →
    IfErr result (λ e.
    Refuses e (fault want kind (o ++ more)) (Adds want kind o more old new × IsOver want kind (o ++ more)))

-- what is kept of a stream: the bodies of an unfinished message, and the octets of an unfinished greeting or frame
abbrev pub kept : Reading → ℕ
kept r = sum_by length r.before.opened + length r.left

-- Everything that is whole was read.
pub record ReadsAll (found : Found) (old new : List Item) (now : Before) (later : List ℕ) : Type 0 where
  pub given : new ≡ old ++ found.given
  pub before : now ≡ found.before
  pub left : later ≡ found.left

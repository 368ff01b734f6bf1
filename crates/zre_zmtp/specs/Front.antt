-- A message of one or two frames that lies whole at the front of octets.
use Rattle.std.specs.Prelude.{◌≡◌, ℕ, ◌+◌, ◌<◌, ◌≤◌, true, false, List, [], ◌∷◌, ◌++◌, length, take}
use Rattle.std.specs.Prelude.{Some, option_copied, option_to_list}
use Rattle.zre_zmtp.specs.declared.front.Front.{Front}
use Rattle.zre_zmtp.specs.declared.header.Header.{Header}
use Rattle.zre_zmtp.specs.declared.item.Item.{Item}
use Rattle.zre_zmtp.specs.declared.item.What.TheVariants.{Message}
use Rattle.zre_zmtp.specs.declared.expected.Expected.TheVariants as expect
use Rattle.zre_zmtp.specs.Frame.{header_of, header_len, is_message}
use Rattle.zre_zmtp.specs.Reading.{Reading, Reads, Adds}
use Rattle.zre_zmtp.specs.Stream.{Want, Kind}

-- A frame of a message stands at the front of the octets o: its header, then its body, then the rest.
pub record BeginsWith (h : Header) (body rest o : List ℕ) : Type 0 where
  pub header : header_of o ≡ Some h
  pub message : is_message h.flags ≡ true
  pub whole : o ≡ take (header_len o) o ++ (body ++ rest)
  pub sized : length body ≡ h.size

-- the bodies of the frames
abbrev pub bodies_of : Front → List (List ℕ)
bodies_of f = f.first.now ∷ option_to_list (option_copied f.second)

-- A message or a command comes next, and nothing is unfinished.
pub record Rests (r : Reading) : Type 0 where
  pub traffic : r.before.expected ≡ expect.Traffic
  pub nothing_open : r.before.opened ≡ []
  pub nothing_left : r.left ≡ []

-- the item that the message is for a reader at rest
abbrev pub item_of : Reading → Front → Item
item_of r f = record { start = r.before.start; end = r.before.place + f.len; what = Message (bodies_of f) }

-- the reader after it
abbrev pub passed : Reading → Front → Reading
passed r f = record {
  before = record {
    expected = expect.Traffic;
    place = r.before.place + f.len;
    opened = [];
    start = r.before.place + f.len;
  };
  left = [];
  spent = false;
  wanted = r.wanted;
}

-- The message is the front of the octets o: whatever was read before it by a reader that is at rest, its octets are
-- read as the item that it is.
pub record IsFront (f : Front) (o : List ℕ) : Type 0 where
  pub some : 0 < f.len
  pub within : f.len ≤ length o
  pub read : (want : Want) (kind : Kind) (before : List ℕ) (r : Reading) → Reads want kind before r → Rests r →
      Reads want kind (before ++ take f.len o) (passed r f) × Adds want kind before (take f.len o) [] (item_of r f ∷ [])

-- The reader was at rest, and moved on over the message at the front of the octets o.
pub record PassesOn (was now : Reading) (f : Front) (o : List ℕ) : Type 0 where
  pub rested : Rests was
  pub after : now ≡ passed was f
  pub front : IsFront f o

-- Pieces that hold octets of both frames of a message.
use Rattle.std.specs.Prelude.{◌≡◌, ℕ, ◌+◌, ◌≤◌, ◌<◌, true, false, List, [], ◌∷◌, ◌++◌, length, Some, None}
use Rattle.zre_values.specs.declared.limits.TheConstants.{MESSAGE_OCTETS}
use Rattle.zre_zmtp.specs.declared.across.Next.{Next}
use Rattle.zre_zmtp.specs.declared.across.Next.TheVariants as next
use Rattle.zre_zmtp.specs.declared.across.Second.{Second}
use Rattle.zre_zmtp.specs.declared.bodies.Came.{Came}
use Rattle.zre_zmtp.specs.declared.item.Item.{Item}
use Rattle.zre_zmtp.specs.declared.expected.Expected.TheVariants as expect
use Rattle.zre_zmtp.specs.declared.progress.Progress.{Progress}
use Rattle.zre_zmtp.specs.Frame.{flags, header_of, header_len, is_message, has_more}
use Rattle.zre_zmtp.specs.Lending.{given}
use Rattle.zre_zmtp.specs.Shown.{before_of, left_of, Advances}
use Rattle.zre_zmtp.specs.Stream.{Want, Before}

-- The second frame of a message, after a body of so many octets: its header is whole, and passes no limit.
pub record IsSecond (size : ℕ) (s : Second) : Type 0 where
  pub header : header_of s.head.now ≡ Some s.header
  pub within : length s.head.now ≤ header_len s.head.now
  pub message : is_message s.header.flags ≡ true
  pub room : size + s.header.size ≤ MESSAGE_OCTETS

-- What is told stands after the first frame of a message, whose body has so many octets.
abbrev pub Follows : ℕ → Next → Type 0
Follows size next.Nothing = Unit {0}
Follows size (next.Head o) = (header_of o.now ≡ None) × (is_message (flags o.now) ≡ true)
Follows size (next.Part s) = IsSecond size s × (length s.body.now < s.header.size)
Follows size (next.Last s) =
    IsSecond size s × (length s.body.now ≡ s.header.size) × (has_more s.header.flags ≡ false)

-- its octets
abbrev pub octets_of : Next → List ℕ
octets_of next.Nothing = []
octets_of (next.Head o) = o.now
octets_of (next.Part s) = s.head.now ++ s.body.now
octets_of (next.Last s) = s.head.now ++ s.body.now

-- what is known after the first frame, which has this body and so many octets of a header
abbrev pub mid_of : Progress → ℕ → List ℕ → Before
mid_of p n body = record {
  expected = expect.Traffic;
  place = p.place + (n + length body);
  opened = body ∷ [];
  start = p.start;
}

-- The octets o were read after the first frame, and brought this.
abbrev pub Crosses : Came → Progress → Progress → ℕ → List ℕ → List ℕ → Type 0
Crosses c was now n body o =
    (want : Want) (out : List Item) →
    Advances want (mid_of was n body) o out (out ++ given c was.start now.place) (before_of now) (left_of now)

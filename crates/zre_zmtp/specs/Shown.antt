-- How the fields of a reader are seen, and what a turn over some octets does.
use Rattle.std.specs.Prelude.{◌≡◌, ◌≢◌, ℕ, ◌+◌, ◌-◌, ◌≤◌, ◌==◌, if◌then◌else◌, nat_le, Bool, false, List, [], ◌++◌}
use Rattle.std.specs.Prelude.{length, Option, Some, None, option_map, sum_by, Result, OnOk, IfErr}
use Rattle.std.specs.Option.{option_or}
use Rattle.zre_zmtp.specs.declared.fault.ZmtpWhy.{ZmtpWhy}
use Rattle.zre_zmtp.specs.declared.progress.Progress.{Progress}
use Rattle.zre_zmtp.specs.declared.header.Header.{Header}
use Rattle.zre_zmtp.specs.declared.expected.Expected.{Expected}
use Rattle.zre_zmtp.specs.declared.expected.Expected.TheVariants as expect
use Rattle.zre_zmtp.specs.declared.item.Item.{Item}
use Rattle.zre_zmtp.specs.Frame.{is_message, flags, size, has_header, header_len, header_of}
use Rattle.zre_zmtp.specs.Stream.{Want, Before, once, flags_fault, size_fault, fault_of, whole_len, said, start_of}
use Rattle.zre_zmtp.specs.Stream.{opened_by}
use Rattle.zre_zmtp.specs.Run.{Found, run_all}
use Rattle.zre_zmtp.specs.declared.fault.FeedFault.{FeedFault}
use Rattle.zre_zmtp.specs.Reading.{ReadsAll, Refuses}

-- what the whole parts of a reader tell
abbrev pub before_of : Progress → Before
before_of p = record { expected = p.expected; place = p.place; opened = p.opened; start = p.start }

-- the octets after them
abbrev pub left_by : Expected → List ℕ → List ℕ → List ℕ → List ℕ
left_by expect.Greeting greeting head body = greeting
left_by expect.Ready greeting head body = head ++ body
left_by expect.Traffic greeting head body = head ++ body

abbrev pub left_of : Progress → List ℕ
left_of p = left_by p.expected p.greeting p.partial.head p.partial.body

-- how many octets are kept
abbrev pub held : Progress → ℕ
held p = sum_by length p.opened + length (left_of p)

-- what is wrong with the header of a frame, or with what is there of it
abbrev pub header_fault : Before → List ℕ → Option ZmtpWhy
header_fault b o =
    option_or (once (nat_le 1 (length o)) (flags_fault b (flags o)))
    (once (has_header o) (size_fault b (flags o) (size o)))

-- the item that ends with a frame of so many octets, by its flags, size and body
abbrev pub frame_item : Before → Header → List ℕ → ℕ → Option Item
frame_item b h o len =
    option_map (λ says. record { start = start_of b.expected b h.flags; end = b.place + len; what = says })
    (said b.expected b.opened h.flags h.size o)

-- what is known after such a frame, where no greeting is expected
abbrev pub frame_after : Before → Header → List ℕ → ℕ → Before
frame_after b h o len = record {
  expected = expect.Traffic;
  place = b.place + len;
  opened = opened_by b.expected b.opened h.flags o;
  start = if length (opened_by b.expected b.opened h.flags o) == 0 then b.place + len else b.start;
}

-- The reader stands after whole parts that tell b, and the octets o are no whole part and have no fault.
pub record Waits (want : Want) (b : Before) (o : List ℕ) : Type 0 where
  pub faultless : fault_of want b o ≡ None
  pub partial : whole_len b.expected o ≡ None

-- The octets o were read after b, and have no fault.
pub record Advances (want : Want) (b : Before) (o : List ℕ) (old new : List Item) (now : Before) (later : List ℕ)
    : Type 0 where
  pub reads : ReadsAll (run_all want b o) old new now later
  pub faultless : fault_of want now later ≡ None

-- A refusal names the fault that is in the octets o after b, and the items before it were appended.
abbrev pub RefusesAt : FeedFault → Want → Before → List ℕ → List Item → List Item → Type 0
RefusesAt e want b o old new =
    let found = run_all want b o in
    Refuses e (fault_of want found.before found.left) (new ≡ old ++ found.given)

-- These octets were read: where the reader waited for more, it stands after them too.
abbrev pub StandsAfter : Result (Unit {0}) FeedFault → Want → Progress → Progress → List ℕ → List Item → List Item
    → Type 0
StandsAfter result want was now o old new =
    Waits want (before_of was) (left_of was) →
    OnOk result (Advances want (before_of was) (left_of was ++ o) old new (before_of now) (left_of now))

-- They were refused: where the reader waited for more, the refusal names the fault that is in them.
abbrev pub NamesFault : {A : Type 0} → Result A FeedFault → Want → Progress → List ℕ → List Item → List Item → Type 0
NamesFault result want was o old new =
    Waits want (before_of was) (left_of was) →
    IfErr result (λ e. RefusesAt e want (before_of was) (left_of was ++ o) old new)

-- how many octets the next turn of a reader takes at most: one of a greeting or of a header, and else what is missing
-- of a body
abbrev pub room : Expected → Option Header → List ℕ → ℕ
room expect.Greeting header body = 1
room expect.Ready None body = 1
room expect.Ready (Some h) body = h.size - length body
room expect.Traffic None body = 1
room expect.Traffic (Some h) body = h.size - length body

-- No octets are kept, and all of this header stands at the front of the octets o.
pub record HasHeader (p : Progress) (h : Header) (o : List ℕ) : Type 0 where
  pub frame : p.expected ≢ expect.Greeting
  pub no_head : p.partial.head ≡ []
  pub no_body : p.partial.body ≡ []
  pub header : header_of o ≡ Some h

-- No octets are kept, and all of a frame with this header stands at the front of the octets o.
pub record BeginsFrame (p : Progress) (h : Header) (o : List ℕ) : Type 0 where
  pub frame : p.expected ≢ expect.Greeting
  pub no_head : p.partial.head ≡ []
  pub no_body : p.partial.body ≡ []
  pub header : header_of o ≡ Some h
  pub whole : header_len o + h.size ≤ length o

-- a frame with these flags belongs to a message after READY
abbrev pub is_content : Expected → ℕ → Bool
is_content expect.Traffic f = is_message f
is_content _ f = false

-- What was found in all of the octets is what was found so far, and what is found in the rest.
pub record GoesOn (front out : List Item) (whole rest : Found) : Type 0 where
  pub given : front ++ whole.given ≡ out ++ rest.given
  pub before : whole.before ≡ rest.before
  pub left : whole.left ≡ rest.left

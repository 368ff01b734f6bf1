-- A stream of ZMTP 3 with the NULL mechanism (RFC 23), all octets of it at once: which parts of it are whole, what
-- they say, and the first fault. A part is the greeting or a frame.
use Rattle.std.specs.Prelude.{◌≡◌, ℕ, zero, suc, ◌+◌, ◌-◌, Bool, true, false, not, ◌&&◌, nat_le, nat_lt, ◌==◌}
use Rattle.std.specs.Prelude.{if◌then◌else◌, List, [], ◌∷◌, ◌++◌, length, take, drop, slice_index, Option, Some, None}
use Rattle.std.specs.Prelude.{option_map, option_to_list, unwrap_or, is_some, codes, bytes_eq, sum_by}
use Rattle.std.specs.Option.{option_or}
use Rattle.zre_values.specs.declared.limits.TheConstants.{MESSAGE_OCTETS, MESSAGE_FRAMES, COMMAND_OCTETS}
use Rattle.zre_zmtp.specs.Frame.{is_flags, is_message, has_more, flags, has_header, size, frame_len, is_whole, body}
use Rattle.zre_zmtp.specs.Ready.{has_name, name, properties, socket_type, identity, rest}
use Rattle.zre_zmtp.specs.declared.fault.ZmtpWhy.{ZmtpWhy}
use Rattle.zre_zmtp.specs.declared.fault.ZmtpWhy.TheVariants as why
use Rattle.zre_zmtp.specs.declared.fault.ZmtpFault.{ZmtpFault}
use Rattle.zre_zmtp.specs.declared.item.Item.{Item}
use Rattle.zre_zmtp.specs.declared.item.What.{What}
use Rattle.zre_zmtp.specs.declared.item.What.TheVariants.{Greeting, Ready, Command, Message}
pub use Rattle.zre_zmtp.specs.declared.want.Want.{Want}
pub use Rattle.zre_zmtp.specs.declared.want.Want.TheVariants.{Any, Router, Dealer}
use Rattle.zre_zmtp.specs.declared.expected.Expected.{Expected}
use Rattle.zre_zmtp.specs.declared.expected.Expected.TheVariants as expect

-- ---- what the parts before a place tell about the next one

-- what comes next, how many octets they have, the bodies of a message that isn't whole, and where it begins
pub record Before : Type 0 where
  pub expected : Expected
  pub place : ℕ
  pub opened : List (List ℕ)
  pub start : ℕ

-- A whole stream begins with a greeting and READY, traffic with neither.
pub data Kind : Type 0 where
  Whole : Kind
  Traffic : Kind

-- the parts of a stream, each the list of its octets, the last one first
abbrev pub Parts : Type 0
Parts = List (List ℕ)

-- what comes after them
abbrev pub expected : Kind → Parts → Expected
expected Whole [] = expect.Greeting
expected Whole (greeting ∷ []) = expect.Ready
expected Whole (part ∷ ready ∷ before) = expect.Traffic
expected Traffic before = expect.Traffic

-- how many octets they have
abbrev pub place : Parts → ℕ
place [] = 0
place (part ∷ before) = place before + length part

-- the bodies of the unfinished message after one more frame, by its flags and its body
abbrev pub opened_by : Expected → List (List ℕ) → ℕ → List ℕ → List (List ℕ)
opened_by expect.Greeting bodies f o = bodies
opened_by expect.Ready bodies f o = bodies
opened_by expect.Traffic bodies f o = if not (is_message f) then bodies else if has_more f then bodies ++ o ∷ [] else []

-- the same after one more part
abbrev pub opened_with : Expected → List (List ℕ) → List ℕ → List (List ℕ)
opened_with e bodies part = opened_by e bodies (flags part) (body part)

-- the bodies of the message frames after the last frame that ends a message
abbrev pub opened : Kind → Parts → List (List ℕ)
opened kind [] = []
opened kind (part ∷ before) = opened_with (expected kind before) (opened kind before) part

-- where the message begins to which the next message frame belongs
abbrev pub start : Kind → Parts → ℕ
start kind [] = 0
start kind (part ∷ before) =
    if length (opened kind (part ∷ before)) == 0 then place (part ∷ before) else start kind before

-- all that they tell
abbrev pub before : Kind → Parts → Before
before kind parts =
    record { expected = expected kind parts; place = place parts; opened = opened kind parts; start = start kind parts }

-- ---- faults

-- the reason of the first row of a table whose test holds
abbrev pub first_row : List (Bool × ZmtpWhy) → Option ZmtpWhy
first_row [] = None
first_row ((test, reason) ∷ rows) = if test then Some reason else first_row rows

-- "NULL" and 16 octets of zero
abbrev pub mechanism : List ℕ
mechanism = 78 ∷ 85 ∷ 76 ∷ 76 ∷ 0 ∷ 0 ∷ 0 ∷ 0 ∷ 0 ∷ 0 ∷ 0 ∷ 0 ∷ 0 ∷ 0 ∷ 0 ∷ 0 ∷ 0 ∷ 0 ∷ 0 ∷ 0 ∷ []

-- what is wrong with an octet of a greeting at its place
abbrev pub octet_fault : ℕ → ℕ → Option ZmtpWhy
octet_fault i b = first_row
    ((i == 0 && not (b == 255), why.Signature)
    ∷ (i == 9 && not (b == 127), why.Signature)
    ∷ (i == 10 && nat_lt b 3, why.OldVersion)
    ∷ (nat_le 12 i && nat_lt i 32 && not (b == slice_index mechanism (i - 12)), why.Mechanism)
    ∷ [])

-- the first octet, from place i on, that no greeting has there
unfoldable pub greeting_fault : ℕ → List ℕ → Option ZmtpFault
greeting_fault i [] = None
greeting_fault i (b ∷ o) =
    option_or (option_map (λ reason. record { why = reason; place = i }) (octet_fault i b)) (greeting_fault (i + 1) o)

-- the body of READY
abbrev pub is_ready : List ℕ → Bool
is_ready o = bytes_eq (name o) (codes "READY")

-- the body of ERROR
abbrev pub is_error : List ℕ → Bool
is_error o = bytes_eq (name o) (codes "ERROR")

-- a value that is there, and is the one that is wanted
abbrev pub is_value : Option (List ℕ) → List ℕ → Bool
is_value None wanted = false
is_value (Some v) wanted = bytes_eq v wanted

-- READY, by its body, names the socket that is wanted
abbrev pub has_socket : Want → List ℕ → Bool
has_socket Any o = true
has_socket Router o = is_value (socket_type o) (codes "ROUTER")
has_socket (Dealer own) o = is_value (socket_type o) (codes "DEALER")

-- 01 and a UUID that isn't one's own
abbrev pub is_other : List ℕ → Option (List ℕ) → Bool
is_other own None = false
is_other own (Some v) = length v == 17 && slice_index v 0 == 1 && not (bytes_eq (drop 1 v) own)

-- READY, by its body, gives an identity that is wanted
abbrev pub has_identity : Want → List ℕ → Bool
has_identity Any o = true
has_identity Router o = true
has_identity (Dealer own) o = is_other own.0 (identity o)

-- READY comes next
abbrev pub awaits_ready : Expected → Bool
awaits_ready expect.Greeting = false
awaits_ready expect.Ready = true
awaits_ready expect.Traffic = false

-- A test that is made once its octets are there.
abbrev pub once : Bool → Option ZmtpWhy → Option ZmtpWhy
once there fault = if there then fault else None

-- found with the flags octet
abbrev pub flags_fault : Before → ℕ → Option ZmtpWhy
flags_fault b f = first_row
    ((not (is_flags f), why.Flags)
    ∷ (is_message f && awaits_ready b.expected, why.Order)
    ∷ (is_message f && nat_le MESSAGE_FRAMES (length b.opened), why.TooManyFrames)
    ∷ [])

-- found with the size field
abbrev pub size_fault : Before → ℕ → ℕ → Option ZmtpWhy
size_fault b f n = first_row
    ((is_message f && nat_lt MESSAGE_OCTETS (sum_by length b.opened + n), why.TooLarge)
    ∷ (not (is_message f) && nat_lt COMMAND_OCTETS n, why.TooLarge)
    ∷ [])

-- found with the whole frame, of the body of a command
abbrev pub command_fault : Want → Expected → List ℕ → Option ZmtpWhy
command_fault want e o = first_row
    ((not (has_name o), why.CommandName)
    ∷ (awaits_ready e && is_error o, why.PeerError)
    ∷ (awaits_ready e && not (is_ready o), why.Order)
    ∷ (awaits_ready e && not (is_some (properties (rest o))), why.Metadata)
    ∷ (awaits_ready e && not (has_socket want o), why.SocketType)
    ∷ (awaits_ready e && not (has_identity want o), why.Identity)
    ∷ [])

-- found with the whole frame, of its flags and its body
abbrev pub body_fault : Want → Before → ℕ → List ℕ → Option ZmtpWhy
body_fault want b f o = if is_message f then None else command_fault want b.expected o

-- what is wrong with the frame whose octets from its flags octet on are o: the first of the tests whose octets are
-- there
unfoldable pub frame_why : Want → Before → List ℕ → Option ZmtpWhy
frame_why want b o =
    option_or (once (nat_le 1 (length o)) (flags_fault b (flags o)))
    (option_or (once (has_header o) (size_fault b (flags o) (size o)))
    (once (is_whole o) (body_fault want b (flags o) (body o))))

-- the same with its place, the flags octet
abbrev pub frame_fault : Want → Before → List ℕ → Option ZmtpFault
frame_fault want b o = option_map (λ reason. record { why = reason; place = b.place }) (frame_why want b o)

-- the fault of the part at the front of o, by what is expected there
abbrev pub fault_at : Expected → Want → Before → List ℕ → Option ZmtpFault
fault_at expect.Greeting want b o = greeting_fault 0 (take 64 o)
fault_at expect.Ready want b o = frame_fault want b o
fault_at expect.Traffic want b o = frame_fault want b o

-- the fault of the part at the front of o
abbrev pub fault_of : Want → Before → List ℕ → Option ZmtpFault
fault_of want b o = fault_at b.expected want b o

-- ---- whole parts

-- how many octets the part at the front of o has, where it is whole
abbrev pub whole_len : Expected → List ℕ → Option ℕ
whole_len expect.Greeting o = if nat_le 64 (length o) then Some 64 else None
whole_len expect.Ready o = if is_whole o then Some (frame_len o) else None
whole_len expect.Traffic o = if is_whole o then Some (frame_len o) else None

-- the same, where it has no fault
unfoldable pub part_len : Want → Before → List ℕ → Option ℕ
part_len want b o = if is_some (fault_of want b o) then None else whole_len b.expected o

-- The parts after those before, the last one first, and the octets after them. The number bounds how many parts there
-- can be.
unfoldable pub cut : Want → Kind → ℕ → Parts → List ℕ → Parts × List ℕ
cut want kind zero parts o = (parts, o)
cut want kind (suc n) parts o =
    unwrap_or (option_map (λ len. cut want kind n (take len o ∷ parts) (drop len o))
    (part_len want (before kind parts) o)) (parts, o)

-- The longest list of whole and faultless parts that stand one after another in o, the last one first, and the octets
-- after them.
abbrev pub split : Want → Kind → List ℕ → Parts × List ℕ
split want kind o = cut want kind (length o) [] o

-- ---- items

-- what a frame says, by its flags, size and body; one that another of its message follows says nothing yet
abbrev pub said : Expected → List (List ℕ) → ℕ → ℕ → List ℕ → Option What
said expect.Greeting opened f n o = None
said expect.Ready opened f n o = Some (Ready n (socket_type o) (identity o))
said expect.Traffic opened f n o =
    if not (is_message f) then Some (Command n (name o) o)
    else if has_more f then None
    else Some (Message (opened ++ o ∷ []))

-- what a part says, after the parts before it
abbrev pub what_of : Expected → List (List ℕ) → List ℕ → Option What
what_of expect.Greeting opened part = Some (Greeting (slice_index part 10) (slice_index part 11))
what_of expect.Ready opened part = said expect.Ready opened (flags part) (size part) (body part)
what_of expect.Traffic opened part = said expect.Traffic opened (flags part) (size part) (body part)

-- A message begins at its first frame, everything else at its own first octet.
abbrev pub start_of : Expected → Before → ℕ → ℕ
start_of expect.Greeting b f = b.place
start_of expect.Ready b f = b.place
start_of expect.Traffic b f = if is_message f then b.start else b.place

-- the item that ends with a part, if one does
unfoldable pub item : Before → List ℕ → Option Item
item b part =
    option_map (λ says. record {
      start = start_of b.expected b (flags part);
      end = b.place + length part;
      what = says;
    }) (what_of b.expected b.opened part)

-- the items that end with the parts
abbrev pub items_of : Kind → Parts → List Item
items_of kind [] = []
items_of kind (part ∷ parts) = items_of kind parts ++ option_to_list (item (before kind parts) part)

-- ---- the definitions that contracts cite

-- what is whole, in the order of ends
abbrev pub items : Want → Kind → List ℕ → List Item
items want kind o = items_of kind (split want kind o).0

-- the reason and place of the first fault
abbrev pub fault : Want → Kind → List ℕ → Option ZmtpFault
fault want kind o = fault_of want (before kind (split want kind o).0) (split want kind o).1

-- no message is unfinished, and nothing stands after the last item
pub record IsAtRest (want : Want) (kind : Kind) (o : List ℕ) : Type 0 where
  pub nothing_left : (split want kind o).1 ≡ []
  pub nothing_open : opened kind (split want kind o).0 ≡ []

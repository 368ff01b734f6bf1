-- One frame (RFC 23, framing): a flags octet, a size and a body of that size.
use Rattle.std.specs.Prelude.{ℕ, ◌+◌, Bool, ◌||◌, ◌&&◌, nat_le, nat_lt, ◌==◌, if◌then◌else◌, List, length, take, drop}
use Rattle.std.specs.Prelude.{slice_index, Option, Some, None}
use Rattle.std.specs.Int.{w64, from_be_bytes}
use Rattle.zre_zmtp.specs.declared.header.Header.{Header}

-- flags are 0, 1, 2, 3, 4 or 6
abbrev pub is_flags : ℕ → Bool
is_flags f = nat_le f 4 || f == 6

-- a frame of a message, and no command
abbrev pub is_message : ℕ → Bool
is_message f = nat_lt f 4

-- a frame that another of the same message follows
abbrev pub has_more : ℕ → Bool
has_more f = f == 1 || f == 3

-- a frame whose size field has eight octets
abbrev pub is_long : ℕ → Bool
is_long f = f == 2 || f == 3 || f == 6

-- what follows is of the octets o from a flags octet on

-- the flags octet
abbrev pub flags : List ℕ → ℕ
flags o = slice_index o 0

-- how many octets the flags and the size field have
abbrev pub header_len : List ℕ → ℕ
header_len o = if is_long (flags o) then 9 else 2

-- whether all of these are there
abbrev pub has_header : List ℕ → Bool
has_header o = nat_le 1 (length o) && nat_le (header_len o) (length o)

-- the size of the body, once the header is there
abbrev pub size : List ℕ → ℕ
size o = if is_long (flags o) then from_be_bytes w64 (take 8 (drop 1 o)) else slice_index o 1

-- how many octets the frame has, once the header is there
abbrev pub frame_len : List ℕ → ℕ
frame_len o = header_len o + size o

-- whether all of these are there
abbrev pub is_whole : List ℕ → Bool
is_whole o = has_header o && nat_le (frame_len o) (length o)

-- the body, once the frame is whole
abbrev pub body : List ℕ → List ℕ
body o = take (size o) (drop (header_len o) o)

-- what the header says, once it is there
abbrev pub header_of : List ℕ → Option Header
header_of o = if has_header o then Some (record { flags = flags o; size = size o }) else None

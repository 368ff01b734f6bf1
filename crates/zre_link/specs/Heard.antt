-- What comes back on a link, and what is held of it.
use Rattle.std.specs.Prelude.{ℕ, zero, suc, false, List, ◌++◌, length, drop, Option, Some, None}
use Rattle.zre_zmtp.specs.declared.fault.ZmtpFault.{ZmtpFault}
use Rattle.zre_zmtp.specs.declared.fault.FeedFault.TheVariants.{Zmtp}
use Rattle.zre_zmtp.specs.declared.expected.Expected.{Expected}
use Rattle.zre_zmtp.specs.declared.expected.Expected.TheVariants as expect
use Rattle.zre_zmtp.specs.declared.want.Want.TheVariants.{Router}
use Rattle.zre_zmtp.specs.Ping.{contexts_in}
use Rattle.zre_zmtp.specs.Stream.{Whole, expected, before, split, items, fault}
use Rattle.zre_zmtp.specs.Reading.{Reading, kept}
use Rattle.zre_link.specs.declared.awaits.Awaits.{Awaits}
use Rattle.zre_link.specs.declared.awaits.Awaits.TheVariants as awaits
use Rattle.zre_link.specs.declared.hearing.Hearing.{Hearing}
use Rattle.zre_link.specs.declared.hearing.Hearing.TheVariants.{Reads, Refused}

-- the first fault of replies: they are the stream of a ROUTER
abbrev pub reply_fault : List ℕ → Option ZmtpFault
reply_fault o = fault Router Whole o

-- what comes next in replies
abbrev pub awaited : List ℕ → Expected
awaited o = expected Whole (split Router Whole o).0

-- the contexts of the PINGs in replies, in their order, before the fault where there is one
abbrev pub pings : List ℕ → List (List ℕ)
pings o = contexts_in (items Router Whole o)

-- those that are whole with more octets
abbrev pub new_pings : List ℕ → List ℕ → List (List ℕ)
new_pings o more = drop (length (pings o)) (pings (o ++ more))

-- ---- what is held

-- what a reader keeps after replies without a fault
abbrev pub reading : List ℕ → Reading
reading o =
    record {
      before = before Whole (split Router Whole o).0;
      left = (split Router Whole o).1;
      spent = false;
      wanted = Router;
    }

-- a fault ends the reading, and stays
abbrev pub hearing_by : Option ZmtpFault → Reading → Hearing
hearing_by None r = Reads r
hearing_by (Some f) r = Refused (Zmtp f)

-- what contracts see of replies: what comes next, and what was read or found wrong
pub record Heard : Type 0 where
  pub awaits : Expected
  pub hearing : Hearing

-- after the replies o, which came in whichever pieces
abbrev pub heard_after : List ℕ → Heard
heard_after o = record { awaits = awaited o; hearing = hearing_by (reply_fault o) (reading o) }

-- how many octets are held, by what is done with octets
abbrev pub held_in : Hearing → ℕ
held_in (Reads r) = kept r
held_in (Refused f) = 0

-- how many octets are held
abbrev pub held_of : Heard → ℕ
held_of h = held_in h.hearing

-- ---- how far the other end has come

-- the same part, as zre_zmtp names it
abbrev pub expected_of : Awaits → Expected
expected_of awaits.Greeting = expect.Greeting
expected_of awaits.Ready = expect.Ready
expected_of awaits.Traffic = expect.Traffic

-- what comes next after so many items more
abbrev pub expected_after : Expected → ℕ → Expected
expected_after e zero = e
expected_after expect.Greeting (suc zero) = expect.Ready
expected_after e (suc n) = expect.Traffic

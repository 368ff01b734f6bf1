-- Which entries come of a look at which source.
use Rattle.std.specs.Prelude.{ℕ, ◌≡◌, ◌+◌, ⊤}
use Rattle.zre_outside.specs.declared.entry.Input.{Input}
use Rattle.zre_outside.specs.declared.entry.Input.TheVariants as input
use Rattle.zre_fabric.specs.declared.polled.Polled.{Polled}
use Rattle.zre_fabric.specs.declared.polled.Polled.TheVariants as step

abbrev pub IsPieceOf : ℕ → Input → Type 0
IsPieceOf n (input.Piece conn bytes) = conn ≡ n
IsPieceOf n _ = ⊥

abbrev pub IsShutOf : ℕ → Input → Type 0
IsShutOf n (input.Shut conn) = conn ≡ n
IsShutOf n _ = ⊥

-- of a connection come its pieces, and last that it is shut
abbrev pub IsOfConn : ℕ → Polled → Type 0
IsOfConn n (step.More i) = IsPieceOf n i
IsOfConn n (step.Last i) = IsShutOf n i
IsOfConn n step.Rest = ⊤
IsOfConn n _ = ⊥

abbrev pub IsNewsOf : ℕ → Input → Type 0
IsNewsOf n (input.Linked link) = link ≡ n
IsNewsOf n (input.Reply link bytes) = link ≡ n
IsNewsOf n (input.Took link count) = link ≡ n
IsNewsOf n _ = ⊥

abbrev pub IsUnlinkedOf : ℕ → Input → Type 0
IsUnlinkedOf n (input.Unlinked link) = link ≡ n
IsUnlinkedOf n _ = ⊥

-- of a link come that it stands, replies and counts, and last that it is gone
abbrev pub IsOfLink : ℕ → Polled → Type 0
IsOfLink n (step.More i) = IsNewsOf n i
IsOfLink n (step.Last i) = IsUnlinkedOf n i
IsOfLink n step.Rest = ⊤
IsOfLink n _ = ⊥

abbrev pub IsDatagram : Input → Type 0
IsDatagram (input.Datagram from bytes) = ⊤
IsDatagram _ = ⊥

-- of the socket for beacons come datagrams
abbrev pub IsOfBeacons : Polled → Type 0
IsOfBeacons (step.More i) = IsDatagram i
IsOfBeacons (step.Last i) = ⊥
IsOfBeacons _ = ⊤

-- the connection that comes after so many others is opened
abbrev pub IsOpening : ℕ → Input → Type 0
IsOpening n (input.Opened conn) = conn ≡ n + 1
IsOpening n _ = ⊥

-- of the listener come openings, and one more connection is open after each, and after nothing else
abbrev pub IsOfMailbox : ℕ → ℕ → Polled → Type 0
IsOfMailbox old new (step.More i) = IsOpening old i × (new ≡ old + 1)
IsOfMailbox old new (step.Last i) = ⊥
IsOfMailbox old new _ = new ≡ old

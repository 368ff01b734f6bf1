-- What a command that reads, and one that doesn't, say of refused reads.
use Rattle.std.proofs.Common.{◌≡◌, ◌≢◌, Option, refl}
use mathlib.Core.Logic.{inl, inr}
use Rattle.zre_outside.specs.Refusals.{Refusals}
use Rattle.zre_commands.specs.declared.pump.status.Status.{Status}
use Rattle.zre_commands.specs.declared.pump.status.Status.TheVariants as statuses
use Rattle.zre_commands.specs.pump.Outcome.{IsByRefusal}
use Rattle.zre_console.specs.Statuses.{IsFirst, IsReadSo, Yields}

pub nothing_read : (status : Status) (a : Option Refusals) → status ≢ statuses.ReadFault → IsByRefusal status a a
nothing_read status a other = ((λ e. absurd (other e)), (λ n. refl))

pub memory_read : (a : Option Refusals) → IsByRefusal statuses.OutOfMemory a a
memory_read a = nothing_read statuses.OutOfMemory a (λ e. cc)

pub memory_read_so : (a : Option Refusals) → IsReadSo statuses.OutOfMemory a a
memory_read_so a = inl (refl, (λ e. cc))

pub unread_so : (status : Status) (a : Option Refusals) → status ≢ statuses.ReadFault → IsReadSo status a a
unread_so status a other = inl (refl, other)

-- nothing was asked
pub nothing_first : (status : Status) {O R W P : Type 0} (o : O) (r : R) (w : W) (p : P) → IsFirst status (o ≡ o) (r ≡ r) (w ≡ w) (p ≡ p)
nothing_first status o r w p = record { written = inl refl; recorded = inl refl; given = inl refl; started = inl refl }

-- only a line was written
pub line_first : (status : Status) (none : Type 0) {R W P : Type 0} (r : R) (w : W) (p : P) → Yields status statuses.WriteFault none → IsFirst status none (r ≡ r) (w ≡ w) (p ≡ p)
line_first status none r w p y = record { written = y; recorded = inl refl; given = inl refl; started = inl refl }

pub read_so : (status : Status) (a b : Option Refusals) → IsByRefusal status a b → IsReadSo status a b
read_so statuses.ReadFault a b by = inr (by.0 refl, inl refl)
read_so statuses.Done a b by = inl (by.1 (λ e. cc), λ e. cc)
read_so statuses.Usage a b by = inl (by.1 (λ e. cc), λ e. cc)
read_so statuses.BadInput a b by = inl (by.1 (λ e. cc), λ e. cc)
read_so statuses.WriteFault a b by = inl (by.1 (λ e. cc), λ e. cc)
read_so statuses.WorldFault a b by = inl (by.1 (λ e. cc), λ e. cc)
read_so statuses.NoThread a b by = inl (by.1 (λ e. cc), λ e. cc)
read_so statuses.TooLong a b by = inl (by.1 (λ e. cc), λ e. cc)
read_so statuses.OutOfMemory a b by = inl (by.1 (λ e. cc), λ e. cc)
read_so statuses.DeskFault a b by = inl (by.1 (λ e. cc), λ e. cc)

-- The numbers by which the poll names the sources of entries.
use Rattle.std.specs.Prelude.{ℕ, ◌+◌, ◌*◌}
use Rattle.zre_fabric.specs.declared.entry_source.EntrySource.{EntrySource}
use Rattle.zre_fabric.specs.declared.entry_source.EntrySource.TheVariants.{Beacons, Mailbox, Bell, Conn, Link}

-- 0, 1 and 2, then links at the odd numbers and connections at the even ones: no two sources have the same
abbrev pub number_of : EntrySource → ℕ
number_of Beacons = 0
number_of Mailbox = 1
number_of Bell = 2
number_of (Conn n) = 2 * n + 4
number_of (Link n) = 2 * n + 3

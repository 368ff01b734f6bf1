-- Kinds of entries.
use Rattle.std.specs.Prelude.{ℕ, List, Bool, true, false}
use Rattle.zre_outside.specs.declared.entry.Entry.{Entry}
use Rattle.zre_outside.specs.declared.entry.Input.{Input}
use Rattle.zre_outside.specs.declared.entry.Input.TheVariants as input

-- a link stands, breaks, or has taken octets
abbrev pub is_about_link : Input → Bool
is_about_link (input.Linked l) = true
is_about_link (input.Unlinked l) = true
is_about_link (input.Took l n) = true
is_about_link _ = false

-- a datagram, a connection that comes or goes, or one of these
abbrev pub is_incoming : Input → Bool
is_incoming (input.Datagram from o) = true
is_incoming (input.Opened c) = true
is_incoming (input.Shut c) = true
is_incoming i = is_about_link i

-- the entry of these octets of a connection, with a reading of the clock
abbrev pub piece_entry : ℕ → ℕ → List ℕ → Entry
piece_entry at c o = record { at = at; input = input.Piece c o }

-- octets of a connection
abbrev pub is_piece : Input → Bool
is_piece (input.Piece c o) = true
is_piece _ = false

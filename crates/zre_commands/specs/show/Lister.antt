-- What the machine of `show` knows of the octets that it was fed.
use Rattle.std.specs.Prelude.{ℕ, List}
use Rattle.zre_zmtp.specs.Stream.{Whole}
use Rattle.zre_commands.specs.Stream.{HasRead}
use Rattle.zre_commands.specs.declared.show.lister.Lister.{Lister}

-- the machine was fed these octets: it knows their fault, or its reader stands after them
abbrev pub Fed : Lister → List ℕ → Type 0
Fed l o = HasRead Whole o l.fault l.reader

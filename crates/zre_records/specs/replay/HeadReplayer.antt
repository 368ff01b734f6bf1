-- What the machine of `replay` without words knows of the octets that it was fed.
use Rattle.std.specs.Prelude.{ℕ, List}
use Rattle.zre_node.specs.Journal.{StandsFor}
use Rattle.zre_records.specs.declared.replay.head_replayer.HeadReplayer.{HeadReplayer}
use Rattle.zre_records.specs.replay.Headed.{Follows}

-- the machine was fed these octets: it follows them
abbrev pub Fed : HeadReplayer → List ℕ → Type 0
Fed r o = Follows (λ g J n. StandsFor g J n) r.headed o

use Rattle.std.proofs.Common.{◌≡◌, Bool, filter, take}
use Rattle.std.specs.Fn.{FnReturnsAt}
use Rattle.zre_tables.specs.Rows.{passes_at}
use Rattle.zre_tables.specs.declared.peer.Peer.{Peer}
use Rattle.zre_tables.proofs.searches.among.Given as goal

-- those of the links so far
abbrev pub invariant-loop-link : goal.invariant-loop-link
invariant-loop-link g l = (test : Peer → Bool) → ((x : Peer) (b : Bool) → FnReturnsAt g.F.Fn l.passes x b → b ≡ test x) → l.found ≡ filter (passes_at test l.rows.all.items) (take l.link-index l.links)

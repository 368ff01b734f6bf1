use Rattle.std.proofs.Common.{sym, ◌∙◌}
use Rattle.zre_shared.specs.Writes.{pair_of}
use Rattle.zre_shared.proofs.reading.pair.Goals as goal

pub returns : goal.returns
unfolding pair_of
returns c = rw (sym c.in_ok-key.ensures ∙ c.in-Some.is) (c.both.ensures _ c.short-2.ensures)

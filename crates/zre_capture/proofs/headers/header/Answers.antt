use Rattle.std.proofs.Common.{sym, ◌∙◌}
use Rattle.zre_capture.specs.Headers.{header_in}
use Rattle.zre_capture.proofs.headers.header.Goals as goal

pub returns : goal.returns
unfolding header_in
returns c = rw (sym c.in-Some.ensures, sym c.in_ok-value.ensures ∙ c.in-Some-2.is) (c.both.ensures _ c.short-2.ensures)

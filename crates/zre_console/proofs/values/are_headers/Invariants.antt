use Rattle.std.proofs.Common.{All, take}
use Rattle.zre_capture.specs.Heads.{IsHeader}
use Rattle.zre_console.proofs.values.are_headers.Given as goal

-- those so far are values of their types
abbrev pub invariant-loop-header : goal.invariant-loop-header
invariant-loop-header l = All IsHeader (take l.header-index l.header-items)

use Rattle.std.proofs.Common.{◌≡◌, take}
use Rattle.zre_audit.specs.Kept.{lines_of}
use Rattle.zre_audit.proofs.put.Put.links.Given as goal

abbrev pub invariant-loop-line : goal.invariant-loop-line
invariant-loop-line l = l.links ≡ lines_of l.self.messages (take l.line-index l.line-items) l.id

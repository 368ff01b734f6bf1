use Rattle.std.proofs.Common.{◌≡◌, take}
use Rattle.zre_audit.specs.Kept.{all_noted}
use Rattle.zre_audit.proofs.put.note_all.Given as goal

abbrev pub invariant-loop-link : goal.invariant-loop-link
invariant-loop-link l = l.lines.items ≡ all_noted l.place l.fn.lines.items (take l.link-index l.links)

use Rattle.std.proofs.Common.{◌≡◌, ◌≤◌, length, drop}
use Rattle.std.specs.List.{fold}
use Rattle.zre_peer.specs.Members.{with_header, first_named}
use Rattle.zre_peer.proofs.hello.first_named_of.Given as goal

abbrev pub invariant-loop-header : goal.invariant-loop-header
invariant-loop-header l = (fold with_header l.found (drop l.header-index l.header-items) ≡ first_named l.headers) × (length l.found ≤ 256)

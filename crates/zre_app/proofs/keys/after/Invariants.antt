use Rattle.std.proofs.Common.{◌≡◌, drop}
use Rattle.zre_app.specs.Keys.{after}
use Rattle.zre_app.proofs.keys.after.Given as goal

abbrev pub invariant-loop-k : goal.invariant-loop-k
invariant-loop-k l = after (drop l.k-index l.key) l.rest ≡ after l.key l.word

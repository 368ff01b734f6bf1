use Rattle.std.proofs.Common.{◌≡◌, drop}
use Rattle.zre_app.specs.Keys.{value_of}
use Rattle.zre_app.proofs.keys.value_of.Given as goal

abbrev pub invariant-loop-word : goal.invariant-loop-word
invariant-loop-word l = value_of l.key (drop l.word-index l.words) ≡ value_of l.key l.words

use Rattle.std.proofs.Common.{◌≡◌, [], drop}
use Rattle.zre_app.specs.NodeWords.{headers_from}
use Rattle.zre_app.proofs.node_words.headers_in.Given as goal

-- the headers so far, with those of the other words
abbrev pub invariant-loop-word : goal.invariant-loop-word
invariant-loop-word l = headers_from l.headers (drop l.word-index l.words) ≡ headers_from [] l.words

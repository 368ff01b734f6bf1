use Rattle.std.proofs.Common.{◌≡◌, [], drop}
use Rattle.zre_app.specs.ChatWords.{addresses_from}
use Rattle.zre_app.proofs.chat_words.addresses_in.Given as goal

-- the addresses so far, with those of the other words
abbrev pub invariant-loop-word : goal.invariant-loop-word
invariant-loop-word l = addresses_from l.to (drop l.word-index l.words) ≡ addresses_from [] l.words

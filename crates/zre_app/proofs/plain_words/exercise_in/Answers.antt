use Rattle.std.proofs.Common.{refl, sym}
use Rattle.zre_app.proofs.plain_words.exercise_in.Goals as goal

pub returns-clause-value : goal.returns-clause-value
returns-clause-value c = sym (rw (sym c.in_ok-seed.ensures.value, sym c.in_ok-peers.ensures.value, sym c.in_ok-messages.ensures.value) refl)

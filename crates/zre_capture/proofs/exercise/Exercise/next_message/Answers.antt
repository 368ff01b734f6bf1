use Rattle.std.proofs.Common.{◌+◌, ◌%◌, ap, ◌∙◌, arith}
use Rattle.zre_capture.specs.Draws.{upper_half}
use Rattle.zre_capture.proofs.EntriesLeft.{at_messages, given_two, message_comes}
use Rattle.zre_capture.proofs.exercise.Exercise.next_message.Goals as goal

pub returns-clause-given : goal.returns-clause-given
returns-clause-given c =
    let s = c.args.self.now in
    let is = c.in-Messages.is in
    given_two s _ _ _ is (at_messages s is
    ∙ message_comes s.peers s.x s.message s.messages c.spell-after.new.out c.cut_by-self.result c.drawn-self.result c.spell-after.result
    (omega (arith, c.if-self.false)) c.spell-after.ensures.octets c.spell-after.ensures.after c.drawn-self.ensures
    (c.cut_by-self.ensures.value ∙ ap (λ n. n % (c.len.result + 1)) c.upper_half.ensures
    ∙ ap (λ n. upper_half c.drawn-self.result % (n + 1)) c.len.ensures.value))

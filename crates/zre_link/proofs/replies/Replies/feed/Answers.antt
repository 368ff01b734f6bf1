use Rattle.std.proofs.Common.{◌∙◌}
use Rattle.zre_link.specs.Heard.{Heard, expected_of}
use Rattle.zre_link.proofs.HeardReplies.{stays_refused}
use Rattle.zre_link.proofs.replies.Replies.feed.Goals as goal

pub returns-in-Refused-clause-refused : goal.returns-in-Refused-clause-refused
returns-in-Refused-clause-refused g c = λ o e.
    let was : Heard = record { awaits = expected_of c.self.inside.awaits; hearing = c.self.inside.hearing } in
    stays_refused o c.args.piece.now was c.in-Refused.fault c.args.out.now c.requires (c.self.view_is ∙ e) c.in-Refused.is

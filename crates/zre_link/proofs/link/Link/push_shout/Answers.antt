use Rattle.std.proofs.Common.{refl, ◌∙◌, arith}
use Rattle.zre_msg.specs.declared.message.Body.TheVariants.{Shout}
use Rattle.zre_link.specs.Link.{Sending}
use Rattle.zre_link.proofs.AppendedMembers.{pushed}
use Rattle.zre_link.proofs.link.Link.push_shout.Goals as goal

pub returns-clause-ok : goal.returns-clause-ok
returns-clause-ok c = λ own line linked o n e.
    let i = c.self.inside in
    let was : Sending = record { queue = i.queue; sent = i.sent; written = i.written; taken = i.taken; linked = i.linked; replies = i.replies } in
    let body = Shout c.args.group.now c.args.tail.now in
    pushed own line body body linked o n was c.queue_shout.new.queue c.in-Some.sent c.in_ok-self-inside.field-0
    (c.self.view_is ∙ e) c.self.invariant.0 (omega (arith, c.in-Some.ensures)) refl c.in_ok-self-inside.ensures.queued.0

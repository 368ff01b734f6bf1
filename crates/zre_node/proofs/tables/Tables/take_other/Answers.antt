use Rattle.std.proofs.Common.{◌≡◌, refl, sym, ap, ◌∙◌, subst, arith}
use Rattle.zre_outside.specs.declared.entry.Input.TheVariants as input
use Rattle.zre_zmtp.specs.Looks.{Looks}
use Rattle.zre_journal.specs.Happens.{with_entry}
use Rattle.zre_journal.specs.Held.{kept}
use Rattle.zre_node.specs.Brings.{octets_of}
use Rattle.zre_node.proofs.LooksOfEntries.{quiet_looks, quiet_other}
use Rattle.zre_node.proofs.tables.Tables.take_other.Goals as goal

pub returns-in-Reply-clause-looks : goal.returns-in-Reply-clause-looks
returns-in-Reply-clause-looks over c = λ g H h.
    let e = c.args.entry in
    let is : e.input ≡ input.Reply c.in-Reply.link c.as_slice.result.now = c.in-Reply.is ∙ ap (λ o. input.Reply c.in-Reply.link o) (sym c.as_slice.ensures) in
    subst (λ n. Looks c.args.steps.now c.take_reply.new.steps (kept g H) (kept g (with_entry g e H)) n c.take_reply.result) (sym (ap octets_of is)) (c.take_reply.ensures.looks g H e is h)

pub returns-in-Tick-clause-looks : goal.returns-in-Tick-clause-looks
returns-in-Tick-clause-looks over c = λ g H h. quiet_looks g c.args.entry H c.args.self.now h input.Tick c.in-Tick.is refl c.take_tick.result c.args.steps.now

pub returns-in-Do-Quit-clause-looks : goal.returns-in-Do-Quit-clause-looks
returns-in-Do-Quit-clause-looks over c = λ g H h. quiet_looks g c.args.entry H c.args.self.now h (input.Do c.in-Do-Quit.field-0) c.in-Do-Quit.is refl c.take_stop.result c.args.steps.now

pub returns-in-Do-clause-looks : goal.returns-in-Do-clause-looks
returns-in-Do-clause-looks over c = λ g H h. quiet_looks g c.args.entry H c.args.self.now h (input.Do c.in-Do.command) c.in-Do.is refl c.take_command.result c.args.steps.now

pub returns-in-End-clause-looks : goal.returns-in-End-clause-looks
returns-in-End-clause-looks over c = λ g H h. quiet_looks g c.args.entry H c.args.self.now h input.End c.in-End.is refl c.take_stop-in-End.result c.args.steps.now

pub returns-in_default-clause-looks : goal.returns-in_default-clause-looks
returns-in_default-clause-looks over c = λ g H h.
    quiet_looks g c.args.entry H c.args.self.now h c.args.entry.input refl (quiet_other c.args.entry.input c.requires c.in_default.not-Reply) c.take_incoming.result c.args.steps.now

pub returns-in-Reply-clause-once : goal.returns-in-Reply-clause-once
returns-in-Reply-clause-once over c =
    let is : c.args.entry.input ≡ input.Reply c.in-Reply.link c.as_slice.result.now = c.in-Reply.is ∙ ap (λ o. input.Reply c.in-Reply.link o) (sym c.as_slice.ensures) in
    omega (arith, c.take_reply.ensures.once, ap octets_of is)

use Rattle.std.proofs.Common.{◌∙◌, Some, ap, sym, arith}
use Rattle.zre_net.specs.Lines.{octets_in}
use Rattle.zre_net.proofs.ListsCountedFromOne.{there}
use Rattle.zre_net.proofs.RowsOfLinks.{lines_stay, set_there, set_counted, noted_at}
use Rattle.zre_net.proofs.running.lines.Lines.note.Goals as goal

pub invariant_of-self : goal.invariant_of-self
invariant_of-self c = (
  c.self.invariant.0 ∙ ap octets_in (sym (lines_stay c.self.inside.texts c.note.ensures.grows.0 c.note.new.texts c.note.ensures.grows.1 c.self.inside.rows.items c.self.invariant.1 c.args.place c.index_mut-row.result.now c.note.new.self (there c.self.inside.rows.items c.args.place _ (let n = c.len.ensures in let z = c.if-place-len.false in let o = c.self.inside.rows.ok.0 in omega (arith, n, z, o)) ∙ ap Some (sym c.index_mut-row.ensures.value)) c.in_err-self-inside.ensures.unchanged)),
  set_there c.self.inside.texts c.note.ensures.grows.0 c.note.new.texts c.note.ensures.grows.1 c.self.inside.rows.items c.self.invariant.1 c.args.place c.note.new.self c.note.ensures.there,
)

pub invariant_of-self-2 : goal.invariant_of-self-2
invariant_of-self-2 c = (
  set_counted c.self.inside.texts c.note.ensures.grows.0 c.note.new.texts c.note.ensures.grows.1 c.self.inside.rows.items c.self.invariant.1 c.args.place c.index_mut-row.result.now c.note.new.self c.self.inside.octets c.in_ok-self-inside.field-0 (there c.self.inside.rows.items c.args.place _ (let n = c.len.ensures in let z = c.if-place-len.false in let o = c.self.inside.rows.ok.0 in omega (arith, n, z, o)) ∙ ap Some (sym c.index_mut-row.ensures.value)) c.self.invariant.0 c.in_ok-self-inside.ensures.octets,
  set_there c.self.inside.texts c.note.ensures.grows.0 c.note.new.texts c.note.ensures.grows.1 c.self.inside.rows.items c.self.invariant.1 c.args.place c.note.new.self c.note.ensures.there,
)

pub returns : goal.returns
returns c =
    noted_at c.self.inside.texts c.note.ensures.grows.0 c.note.new.texts c.note.ensures.grows.1 c.self.inside.rows.items c.self.invariant.1 c.args.sent c.args.place c.args.waits.now c.index_mut-row.result.now c.note.new.self c.args.self.now (there c.self.inside.rows.items c.args.place _ (let n = c.len.ensures in let z = c.if-place-len.false in let o = c.self.inside.rows.ok.0 in omega (arith, n, z, o)) ∙ ap Some (sym c.index_mut-row.ensures.value)) c.self.view_is c.in_ok-self-inside.ensures.noted

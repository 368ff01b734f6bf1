use Rattle.std.proofs.Common.{◌++◌, sym, ap, ◌∙◌}
use Rattle.std.specs.Prelude.{is_some}
use Rattle.zre_zmtp.specs.Stream.{Whole}
use Rattle.zre_commands.specs.show.Lines.{lines}
use Rattle.zre_commands.proofs.StreamInPieces.{going_reads, not_spent, items_are}
use Rattle.zre_commands.proofs.show.ListerFedPiece.{text_grows, text_on}
use Rattle.zre_commands.proofs.show.lister.ListerMachine.feed.Goals as goal

pub returns-then-spent-clause-fed : goal.returns-then-spent-clause-fed
returns-then-spent-clause-fed c = λ o h going. not_spent Whole o _ _ h going (sym c.spent.ensures ∙ c.if-spent.true)

pub returns-then-spent-clause-text : goal.returns-then-spent-clause-text
returns-then-spent-clause-text c = λ o h going. not_spent Whole o _ _ h going (sym c.spent.ensures ∙ c.if-spent.true)

pub returns-then-spent-clause-stop : goal.returns-then-spent-clause-stop
returns-then-spent-clause-stop c = λ o h going. not_spent Whole o _ _ h going (sym c.spent.ensures ∙ c.if-spent.true)

pub returns-clause-fed : goal.returns-clause-fed
returns-clause-fed c = λ o h going. (c.in_ok-fault.ensures Whole o (going_reads Whole o _ _ h going)).read

pub returns-clause-text : goal.returns-clause-text
returns-clause-text c = λ o h going.
    let p = c.in_ok-fault.ensures Whole o (going_reads Whole o _ _ h going) in
    text_on o c.args.piece.now c.args.out.now c.push_lines.new.out c.read_piece.new.items
    (items_are Whole o c.args.piece.now c.in_ok-fault.fault c.read_piece.new.reader c.clear.new.self c.read_piece.new.items c.clear.ensures p)
    (c.in_ok-push_lines.ensures ∙ ap (λ is. c.args.out.now ++ lines is) c.as_slice.ensures)

pub returns-clause-stop : goal.returns-clause-stop
returns-clause-stop c = λ o h going. c.going_after.ensures ∙ ap is_some (c.in_ok-fault.ensures Whole o (going_reads Whole o _ _ h going)).read.faulty

-- ---- the text of more octets begins with that of fewer

pub returns-then-spent-clause-longer : goal.returns-then-spent-clause-longer
returns-then-spent-clause-longer c = λ o. text_grows o c.args.piece.now

pub returns-in_err-fault-clause-longer : goal.returns-in_err-fault-clause-longer
returns-in_err-fault-clause-longer c = λ o. text_grows o c.args.piece.now

pub returns-in_err-push_lines-clause-longer : goal.returns-in_err-push_lines-clause-longer
returns-in_err-push_lines-clause-longer c = λ o. text_grows o c.args.piece.now

pub returns-clause-longer : goal.returns-clause-longer
returns-clause-longer c = λ o. text_grows o c.args.piece.now

use Rattle.std.proofs.Common.{◌≡◌, List, [], ◌++◌, map, true, false, sym, ap, ◌∙◌, arith}
use Rattle.zre_mailbox.specs.Conn.{ConnHearing, is_ignored, is_spent}
use Rattle.zre_mailbox.specs.Talk.{Arrived, arrivals_in}
use Rattle.zre_zmtp.specs.declared.item.Item.{Item}
use Rattle.zre_tables.proofs.FedConnections.{never_ignored, spent_stays, kept_refused, said_fine, said_faulty}
use Rattle.zre_tables.proofs.feeding.read.Goals as goal

pub returns-then-ignored-clause-heard : goal.returns-then-ignored-clause-heard
returns-then-ignored-clause-heard over c = λ own o e.
    let z : true ≡ false = sym c.if-ignored.true ∙ c.ignored.ensures ∙ ap (λ (h : ConnHearing). is_ignored h) e ∙ never_ignored own o in absurd cc

pub returns-then-ignored-clause-looks : goal.returns-then-ignored-clause-looks
returns-then-ignored-clause-looks over c = λ own o e. (omega arith, tt)

pub returns-then-spent-clause-heard : goal.returns-then-spent-clause-heard
returns-then-spent-clause-heard over c = λ own o e.
    let s = ap (λ (h : ConnHearing). is_spent h) (sym e) ∙ sym c.spent.ensures ∙ c.if-spent.true in
    let q = spent_stays own o c.args.bytes.now s in
    (e ∙ sym q.0, ap (λ (is : List Item). map (λ a. Arrived a) (arrivals_in is) ++ []) c.requires ∙ sym q.1)

pub returns-then-spent-clause-looks : goal.returns-then-spent-clause-looks
returns-then-spent-clause-looks over c = λ own o e. (omega arith, tt)

pub returns-in-Ok-clause-looks : goal.returns-in-Ok-clause-looks
returns-in-Ok-clause-looks over c = λ own o e. (c.in-Ok.ensures.looks.0, tt)

pub returns-in-Err-Zmtp-clause-looks : goal.returns-in-Err-Zmtp-clause-looks
returns-in-Err-Zmtp-clause-looks over c = λ own o e.
    let all = rw c.in-Err-Zmtp.field-0-is at c.in-Err-Zmtp.ensures.refused in
    let r = all own o e in
    let none = kept_refused own (o ++ c.args.bytes.now) _ c.feed_items.new.self r.1.1.now_is r.0 in
    (omega (arith, c.in-Err-Zmtp.ensures.looks.1, none), tt)

pub returns-in-Err-OutOfMemory-clause-looks : goal.returns-in-Err-OutOfMemory-clause-looks
returns-in-Err-OutOfMemory-clause-looks over c = λ own o e. (tt, c.in-Err-OutOfMemory.ensures.looks.1)

pub returns-in-Ok-clause-heard : goal.returns-in-Ok-clause-heard
returns-in-Ok-clause-heard over c = λ own o e. said_fine own o c.args.bytes.now c.feed_items.new.self c.args.items.now c.feed_items.new.items (c.in-Ok.ensures.ok own o e)

pub returns-in-Err-Zmtp-clause-heard : goal.returns-in-Err-Zmtp-clause-heard
returns-in-Err-Zmtp-clause-heard over c = λ own o e.
    let all = rw c.in-Err-Zmtp.field-0-is at c.in-Err-Zmtp.ensures.refused in
    said_faulty own o c.args.bytes.now c.feed_items.new.self c.args.items.now c.feed_items.new.items _ (all own o e)

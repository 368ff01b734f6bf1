use Rattle.std.proofs.Common.{◌++◌, ap, ◌∙◌, List}
use Rattle.std.proofs.lemmas.Result.{IfErr-weaker}
use Rattle.zre_values.proofs.AnswersThatAreOk.{on_ok}
use Rattle.zre_zmtp.specs.declared.item.Item.{Item}
use Rattle.zre_mailbox.specs.Talk.{arrivals_in}
use Rattle.zre_mailbox.proofs.ConnAfterOctets.{heard_onto, refused_onto, refused_looks}
use Rattle.zre_mailbox.proofs.conn.Conn.feed_counted.Goals as goal

pub returns-in-Ok-clause-ok : goal.returns-in-Ok-clause-ok
returns-in-Ok-clause-ok g c = λ own o e.
    let added = c.in-Ok.ensures ∙ ap (λ (is : List Item). c.args.out.now ++ arrivals_in is) c.as_slice.ensures in
    on_ok c.feed_items-fed.result (c.feed_items-fed.ensures.ok own o e)
    (heard_onto own o c.args.piece.now c.feed_items-fed.new.self c.new-items.result c.feed_items-fed.new.items c.args.out.now c.take_items.new.out added)

pub returns-in-Ok-clause-refused : goal.returns-in-Ok-clause-refused
returns-in-Ok-clause-refused g c = λ own o e.
    let added = c.in-Ok.ensures ∙ ap (λ (is : List Item). c.args.out.now ++ arrivals_in is) c.as_slice.ensures in
    IfErr-weaker c.feed_items-fed.result _ _
    (λ f h. refused_onto own o c.args.piece.now c.feed_items-fed.new.self f c.new-items.result c.feed_items-fed.new.items c.args.out.now c.take_items.new.out added h)
    (c.feed_items-fed.ensures.refused own o e)

pub returns-clause-looks : goal.returns-clause-looks
returns-clause-looks g c = (tt, refused_looks c.feed_items-fed.result _ _ _ _ _ c.feed_items-fed.ensures.looks)

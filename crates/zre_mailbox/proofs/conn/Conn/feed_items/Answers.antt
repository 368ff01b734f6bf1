use Rattle.std.proofs.Common.{◌++◌, List, refl, sym, ap, subst, ◌∙◌}
use Rattle.std.specs.Option.{option_or}
use Rattle.zre_zmtp.specs.Reading.{Refuses}
use Rattle.zre_zmtp.specs.Stream.{Whole}
use Rattle.zre_zmtp.specs.declared.item.Item.{Item}
use Rattle.zre_zmtp.specs.declared.want.Want.TheVariants.{Dealer}
use Rattle.zre_mailbox.specs.Talk.{arrivals_in, fault_in}
use Rattle.zre_mailbox.specs.Conn.{ConnHearing, Brings, identity_in}
use Rattle.zre_mailbox.specs.declared.phase.Phase.TheVariants.{Spent}
use Rattle.zre_mailbox.proofs.ConnAfterOctets.{brings_refused, live_reads, heard, refused}
use Rattle.zre_mailbox.proofs.conn.Conn.feed_items.Goals as goal

pub returns-in-Ok-clause-ok : goal.returns-in-Ok-clause-ok
returns-in-Ok-clause-ok g c = λ own o e.
    let live = sym (ap (λ (h : ConnHearing). h.phase) c.self.view_is) ∙ c.in-Live.is in
    let piece = c.args.piece.now in
    let items = c.feed_counted-fed.new.out in
    let fed = c.in-Ok.ensures.ok (Dealer own) Whole o (live_reads own o c.args.self.now c.in-Live.reader e live) in
    let known = c.known_after-self-inside.ensures ∙ ap (λ (is : List Item). option_or c.self.inside.identity (identity_in (arrivals_in is))) c.as_slice.ensures in
    let brings : Brings own o piece c.self.inside.identity c.known_after-self-inside.result c.args.items.now items = record { added = fed.1; identity = known } in
    heard own o piece c.args.self.now c.in-Live.reader c.feed_counted-fed.new.self c.known_after-self-inside.result c.args.items.now items e live c.requires.empty
    (fed.0, subst (λ (h : ConnHearing). Brings own o piece h.identity c.known_after-self-inside.result c.args.items.now items) c.self.view_is brings)

pub returns-in-Err-clause-refused : goal.returns-in-Err-clause-refused
returns-in-Err-clause-refused g c = λ own o e.
    let live = sym (ap (λ (h : ConnHearing). h.phase) c.self.view_is) ∙ c.in-Live.is in
    let piece = c.args.piece.now in
    let items = c.feed_counted-fed.new.out in
    let known = c.known_after-self-inside.ensures ∙ ap (λ (is : List Item). option_or c.self.inside.identity (identity_in (arrivals_in is))) c.as_slice.ensures in
    let brings = brings_refused own o piece c.in-Err.fault c.args.items.now items c.self.inside.identity c.known_after-self-inside.result known
    (c.in-Err.ensures.refused (Dealer own) Whole o (live_reads own o c.args.self.now c.in-Live.reader e live)) in
    rw c.give_up.ensures
    (refused own o piece c.args.self.now c.in-Live.reader c.in-Err.fault Spent c.known_after-self-inside.result c.args.items.now items e live c.requires.empty refl
    (subst (λ (h : ConnHearing). Refuses c.in-Err.fault (fault_in own (o ++ piece)) (Brings own o piece h.identity c.known_after-self-inside.result c.args.items.now items)) c.self.view_is brings))

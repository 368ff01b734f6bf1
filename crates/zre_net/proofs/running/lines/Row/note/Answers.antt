use Rattle.std.proofs.Common.{◌∙◌, ap, sym, subst, arith, drop, refl}
use Rattle.zre_net.specs.Texts.{AreThere}
use Rattle.zre_net.proofs.TextsStay.{all_stay, one_there}
use Rattle.zre_net.proofs.RowsOfLinks.{none_noted, one_noted, one_counted}
use Rattle.zre_net.proofs.running.lines.Row.note.Goals as goal

pub returns-then-sent-count-clause-noted : goal.returns-then-sent-count-clause-noted
returns-then-sent-count-clause-noted c =
    none_noted c.args.texts.now c.args.sent c.len-count.result c.args.waits.now c.args.self.now (record { places = c.args.self.now.places; waited = c.len-self.result }) c.len-count.ensures c.if-sent-count.true refl c.len-self.ensures

pub returns-in_err-place-clause-there : goal.returns-in_err-place-clause-there
returns-in_err-place-clause-there c = all_stay c.args.texts.now c.put.ensures.grows.0 c.put.new.self c.put.ensures.grows.1 c.args.self.now.places c.requires

pub returns-in_err-push-clause-there : goal.returns-in_err-push-clause-there
returns-in_err-push-clause-there c =
    subst (AreThere c.put.new.self) (sym c.in_err-push.ensures.err) (all_stay c.args.texts.now c.put.ensures.grows.0 c.put.new.self c.put.ensures.grows.1 c.args.self.now.places c.requires)

pub returns-clause-noted : goal.returns-clause-noted
returns-clause-noted c =
    one_noted c.args.texts.now c.put.ensures.grows.0 c.put.new.self c.put.ensures.grows.1 c.args.sent c.len-count.result c.args.self.now (record { places = c.push.new.self; waited = c.len-self-2.result }) c.in_ok-place.place c.in_ok-message.message c.requires c.len-count.ensures
    (omega (arith, c.if-saturating_sub-ne1.false, c.saturating_sub.ensures)) c.in_ok-push.ensures.ok c.in_ok-place.ensures.of
    c.args.waits.now
    (c.in_ok-message.ensures ∙ ap (λ n. drop n c.args.waits.now) (omega (arith, c.len-2.ensures, c.len.ensures, c.if-len-self.false)))
    c.len-self-2.ensures

pub returns-clause-octets : goal.returns-clause-octets
returns-clause-octets c =
    one_counted c.args.texts.now c.put.ensures.grows.0 c.put.new.self c.put.ensures.grows.1 c.args.sent c.len-count.result c.args.self.now (record { places = c.push.new.self; waited = c.len-self-2.result }) c.in_ok-place.place c.in_ok-message.message c.requires c.len-count.ensures
    (omega (arith, c.if-saturating_sub-ne1.false, c.saturating_sub.ensures)) c.in_ok-push.ensures.ok c.in_ok-place.ensures.of
    c.args.octets c.in-Some.all (omega (arith, c.in-Some.ensures, c.len-3.ensures.value))

pub returns-clause-there : goal.returns-clause-there
returns-clause-there c =
    subst (AreThere c.put.new.self) (sym c.in_ok-push.ensures.ok)
    (one_there c.put.new.self c.args.self.now.places c.args.sent c.in_ok-place.place c.in_ok-message.message
    (all_stay c.args.texts.now c.put.ensures.grows.0 c.put.new.self c.put.ensures.grows.1 c.args.self.now.places c.requires) c.in_ok-place.ensures.of)

use Rattle.std.proofs.Common.{◌≡◌, ◌∙◌, ◌∷◌, [], None, Some, Option, ap, subst}
use Rattle.std.specs.Prelude.{is_some, MatchOption}
use Rattle.zre_actor.specs.declared.told.Told.{Told}
use Rattle.zre_actor.specs.declared.told.Told.TheVariants as told
use Rattle.zre_actor.specs.declared.passes.TakerPass.{TakerPass}
use Rattle.zre_actor.specs.Passes.{IsTold, taken_by, last_of}
use Rattle.zre_console.proofs.printer.PageCalls.{none_before, then_tries}
use Rattle.zre_console.proofs.printer.PrintedLines.{asked_more, printed_same, printed_more}
use Rattle.zre_console.proofs.printer.page.Page.print_next.Goals as goal

abbrev Found : TakerPass → TakerPass → Option Told → Type 0
Found old new found = MatchOption found ((taken_by new ≡ taken_by old) × (last_of new ≡ last_of old)) (λ told. IsTold old told new)

pub returns-in-None-clause-prints : goal.returns-in-None-clause-prints
returns-in-None-clause-prints g c = λ first start w p. (
    let o = g.O.Sink in let n = c.next_told-taker in let a = c.args in
    let q = asked_more first start w a.asker a.taker a.self.now (o.written a.out.now) p c.ask-asker.result c.ask-asker.ensures.asked (λ none. c.ask-asker.ensures.calm (c.is_some.ensures ∙ ap is_some none)) in
    let t : Found a.taker n.result.0 None = subst (Found a.taker n.result.0) c.in-None.is n.ensures.told in
    printed_same first start w c.ask-asker.result a.taker a.self.now (o.written a.out.now) q n.result.0 n.new.self (o.written n.new.out) t.0
    n.ensures.shows (none_before _ _ _ _ _ _ n.ensures.tries))

pub returns-in-Event-clause-prints : goal.returns-in-Event-clause-prints
returns-in-Event-clause-prints g c = λ first start w p. (
    let o = g.O.Sink in let n = c.next_told-taker in let a = c.args in let e = c.in-Event.event in
    let q = asked_more first start w a.asker a.taker a.self.now (o.written a.out.now) p c.ask-asker.result c.ask-asker.ensures.asked (λ none. c.ask-asker.ensures.calm (c.is_some.ensures ∙ ap is_some none)) in
    let t : Found a.taker n.result.0 (Some (told.Event e)) = subst (Found a.taker n.result.0) (c.in-Some.is ∙ ap Some c.in-Event.is) n.ensures.told in
    printed_more first start w c.ask-asker.result a.taker a.self.now (o.written a.out.now) q n.result.0 c.print.new.self (o.written c.print.new.out) (e ∷ []) t.0
    (λ v os h. c.print.ensures.shows v os (n.ensures.shows v os h))
    (none_before _ _ _ _ _ _ (then_tries _ _ _ _ _ _ _ _ _ n.ensures.tries c.print.ensures.tries)))

pub returns-in-Last-clause-prints : goal.returns-in-Last-clause-prints
returns-in-Last-clause-prints g c = λ first start w p. (
    let o = g.O.Sink in let n = c.next_told-taker in let a = c.args in
    let q = asked_more first start w a.asker a.taker a.self.now (o.written a.out.now) p c.ask-asker.result c.ask-asker.ensures.asked (λ none. c.ask-asker.ensures.calm (c.is_some.ensures ∙ ap is_some none)) in
    let t : Found a.taker n.result.0 (Some (told.Last c.in-Last.field-0)) = subst (Found a.taker n.result.0) (c.in-Some.is ∙ ap Some c.in-Last.is) n.ensures.told in
    printed_same first start w c.ask-asker.result a.taker a.self.now (o.written a.out.now) q n.result.0 c.close.new.self (o.written c.close.new.out) t.0
    (λ v os h. c.close.ensures.shows v os (n.ensures.shows v os h))
    (none_before _ _ _ _ _ _ (then_tries _ _ _ _ _ _ _ _ _ n.ensures.tries c.close.ensures.tries)))

-- ---- what stays without a fault

pub returns-in-Event-clause-tries : goal.returns-in-Event-clause-tries
returns-in-Event-clause-tries g c = then_tries _ _ _ _ _ _ _ _ _ c.next_told-taker.ensures.tries c.print.ensures.tries

pub returns-in-Last-clause-tries : goal.returns-in-Last-clause-tries
returns-in-Last-clause-tries g c = then_tries _ _ _ _ _ _ _ _ _ c.next_told-taker.ensures.tries c.close.ensures.tries

use Rattle.std.proofs.Common.{sym, ap, ◌∙◌}
use Rattle.std.specs.Prelude.{option_map}
use Rattle.zre_records.specs.replay.Lives.{due}
use Rattle.zre_records.proofs.replay.MadeFromSettings.{made_now, made_still}
use Rattle.zre_records.proofs.replay.headed.make.Goals as goal

pub returns-in_ok-new-in-Some : goal.returns-in_ok-new-in-Some
returns-in_ok-new-in-Some g c = λ before J l t.
    made_now g.N.LivedNode.stands before _ J c.args.made.now c.in-Some.config c.in_ok-new-in-Some.new l t
    (sym c.in-Some.is ∙ c.in_ok-config.ensures.due ∙ ap (λ b. due b (option_map (λ s. s.now) c.args.told)) c.is_some.ensures) c.in_ok-new-in-Some.ensures

pub returns-in-None : goal.returns-in-None
returns-in-None g c = λ before J l t.
    made_still g.N.LivedNode.stands before _ J c.args.made.now l t
    (sym c.in-None.is ∙ c.in_ok-config.ensures.due ∙ ap (λ b. due b (option_map (λ s. s.now) c.args.told)) c.is_some.ensures)

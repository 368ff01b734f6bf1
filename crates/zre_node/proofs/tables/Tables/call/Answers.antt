use Rattle.std.proofs.Common.{◌++◌, ◌∷◌, [], ℕ, List, refl, sym, ap, ◌∙◌, append-nil}
use Rattle.zre_beacon.specs.Beacon.{beacon_octets}
use Rattle.zre_outside.specs.declared.act.Act.TheVariants as act
use Rattle.zre_values.specs.declared.settings.Settings.{Settings as Config}
use Rattle.zre_journal.specs.Chronicle.{SendsBeacon}
use Rattle.zre_node.specs.declared.effects.Effects.{Effects}
use Rattle.zre_values.proofs.AnswersThatAreOk.{on_ok}
use Rattle.zre_node.proofs.MarksAfterMarks.{did_by}
use Rattle.zre_node.proofs.TicksOfTables.{holds_calls}
use Rattle.zre_node.proofs.tables.Tables.call.Goals as goal

pub returns : goal.returns
returns c = λ g H h.
    let t = c.args.self.now in
    let bytes = c.write.ensures.spelled ∙ ap (λ (f : Config). beacon_octets f.id f.port) h.keeps.config in
    on_ok c.act.result c.act.ensures (λ out.
    did_by g (SendsBeacon g.port ∷ []) H t c.args.out.now c.act.new.self (holds_calls g H t h g.port)
    (ap (λ (s : Effects). s.events) out ∙ sym (append-nil c.args.out.now.events))
    (ap (λ (s : Effects). s.acts) out ∙ ap (λ (o : List ℕ). c.args.out.now.acts ++ act.Beacon o ∷ []) bytes)
    (ap (λ (s : Effects). s.pushed) out) (λ l. refl))

use Rattle.std.proofs.Common.{ℕ, ◌++◌, ◌∷◌, [], sym, ap, ◌∙◌, subst, List}
use Rattle.zre_beacon.specs.Beacon.{beacon_octets}
use Rattle.zre_outside.specs.declared.act.Act.TheVariants as act
use Rattle.zre_peer.specs.declared.event.Event.TheVariants as event
use Rattle.zre_values.specs.declared.settings.Settings.{Settings as Config}
use Rattle.zre_node.specs.declared.effects.Effects.{Effects}
use Rattle.zre_node.specs.Stands.{AreKnown}
use Rattle.zre_node.proofs.StopOfNode.{links_are, numbers_are, all_known, none_known_by, run_none, stops}
use Rattle.zre_node.proofs.tables.Tables.stop.Goals as goal

pub returns : goal.returns
returns c = λ g H h.
    let t = c.args.self.now in
    let links = c.as_slice.ensures ∙ c.in_ok-links.ensures ∙ links_are g H t h in
    let conns = c.as_slice-2.ensures ∙ c.in_ok-conns.ensures ∙ numbers_are g H t h in
    let first = c.in_ok-end_all.ensures g H h (subst (λ (ls : List ℕ). AreKnown H ls) (sym links) (all_known g H t h)) in
    let second = c.in_ok-drop_all.ensures g _ first.holds (run_none g _ c.end_all.new.self first.holds (none_known_by g H c.as_slice.result.now links)) in
    let bytes = c.write.ensures.spelled ∙ ap (λ (f : Config). beacon_octets f.id 0) second.holds.keeps.config in
    stops g H c.as_slice.result.now c.as_slice-2.result.now c.end_all.new.self c.drop_all.new.self c.args.out.now c.end_all.new.out c.drop_all.new.out c.tell.new.self links conns first second
    (ap (λ (s : Effects). s.events) c.in_ok-tell.ensures ∙ ap (λ (s : Effects). s.events ++ event.Stop ∷ []) c.in_ok-act.ensures)
    (ap (λ (s : Effects). s.acts) c.in_ok-tell.ensures ∙ ap (λ (s : Effects). s.acts) c.in_ok-act.ensures ∙ ap (λ (o : List ℕ). c.drop_all.new.out.acts ++ act.Beacon o ∷ []) bytes)

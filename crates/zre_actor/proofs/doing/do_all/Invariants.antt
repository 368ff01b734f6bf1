use Rattle.std.proofs.Common.{◌≡◌, List, [], take}
use Rattle.std.specs.Prelude.{option_map}
use Rattle.zre_outside.specs.declared.deed.Deed.{Deed}
use Rattle.zre_outside.specs.declared.entry.Entry.{Entry}
use Rattle.zre_values.specs.declared.settings.Settings.{Settings as Config}
use Rattle.zre_journal.specs.Asked.{AreDue}
use Rattle.zre_journal.specs.Events.{chronicle}
use Rattle.zre_node.specs.Journal.{StandsFor}
use Rattle.zre_actor.specs.Work.{AreDeeds, beside, went}
use Rattle.zre_actor.proofs.doing.do_all.Given as goal

abbrev pub invariant-loop-act : goal.invariant-loop-act
invariant-loop-act g l = record {
  done : (c : Config) (J : List Entry) → StandsFor c J l.node → AreDue c (chronicle c J) l.acts → (ds : List Deed) × AreDeeds c (beside J (take l.act-index l.acts)) ds × (g.W.World.told l.world ≡ option_map (went [] 0 [] ds) (g.W.World.told l.initial.world));
  world : (g.W.World.looked l.world ≡ g.W.World.looked l.initial.world) × (g.W.World.faults l.world ≡ g.W.World.faults l.initial.world) × (g.W.World.refused l.world ≡ g.W.World.refused l.initial.world);
}

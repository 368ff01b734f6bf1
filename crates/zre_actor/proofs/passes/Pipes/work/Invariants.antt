use Rattle.std.proofs.Common.{◌≡◌, true, false, None, List, IsSome}
use Rattle.std.specs.Io.KnownBytes.{Keeps}
use Rattle.zre_outside.specs.declared.entry.Entry.{Entry}
use Rattle.zre_values.specs.declared.settings.Settings.{Settings as Config}
use Rattle.zre_node.specs.Journal.{StandsFor}
use Rattle.zre_actor.specs.Passes.{IsActorOf, unused_by, ending_of}
use Rattle.zre_actor.specs.Work.{scene}
use Rattle.zre_actor.proofs.WorkAfterTurns.{Running}
use Rattle.zre_actor.proofs.passes.Pipes.work.Given as goal

abbrev pub invariant-loop-turn : goal.invariant-loop-turn
invariant-loop-turn g l = record {
  pipes : IsActorOf l.self l.pass × (unused_by l.pass ≡ unused_by l.fn.pass);
  open_ : ending_of l.pass ≡ None;
  looked : IsSome l.command → g.W.World.looked l.actor.world ≡ true;
  last : l.turn ≡ l.limit → l.command ≡ None;
  keep : l.actor.recording.keep ≡ l.keep;
  unkept : l.keep ≡ false → l.actor.recording.rec ≡ l.fn.rec;
  begun : g.R.Recorder.begun l.actor.recording.rec ≡ g.R.Recorder.begun l.fn.rec;
  named : Keeps (g.R.Recorder.named l.fn.rec) (g.R.Recorder.named l.actor.recording.rec);
  world : g.W.World.refused l.actor.world ≡ g.W.World.refused l.fn.world;
  record_ : g.R.Recorder.refused l.actor.recording.rec ≡ g.R.Recorder.refused l.fn.rec;
  running : (c : Config) (K : List Entry) → StandsFor c K l.fn.node → Running c K l.keep l.limit
      (scene (g.W.World.told l.fn.world) (g.W.World.looked l.fn.world) (g.W.World.faults l.fn.world) (g.R.Recorder.kept l.fn.rec) (g.R.Recorder.faults l.fn.rec) l.fn.pass)
      l.turn (scene (g.W.World.told l.actor.world) (g.W.World.looked l.actor.world) (g.W.World.faults l.actor.world) (g.R.Recorder.kept l.actor.recording.rec) (g.R.Recorder.faults l.actor.recording.rec) l.pass) l.actor.node l.command l.actor.recording.before;
}

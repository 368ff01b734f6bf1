use Rattle.std.proofs.Common.{List, [], sym, subst}
use Rattle.zre_capture.specs.declared.format.Format.TheVariants.{First}
use Rattle.zre_values.specs.declared.settings.Settings.{Settings as Config}
use Rattle.zre_node.specs.Journal.{StandsFor}
use Rattle.zre_outside.specs.declared.entry.Entry.{Entry}
use Rattle.zre_records.proofs.replay.CaptureInPieces.{no_entries}
use Rattle.zre_records.proofs.replay.replayer.Replayer.new.Goals as goal

pub returns-clause-fed : goal.returns-clause-fed
returns-clause-fed c = record {
  reads = c.new-pieces.ensures First c.new-reader.ensures.reads c.new-reader.ensures.format;
  stands = subst (λ (J : List Entry). StandsFor c.args.config J c.in_ok-node.node) (sym no_entries) (subst (λ (g : Config). StandsFor g [] c.in_ok-node.node) c.in_ok-copy.ensures c.in_ok-node.ensures);
}

use Rattle.std.proofs.Common.{◌++◌, Option, subst}
use Rattle.zre_capture.specs.Journal.{journal, settings}
use Rattle.zre_capture.specs.declared.format.Format.TheVariants.{Second}
use Rattle.zre_values.specs.declared.settings.Settings.{Settings}
use Rattle.zre_records.specs.replay.Lives.{Made}
use Rattle.zre_records.proofs.replay.HeadReplayerFedPiece.{tells}
use Rattle.zre_records.proofs.replay.headed.Headed.read.Goals as goal

pub returns : goal.returns
returns g c = λ o h going.
    let r = c.in_ok-entries.ensures Second o h.reads going in
    let told = c.settings.ensures Second (o ++ c.args.piece.now) r.is in
    record {
      reads = r.is;
      lives = subst (λ (u : Option Settings). Made g.N.LivedNode.stands u (journal Second o) c.make.new.made) told
          (c.in_ok-make.ensures (settings Second o) (journal Second o) h.lives (tells o c.args.piece.now _ told));
      more = r.more;
    }

use Rattle.std.proofs.Common.{◌++◌, List, sym, subst}
use Rattle.zre_capture.specs.Journal.{journal, settings}
use Rattle.zre_capture.specs.declared.format.Format.TheVariants.{Second}
use Rattle.zre_outside.specs.declared.entry.Entry.{Entry}
use Rattle.zre_records.specs.audit.Watched.{IsWatched}
use Rattle.zre_records.proofs.replay.CaptureInPieces.{is_still}
use Rattle.zre_records.proofs.audit.watched.take.Goals as goal

pub returns : goal.returns
returns c = λ o h going.
    let r = c.in_ok-entries.ensures o h going in
    let told = settings Second (o ++ c.args.piece.now) in
    record {
      reads = is_still Second (o ++ c.args.piece.now) _ _ c.give_back.ensures r.reads;
      lives = subst (λ (J : List Entry). IsWatched told J c.watch_if_any.new.watch) (sym r.more)
          (c.in_ok-emptied.ensures told (journal Second o) r.lives);
    }

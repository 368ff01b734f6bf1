use Rattle.std.proofs.Common.{◌++◌, refl}
use Rattle.zre_capture.specs.Journal.{journal, settings}
use Rattle.zre_capture.specs.declared.format.Format.TheVariants.{Second}
use Rattle.zre_records.proofs.replay.HeadReplayerFedPiece.{lives_on, text_on}
use Rattle.zre_records.proofs.replay.CaptureInPieces.{is_still}
use Rattle.zre_records.proofs.replay.head_replayer.HeadReplayerMachine.feed.Goals as goal

pub returns-clause-fed : goal.returns-clause-fed
returns-clause-fed c = λ o h going.
    let r = c.in_ok-entries.ensures o h going in
    let took = c.in_ok-emptied.ensures (settings Second (o ++ c.args.piece.now)) (journal Second o) r.lives in
    record {
      reads = is_still Second (o ++ c.args.piece.now) _ _ c.give_back.ensures r.reads;
      lives = lives_on (settings Second (o ++ c.args.piece.now)) (journal Second o) c.in_ok-entries.entries _ c.take_if_any.new.node c.args.out.now c.take_if_any.new.out took r.more;
    }

pub returns-clause-text : goal.returns-clause-text
returns-clause-text c = λ o h going.
    let r = c.in_ok-entries.ensures o h going in
    let took = c.in_ok-emptied.ensures (settings Second (o ++ c.args.piece.now)) (journal Second o) r.lives in
    text_on o c.args.piece.now (settings Second (o ++ c.args.piece.now)) c.in_ok-entries.entries c.take_if_any.new.node c.args.out.now c.take_if_any.new.out refl took r.more

pub returns-clause-stop : goal.returns-clause-stop
returns-clause-stop c = λ o h going.
    c.going.ensures Second (o ++ c.args.piece.now) (is_still Second (o ++ c.args.piece.now) _ _ c.give_back.ensures (c.in_ok-entries.ensures o h going).reads)

use Rattle.std.proofs.Common.{◌++◌}
use Rattle.zre_capture.specs.Journal.{journal, settings}
use Rattle.zre_capture.specs.declared.format.Format.TheVariants.{Second}
use Rattle.zre_records.proofs.replay.CaptureInPieces.{is_still}
use Rattle.zre_records.proofs.table.TabulatorFedPiece.{nothing_written, piece_taken, lives_with}
use Rattle.zre_records.proofs.table.tabulator.TabulatorMachine.feed.Goals as goal

pub returns-clause-fed : goal.returns-clause-fed
returns-clause-fed c = λ o f going.
    let now = o ++ c.args.piece.now in
    let r = c.in_ok-entries.ensures o f.follows going in
    let a = piece_taken c.args.self.now o c.args.piece.now c.in_ok-entries.entries c.read.new.self c.gather_if_any.new.node c.gather_if_any.new.replica c.as_slice.result.now f r c.as_slice.ensures
    (c.in_ok-emptied.ensures (settings Second now) (journal Second o)) in
    record {
      follows = record {
        reads = is_still Second now _ _ c.give_back.ensures r.reads;
        lives = lives_with c.args.self.now.group (journal Second now) (settings Second now) c.gather_if_any.new.node c.gather_if_any.new.replica a;
      };
      gathered = a;
    }

pub returns-clause-text : goal.returns-clause-text
returns-clause-text c = λ o f going. nothing_written c.args.self.now.group o c.args.piece.now c.args._out.now

pub returns-clause-stop : goal.returns-clause-stop
returns-clause-stop c = λ o f going.
    c.going.ensures Second (o ++ c.args.piece.now) (is_still Second (o ++ c.args.piece.now) _ _ c.give_back.ensures (c.in_ok-entries.ensures o f.follows going).reads)

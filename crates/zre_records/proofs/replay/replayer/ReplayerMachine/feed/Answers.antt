use Rattle.std.proofs.Common.{◌++◌, List, sym, subst}
use Rattle.zre_capture.specs.Journal.{journal}
use Rattle.zre_capture.specs.declared.format.Format.TheVariants.{First}
use Rattle.zre_node.specs.Journal.{StandsFor}
use Rattle.zre_outside.specs.declared.entry.Entry.{Entry}
use Rattle.zre_records.proofs.replay.ReplayerFedPiece.{text_on}
use Rattle.zre_records.proofs.replay.CaptureInPieces.{is_still}
use Rattle.zre_records.proofs.replay.replayer.ReplayerMachine.feed.Goals as goal

pub returns-clause-fed : goal.returns-clause-fed
returns-clause-fed c = λ o h going.
    let r = c.in_ok-entries.ensures First o h.reads going in
    let took = c.in_ok-emptied.ensures c.args.self.now.config (journal First o) h.stands in
    record {
      reads = is_still First (o ++ c.args.piece.now) _ _ c.give_back.ensures r.is;
      stands = subst (λ (J : List Entry). StandsFor c.args.self.now.config J c.take_entries.new.node) (sym r.more) took.stands;
    }

pub returns-clause-text : goal.returns-clause-text
returns-clause-text c = λ o h going.
    let took = c.in_ok-emptied.ensures c.args.self.now.config (journal First o) h.stands in
    text_on c.args.self.now.config o c.args.piece.now c.in_ok-entries.entries c.take_entries.new.node c.args.out.now c.take_entries.new.out took (c.in_ok-entries.ensures First o h.reads going).more

pub returns-clause-stop : goal.returns-clause-stop
returns-clause-stop c = λ o h going.
    c.going.ensures First (o ++ c.args.piece.now) (is_still First (o ++ c.args.piece.now) _ _ c.give_back.ensures (c.in_ok-entries.ensures First o h.reads going).is)

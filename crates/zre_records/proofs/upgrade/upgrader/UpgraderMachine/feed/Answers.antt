use Rattle.std.proofs.Common.{List, ◌++◌, sym, ap, ◌∙◌, subst}
use Rattle.zre_capture.specs.Journal.{journal, last_reading}
use Rattle.zre_capture.specs.declared.format.Format.TheVariants.{First}
use Rattle.zre_outside.specs.declared.entry.Entry.{Entry}
use Rattle.zre_records.specs.upgrade.Written.{Wrote}
use Rattle.zre_records.proofs.replay.CaptureInPieces.{is_still}
use Rattle.zre_records.proofs.upgrade.UpgraderFedPiece.{text_grows, text_on}
use Rattle.zre_records.proofs.upgrade.upgrader.UpgraderMachine.feed.Goals as goal

pub returns-in_err-entries-clause-longer : goal.returns-in_err-entries-clause-longer
returns-in_err-entries-clause-longer c = λ o. text_grows c.args.self.now.settings o c.args.piece.now

pub returns-in_err-self-clause-longer : goal.returns-in_err-self-clause-longer
returns-in_err-self-clause-longer c = λ o. text_grows c.args.self.now.settings o c.args.piece.now

pub returns-clause-longer : goal.returns-clause-longer
returns-clause-longer c = λ o. text_grows c.args.self.now.settings o c.args.piece.now

pub returns-clause-fed : goal.returns-clause-fed
returns-clause-fed c = λ o h going.
    let r = c.in_ok-entries.ensures First o h.reads going in
    let w = c.in_ok-self.ensures (journal First o) h.before in
    record {
      reads = is_still First (o ++ c.args.piece.now) _ _ c.give_back.ensures r.is;
      before = w.last ∙ ap (λ (es : List Entry). last_reading 0 (journal First o ++ es)) c.as_slice.ensures ∙ ap (last_reading 0) (sym r.more);
    }

pub returns-clause-text : goal.returns-clause-text
returns-clause-text c = λ o h going.
    let w = subst (λ (es : List Entry). Wrote (journal First o) es c.in_ok-self.field-0 c.args.out.now c.push_entries.new.out) c.as_slice.ensures (c.in_ok-self.ensures (journal First o) h.before) in
    text_on c.args.self.now.settings o c.args.piece.now c.in_ok-entries.entries c.in_ok-self.field-0 c.args.out.now c.push_entries.new.out (c.in_ok-entries.ensures First o h.reads going).more w

pub returns-clause-stop : goal.returns-clause-stop
returns-clause-stop c = λ o h going.
    c.going.ensures First (o ++ c.args.piece.now) (is_still First (o ++ c.args.piece.now) _ _ c.give_back.ensures (c.in_ok-entries.ensures First o h.reads going).is)

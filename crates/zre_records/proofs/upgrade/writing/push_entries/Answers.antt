use Rattle.std.proofs.Common.{◌≡◌, ◌+◌, List, [], ◌∷◌, ◌++◌, take, sym, ap, ◌∙◌, subst, add-one}
use Rattle.std.proofs.Math.Seq.{take-suc}
use Rattle.zre_outside.specs.declared.entry.Entry.{Entry}
use Rattle.zre_records.specs.upgrade.Written.{Wrote}
use Rattle.zre_records.proofs.upgrade.EntriesWritten.{wrote_more}
use Rattle.zre_records.proofs.upgrade.writing.push_entries.Goals as goal

pub loop-entry-preserved : goal.loop-entry-preserved
loop-entry-preserved c = λ J first.
    let es = c.args.entries.now in
    let i = c.loop-entry.entry-index in
    let e = c.entry-item.result in
    let step : take (i + 1) es ≡ take i es ++ e ∷ [] = rw add-one (take-suc es i e c.loop-entry-test.true ∙ ap (λ (x : Entry). take i es ++ x ∷ []) (sym c.entry-item.is)) in
    subst (λ (fs : List Entry). Wrote J fs e.at c.args.out.now c.push_entry2.new.out) (sym step)
    (wrote_more J (take i es) e c.loop-entry.at c.args.out.now c.loop-entry.out c.push_entry2.new.out (c.loop-entry.invariant J first) c.in_ok-push_entry2.ensures)

use Rattle.std.proofs.Common.{List, ℕ, [], None, sym, subst}
use Rattle.zre_capture.specs.Journal.{start, Reads}
use Rattle.zre_capture.proofs.LineByLine.{reads-start}
use Rattle.zre_capture.proofs.reader.CaptureReader.at_start.Goals as goal

pub returns-clause-reads : goal.returns-clause-reads
returns-clause-reads c = subst (λ (l : List ℕ). Reads [] (record { place = start c.args.format; told = None; left = l })) (sym c.new.ensures) (reads-start c.args.format)

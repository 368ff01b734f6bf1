use Rattle.std.proofs.Common.{ap}
use Rattle.zre_shared.specs.Replicas.{HeldWrites}
use Rattle.zre_capture.specs.declared.format.Format.TheVariants.{Second}
use Rattle.zre_records.proofs.replay.CaptureInPieces.{nothing_stopped}
use Rattle.zre_records.proofs.table.TabulatorFedPiece.{nothing_gathered}
use Rattle.zre_records.proofs.table.tabulator.Tabulator.new.Goals as goal

pub returns-clause-fed : goal.returns-clause-fed
returns-clause-fed c = record {
  follows = c.new.ensures;
  gathered = nothing_gathered c.args.group c.new.result c.new-2.result c.new.ensures (ap (λ (h : HeldWrites). h.writes) c.new-2.ensures);
}

pub returns-clause-going : goal.returns-clause-going
returns-clause-going c = nothing_stopped Second

use Rattle.std.proofs.Common.{◌≡◌, ◌+◌, ◌≤◌, List, ℕ, false, length, take}
use Rattle.std.specs.List.{concat}
use Rattle.zre_zmtp.specs.Stream.{Want, Kind}
use Rattle.zre_zmtp.specs.Reading.{Reads, kept}
use Rattle.zre_zmtp.specs.Looks.{IsPaid}
use Rattle.zre_zmtp.proofs.ItemsOfTwoPieces.{HasRead}
use Rattle.zre_zmtp.proofs.reader.Reader.feed_pieces_counted.Given as goal

abbrev pub invariant-loop-piece : goal.invariant-loop-piece
invariant-loop-piece g l =
    (l.self.spent ≡ false)
    × ((want : Want) (kind : Kind) (o : List ℕ) → Reads want kind o l.fn.self → HasRead want kind o l.pieces l.piece-index l.self l.fn.out l.out)
    × (l.steps ≤ l.fn.steps + length (concat (take l.piece-index l.pieces)))
    × IsPaid l.fn.steps l.steps (kept l.fn.self) (kept l.self) (length (concat (take l.piece-index l.pieces)))

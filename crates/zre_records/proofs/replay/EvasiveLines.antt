-- The lines that are kept.
use Rattle.std.proofs.Common.{◌≡◌, ℕ, ◌<◌, zero, suc, List, [], ◌∷◌, length, get_or, sym, ap, ◌∙◌, subst, arith}
use Rattle.std.specs.List.{AllByRecursion}
use Rattle.zre_values.specs.declared.peer_id.PeerId.{PeerId}
use Rattle.zre_peer.specs.Lines.{line}
use Rattle.zre_peer.specs.declared.event.Event.TheVariants.{Evasive}
use Rattle.zre_records.specs.declared.replay.event_lines.EvasiveLine.{EvasiveLine}
use Rattle.zre_records.specs.replay.Telling.{Kept}

-- one of some lines that are kept is kept
pub kept_at : (ks : List EvasiveLine) (i : ℕ) (k : EvasiveLine) → AllByRecursion Kept ks → i < length ks → k ≡ get_or ks i k → Kept k
kept_at [] i k a low e = absurd (omega (arith, low))
kept_at (x ∷ xs) zero k a low e = subst Kept (sym e) a.0
kept_at (x ∷ xs) (suc i) k a low e = kept_at xs i k a.1 (omega (arith, low)) e

-- the line of a peer with this identity and this name
pub its_line : (k : EvasiveLine) (id : PeerId) (name : List ℕ) → Kept k → id ≡ k.id → name ≡ k.name → k.line ≡ line (Evasive id name)
its_line k id name a i n = a ∙ ap (λ (p : PeerId). line (Evasive p k.name)) (sym i) ∙ ap (λ (xs : List ℕ). line (Evasive id xs)) (sym n)

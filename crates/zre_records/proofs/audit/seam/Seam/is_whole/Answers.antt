use Rattle.std.proofs.Common.{ap, ◌∙◌, sym}
use Rattle.std.specs.Prelude.{Option, option_map, ℕ}
use Rattle.zre_records.specs.audit.Seam.{Seeking, awaited_after, is_whole}
use Rattle.zre_records.proofs.audit.BeforeSecondCapture.{whole_is}
use Rattle.zre_records.proofs.audit.seam.Seam.is_whole.Goals as goal

pub returns-in-Some : goal.returns-in-Some
returns-in-Some c =
    whole_is c.in-Some.n ∙ ap (λ (m : Option ℕ). is_whole (option_map awaited_after m)) (sym c.in-Some.is)
    ∙ ap (λ (s : Seeking). is_whole s.awaited) c.self.view_is

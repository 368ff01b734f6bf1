use Rattle.std.proofs.Common.{ℕ, List}
use Rattle.zre_outside.specs.declared.entry.Entry.{Entry}
use Rattle.zre_values.specs.declared.settings.Settings.{Settings as Config}
use Rattle.zre_audit.specs.Agreement.{Agree, IsTooMany, Judges, judged}
use Rattle.zre_audit.specs.declared.verdicts.Verdict.{Verdict}
use Rattle.zre_audit.specs.declared.verdicts.Verdict.TheVariants.{Yes, No}
use Rattle.zre_audit.proofs.JudgedIsAgreed.{judged_right, not_both}
use Rattle.zre_audit.proofs.laws.a_run_is_too_many_where_journals_disagree.Goals as goal

module _ (g k : Config) (J K : List Entry) where
  abbrev TooMany : Type 0
  TooMany = (side : ℕ) × (run : ℕ) × (runs : ℕ) × (links : ℕ) × IsTooMany g k J K side run runs links

  first : (Agree g k J K → ⊥) → (v : Verdict) → Judges g k J K v → TooMany
  first differ Yes a = absurd (differ a)
  first differ (No side run runs links) t = (side, run, runs, links, t)

pub returns : goal.returns
returns c = λ g k J K. (λ differ. first g k J K differ (judged g k J K) (judged_right g k J K), λ t. not_both g k J K t.0 t.1 t.2 t.3 t.4)

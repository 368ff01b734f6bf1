-- What is judged of both nodes.
use Rattle.std.proofs.Common.{◌≡◌, ℕ, Option, Some, None, List, ◌++◌, sym, ap, ◌∙◌, subst, append-nil}
use Rattle.zre_audit.specs.Agreement.{judged}
use Rattle.zre_audit.specs.Lines.{line}
use Rattle.zre_audit.specs.Watching.{Watches}
use Rattle.zre_audit.specs.declared.verdicts.Verdict.{Verdict}
use Rattle.zre_audit.specs.declared.watch.Watch.{Watch}
use Rattle.zre_values.specs.declared.settings.Settings.{Settings}
use Rattle.zre_outside.specs.declared.entry.Entry.{Entry}
use Rattle.zre_records.specs.audit.Audit.{judgement}
use Rattle.zre_records.specs.audit.Watched.{IsWatched}

-- none where there is no watch
pub first_none : (s t : Option Settings) (J K : List Entry) (w : Option Watch) (out : List ℕ) → w ≡ None → IsWatched s J w → out ≡ out ++ judgement s t J K
first_none None t J K w out e k = sym (append-nil out)
first_none (Some s) t J K None out e k = absurd k
first_none (Some s) t J K (Some w) out e k = absurd cc

pub second_none : (s t : Option Settings) (J K : List Entry) (w : Option Watch) (out : List ℕ) → w ≡ None → IsWatched t K w → out ≡ out ++ judgement s t J K
second_none None t J K w out e k = sym (append-nil out)
second_none (Some s) None J K w out e k = sym (append-nil out)
second_none (Some s) (Some t) J K None out e k = absurd k
second_none (Some s) (Some t) J K (Some w) out e k = absurd cc

-- the line of the verdict where both are there
pub both : (s t : Option Settings) (J K : List Entry) (v w : Option Watch) (a b : Watch) (x : Verdict) (out out' : List ℕ) → v ≡ Some a → w ≡ Some b → IsWatched s J v → IsWatched t K w
    → ((g k : Settings) (M N : List Entry) → Watches g M a → Watches k N b → x ≡ judged g k M N) → out' ≡ out ++ line x → out' ≡ out ++ judgement s t J K
both s t J K v w a b x out out' e f k l h is = by s t (subst (λ (n : Option Watch). IsWatched s J n) e k) (subst (λ (n : Option Watch). IsWatched t K n) f l)
  where
    by : (p q : Option Settings) → IsWatched p J (Some a) → IsWatched q K (Some b) → out' ≡ out ++ judgement p q J K
    by None q k l = absurd k
    by (Some p) None k l = absurd l
    by (Some p) (Some q) k l = is ∙ ap (λ (y : Verdict). out ++ line y) (h p q J K k l)

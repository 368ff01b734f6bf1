-- What is made once its settings are told.
use Rattle.std.proofs.Common.{◌≡◌, Bool, true, false, cond, Option, Some, None, List, [], sym, subst}
use Rattle.std.specs.Prelude.{is_some}
use Rattle.zre_values.specs.Settings.{is_valid}
use Rattle.zre_values.specs.declared.settings.Settings.{Settings}
use Rattle.zre_outside.specs.declared.entry.Entry.{Entry}
use Rattle.zre_records.specs.replay.Lives.{Made, Tells, due}

same_config : (valid : Bool) (g h : Settings) → valid ≡ true → Some g ≡ cond valid (Some h) None → h ≡ g
same_config true g h v e = cc
same_config false g h v e = absurd cc

not_due : (valid : Bool) (h : Settings) → valid ≡ true → None ≡ cond valid (Some h) None → ⊥
not_due true h v e = cc
not_due false h v e = cc

-- where it was due it is there now
pub made_now : {N : Type 0} (P : Settings → List Entry → N → Type 0) (before told : Option Settings) (J : List Entry) (v : Option N) (g : Settings) (m : N) → Made P before J v → Tells before J told → Some g ≡ due (is_some v) told → P g [] m
    → Made P told J (Some m)
made_now P before told J (Some x) g m k t e p = absurd cc
made_now P (Some s) told J None g m k t e p = absurd k
made_now P None None J None g m k t e p = absurd cc
made_now P None (Some s) J None g m k t e p = subst (λ (K : List Entry). P s K m) (sym t.still) (subst (λ (h : Settings). P h [] m) (sym (same_config (is_valid s) g s t.valid e)) p)

-- and else it is as it was: there still, or not there yet
pub made_still : {N : Type 0} (P : Settings → List Entry → N → Type 0) (before told : Option Settings) (J : List Entry) (v : Option N) → Made P before J v → Tells before J told → None ≡ due (is_some v) told → Made P told J v
made_still P None None J None k t e = tt
made_still P None (Some s) J None k t e = absurd (not_due (is_valid s) s t.valid e)
made_still P (Some s) told J None k t e = absurd k
made_still P None told J (Some x) k t e = absurd k
made_still P (Some s) told J (Some x) k t e = subst (λ (u : Option Settings). Made P u J (Some x)) (sym t.still) k

-- A watch that lives only once its settings are told.
use Rattle.std.proofs.Common.{◌≡◌, Option, Some, None, List, [], ◌++◌, ◌∷◌, sym, subst, append_assoc, append-nil}
use Rattle.zre_audit.specs.Watching.{Watches}
use Rattle.zre_audit.specs.declared.watch.Watch.{Watch}
use Rattle.zre_values.specs.declared.settings.Settings.{Settings}
use Rattle.zre_outside.specs.declared.entry.Entry.{Entry}
use Rattle.zre_records.specs.audit.Watched.{IsWatched}

-- ---- entries, one after the other

pub watches_none : (g : Settings) (J : List Entry) (w : Watch) → Watches g J w → Watches g (J ++ []) w
watches_none g J w k = subst (λ (K : List Entry). Watches g K w) (sym (append-nil J)) k

pub watches_more : (g : Settings) (J es : List Entry) (e : Entry) (w : Watch) → Watches g ((J ++ es) ++ e ∷ []) w → Watches g (J ++ (es ++ e ∷ [])) w
watches_more g J es e w k = subst (λ (K : List Entry). Watches g K w) (append_assoc J es (e ∷ [])) k

-- none where there is no watch
pub watched_none : (told : Option Settings) (J es : List Entry) (w : Option Watch) → w ≡ None → IsWatched told J w → IsWatched told (J ++ es) w
watched_none None J es None e l = tt
watched_none None J es (Some w) e l = absurd l
watched_none (Some s) J es None e l = absurd l
watched_none (Some s) J es (Some w) e l = absurd cc

pub watched_some : (told : Option Settings) (J es : List Entry) (v w : Option Watch) (a b : Watch) → v ≡ Some a → w ≡ Some b → IsWatched told J v → ((g : Settings) (K : List Entry) → Watches g K a → Watches g (K ++ es) b) → IsWatched told (J ++ es) w
watched_some told J es v w a b e f l h = subst (λ (x : Option Watch). IsWatched told (J ++ es) x) (sym f) (by told (subst (λ (x : Option Watch). IsWatched told J x) e l))
  where
    by : (t : Option Settings) → IsWatched t J (Some a) → IsWatched t (J ++ es) (Some b)
    by None l = absurd l
    by (Some s) l = h s J l

-- The chronicle of every journal is proper, and has what each mark that may come keeps.
use Rattle.std.proofs.Common.{List, [], ◌∷◌, refl}
use Rattle.zre_outside.specs.declared.entry.Entry.{Entry}
use Rattle.zre_values.specs.declared.settings.Settings.{Settings as Config}
use Rattle.zre_journal.specs.Chronicle.{Mark, Comes, after}
use Rattle.zre_journal.specs.Happens.{has_stopped, marks, with_entry, chronicle_after}
use Rattle.zre_journal.specs.Events.{chronicle}
use Rattle.zre_journal.specs.Proper.{IsProper}
use Rattle.zre_journal.proofs.WhenMarksCome.{May, Allowed, step, choice}
use Rattle.zre_journal.proofs.ProperPeers.{Comes-proper}
use Rattle.zre_journal.proofs.SaidOnConnections.{input_allowed}

pub empty : IsProper []
empty = record {
  living = record { numbered = tt; apart = tt; living = tt; fresh = λ l h. record { no_end = refl; no_run = refl; no_member = refl; not_linked = refl; no_reply = refl; none_taken = refl } };
  opening = record {
    open_apart = tt;
    open_old = λ c n. tt;
    were_opened = tt;
    rises = λ c d n b. refl;
    unheard = λ c n. record { not_opened = refl; not_refused = refl; not_started = refl; unknown = refl; no_octets = refl };
  };
  running = record {
    one_run = λ c l s n. cc;
    in_life = λ c l s n. cc;
    its_run = λ c l r n. cc;
    is_introduced = λ c l s. cc;
    is_silent = λ l r. refl;
    is_its_own = λ c l v r n f. cc;
    is_heard = λ c l r n. cc;
    is_sole = λ c d p a b x y. cc;
  };
}

module _ (g : Config) where
  pub marks_allowed : (e : Entry) (H : List Mark) → IsProper H → Allowed (marks g e H) (Comes e ∷ H)
  marks_allowed e H p = choice (λ hs. Allowed hs (Comes e ∷ H)) (has_stopped H) _ _ (λ z. tt) (λ z. input_allowed g e.input H (Comes e ∷ H) (Comes-proper H p e))

  -- what each mark keeps that may come
  module _ (P : List Mark → Type 0) (keeps : (h : Mark) (H : List Mark) → IsProper H → May h H → P H → P (h ∷ H)) where
    pub after_marks : (hs H : List Mark) → Allowed hs H → IsProper H → P H → IsProper (after hs H) × P (after hs H)
    after_marks [] H a p x = (p, x)
    after_marks (h ∷ hs) H a p x = after_marks hs (h ∷ H) a.1 (step h H p a.0) (keeps h H p a.0 x)

    after_entries : (es : List Entry) (H : List Mark) → IsProper H → P H → IsProper (chronicle_after g es H) × P (chronicle_after g es H)
    after_entries [] H p x = (p, x)
    after_entries (e ∷ es) H p x =
        let b = after_marks (marks g e H) (Comes e ∷ H) (marks_allowed e H p) (Comes-proper H p e) (keeps (Comes e) H p tt x) in
        after_entries es (with_entry g e H) b.0 b.1

    pub always : P [] → (journal : List Entry) → P (chronicle g journal)
    always x journal = (after_entries journal [] empty x).1

  pub is_proper : (journal : List Entry) → IsProper (chronicle g journal)
  is_proper journal = always IsProper (λ h H p m x. step h H p m) empty journal

  -- also where a further entry has come
  pub comes_proper : (journal : List Entry) (e : Entry) → IsProper (Comes e ∷ chronicle g journal)
  comes_proper journal e = Comes-proper (chronicle g journal) (is_proper journal) e

-- What holds at each moment of a chronicle, and what stays from one moment to later ones.
use Rattle.std.proofs.Common.{◌≡◌, ℕ, Bool, true, false, cond, eqb, List, [], ◌∷◌, ◌++◌, Option, Some, None, refl, sym, ap, ◌∙◌, subst, eqb-true, append_assoc, append-nil}
use Rattle.std.specs.Option.{option_or}
use Rattle.zre_values.specs.declared.peer_id.PeerId.{PeerId}
use Rattle.zre_outside.specs.declared.entry.Entry.{Entry}
use Rattle.zre_values.specs.declared.settings.Settings.{Settings as Config}
use Rattle.zre_journal.specs.Chronicle.{Mark, Identifies, each, followed}
use Rattle.zre_journal.specs.Connections.{identity}
use Rattle.zre_journal.specs.Events.{chronicle}
use Rattle.zre_journal.specs.Heard.{was_opened, opens}
use Rattle.zre_journal.specs.Proper.{IsProper}
use Rattle.zre_journal.proofs.ProperChronicles.{empty, always}
use Rattle.zre_journal.proofs.WhenMarksCome.{May, step}

-- ---- at each moment

module _ (g : Config) (P : List Mark → Type 0) (keeps : (h : Mark) (H : List Mark) → IsProper H → May h H → P H → P (h ∷ H)) (first : P []) where
  abbrev AtAll : List Mark → Type 0
  AtAll H = (later K : List Mark) → H ≡ later ++ K → IsProper K × P K

  at_none : AtAll []
  at_none [] K e = subst (λ J. IsProper J × P J) e (empty, first)
  at_none (h ∷ later) K e = absurd cc

  at_more : (h : Mark) (H : List Mark) → IsProper H → May h H → AtAll H → AtAll (h ∷ H)
  at_more h H q m a [] K e = subst (λ J. IsProper J × P J) e (step h H q m, keeps h H q m (a [] H refl).1)
  at_more h H q m a (x ∷ later) K e = a later K (let z : h ∷ H ≡ x ∷ (later ++ K) = e in cc)

  -- what each mark keeps that may come holds at each moment of a journal
  pub at_moments : (J : List Entry) (later K : List Mark) → chronicle g J ≡ later ++ K → IsProper K × P K
  at_moments J = always g AtAll at_more at_none J

-- ---- what stays

-- what marks say only grows
pub each_grows : {A : Type 0} (f : Mark → Option A) (later K : List Mark) → (more : List A) × (each f (later ++ K) ≡ each f K ++ more)
each_grows f [] K = ([], sym (append-nil (each f K)))
each_grows {A} f (h ∷ later) K = let r = each_grows f later K in by (f h) r
  where
    by : (o : Option A) → (r : (more : List A) × (each f (later ++ K) ≡ each f K ++ more)) → (more : List A) × (followed (each f (later ++ K)) o ≡ each f K ++ more)
    by None r = r
    by (Some a) r = (r.0 ++ a ∷ [], ap (λ xs. xs ++ a ∷ []) r.1 ∙ append_assoc (each f K) r.0 (a ∷ []))

-- a connection that was opened stays so
pub still_opened : (c : ℕ) (later K : List Mark) → was_opened c K ≡ true → was_opened c (later ++ K) ≡ true
still_opened c [] K e = e
still_opened c (h ∷ later) K e = by (opens c h) (still_opened c later K e)
  where
    by : (t : Bool) → was_opened c (later ++ K) ≡ true → cond t true (was_opened c (later ++ K)) ≡ true
    by true r = refl
    by false r = r

-- and one that introduced itself is of the same peer from then on
pub identity_on : (c : ℕ) (p : PeerId) (h : Mark) (H : List Mark) → May h H → identity c H ≡ Some p → identity c (h ∷ H) ≡ Some p
identity_on c p (Identifies d q) H m e = by (eqb c d) refl
  where
    by : (t : Bool) → eqb c d ≡ t → option_or (cond t (Some q) None) (identity c H) ≡ Some p
    by true z = absurd (let n : Some p ≡ None = sym e ∙ ap (λ j. identity j H) (eqb-true c d z) ∙ m.1 in cc)
    by false z = e
identity_on c p h H m e = e

abbrev IsKept : List Mark → Type 0
IsKept H = (later K : List Mark) → H ≡ later ++ K → (c : ℕ) (p : PeerId) → identity c K ≡ Some p → identity c H ≡ Some p

kept_more : (h : Mark) (H : List Mark) → IsProper H → May h H → IsKept H → IsKept (h ∷ H)
kept_more h H q m k [] K e c p i = ap (identity c) e ∙ i
kept_more h H q m k (x ∷ later) K e c p i = identity_on c p h H m (k later K (let z : h ∷ H ≡ x ∷ (later ++ K) = e in cc) c p i)

none_kept : IsKept []
none_kept [] K e c p i = ap (identity c) e ∙ i
none_kept (h ∷ later) K e c p i = absurd cc

pub still_identified : (g : Config) (J : List Entry) (later K : List Mark) → chronicle g J ≡ later ++ K → (c : ℕ) (p : PeerId) → identity c K ≡ Some p → identity c (chronicle g J) ≡ Some p
still_identified g J = always g IsKept kept_more none_kept J

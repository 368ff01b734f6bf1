-- Whether a connection was opened at a node, and what octets of it came there, after an entry.
use Rattle.std.proofs.Common.{◌≡◌, ◌⊎◌, ℕ, Bool, true, false, cond, ◌&&◌, eqb, ltb, List, [], ◌∷◌, ◌++◌, length, map, refl, subst, ltb-true, sym, ap, ◌∙◌, inl, inr, arith, append_assoc, append-nil, true≢false, eqb-true}
use Rattle.std.proofs.lemmas.Bool.{and_right}
use Rattle.zre_outside.specs.declared.entry.Entry.{Entry}
use Rattle.zre_outside.specs.declared.entry.Input.TheVariants as input
use Rattle.zre_values.specs.declared.limits.TheConstants.{CONNECTIONS}
use Rattle.zre_values.specs.declared.settings.Settings.{Settings as Config}
use Rattle.zre_journal.specs.Commands.{at_stop}
use Rattle.zre_journal.specs.Cutting.{is_entry}
use Rattle.zre_journal.specs.Peers.{Life, lives}
use Rattle.zre_journal.proofs.NothingAfterStop.{at_end}
use Rattle.zre_peer.specs.declared.causes.Cause.TheVariants as cause
use Rattle.zre_journal.specs.Chronicle.{Mark, Comes, Opens, TurnsAway, Ends, ClosesAtStop, SendsBeacon, Stops, after}
use Rattle.zre_journal.specs.Connections.{is_new, open_ones}
use Rattle.zre_journal.specs.Endings.{is_end}
use Rattle.zre_journal.specs.Events.{chronicle}
use Rattle.zre_journal.specs.Happens.{has_stopped, at_input, with_entry}
use Rattle.zre_journal.specs.Heard.{bytes, was_opened, piece_of}
use Rattle.zre_journal.specs.Proper.{IsProper}
use Rattle.zre_journal.proofs.ProperChronicles.{is_proper}
use Rattle.zre_journal.proofs.CutPieces.{AreInner, inner_of, inner_bytes}
use Rattle.zre_journal.proofs.MarkByMark.{are_others}
use Rattle.zre_journal.proofs.SaidOnConnections.{input_sound, input_allowed, input_quiet}
use Rattle.zre_journal.proofs.ProperPeers.{Comes-proper}
use Rattle.zre_journal.proofs.WhenMarksCome.{May, Allowed, all_same}
use Rattle.zre_journal.proofs.HeardUnchanged.{Quiet, is_of}

-- ---- no mark of an entry is an entry

inner_map : {A : Type 0} (f : A → Mark) → ((x : A) → is_entry (f x) ≡ false) → (xs : List A) (hs : List Mark) → AreInner hs → AreInner (map f xs ++ hs)
inner_map f n [] hs a = a
inner_map f n (x ∷ xs) hs a = (n x, inner_map f n xs hs a)

inner_stop : (g : Config) (K : List Mark) → AreInner (at_stop g K)
inner_stop g K =
    let xs = map (λ (v : Life). Ends v.link cause.Stop) (lives K) in
    let ys = map (λ c. ClosesAtStop c) (open_ones K) in
    subst AreInner (sym (append_assoc xs ys (SendsBeacon 0 ∷ Stops ∷ [])))
    (inner_map (λ (v : Life). Ends v.link cause.Stop) (λ v. refl) (lives K) (ys ++ SendsBeacon 0 ∷ Stops ∷ [])
    (inner_map (λ c. ClosesAtStop c) (λ c. refl) (open_ones K) (SendsBeacon 0 ∷ Stops ∷ []) (refl, (refl, tt))))

module _ (x : ℕ) where
  -- a number that isn't new stays so
  old_one : (h : Mark) (K : List Mark) → is_new x K ≡ false → is_new x (h ∷ K) ≡ false
  old_one (Opens d) K n = and_right (ltb d x) (is_new x K) n
  old_one (TurnsAway d) K n = and_right (ltb d x) (is_new x K) n
  old_one _ K n = n

  old_after : (hs K : List Mark) → is_new x K ≡ false → is_new x (after hs K) ≡ false
  old_after [] K n = n
  old_after (h ∷ hs) K n = old_after hs (h ∷ K) (old_one h K n)

  -- and is not opened any more
  opened_one : (h : Mark) (K : List Mark) → May h K → is_new x K ≡ false → was_opened x (h ∷ K) ≡ was_opened x K
  opened_one (Opens d) K m n = by (eqb x d) refl
    where
      by : (b : Bool) → eqb x d ≡ b → cond b true (was_opened x K) ≡ was_opened x K
      by true e = absurd (true≢false (sym m.is_fresh ∙ ap (λ y. is_new y K) (sym (eqb-true x d e)) ∙ n))
      by false e = refl
  opened_one _ K m n = refl

  opened_after : (hs K : List Mark) → Allowed hs K → is_new x K ≡ false → was_opened x (after hs K) ≡ was_opened x K
  opened_after [] K a n = refl
  opened_after (h ∷ hs) K a n = opened_after hs (h ∷ K) a.1 (old_one h K n) ∙ opened_one h K a.0 n

-- its number is old, or the node has stopped: it is not opened any more
abbrev pub IsOld : ℕ → List Mark → Type 0
IsOld x Z = (is_new x Z ≡ false) ⊎ (has_stopped Z ≡ true)

module _ (g : Config) (J : List Entry) (e : Entry) where
  abbrev K : List Mark
  K = chronicle g J

  abbrev M : List Mark
  M = Comes e ∷ K

  abbrev N : List Mark
  N = with_entry g e K

  q : IsProper M
  q = Comes-proper K (is_proper g J) e

  -- after the marks of the entry, of which there are none after a stop
  by_stop : (P : List Mark → Type 0) → (has_stopped K ≡ true → P M) → (has_stopped K ≡ false → P (after (at_input g e.input K M) M)) → P N
  by_stop P s t = by (has_stopped K) refl
    where
      by : (b : Bool) → has_stopped K ≡ b → P (after (cond b [] (at_input g e.input K M)) M)
      by true z = s z
      by false z = t z

  inner_marks : AreInner (at_input g e.input K M)
  inner_marks = by (is_end e.input) refl
    where
      by : (b : Bool) → is_end e.input ≡ b → AreInner (at_input g e.input K M)
      by true z = subst AreInner (sym (at_end g e.input K M z)) (inner_stop g M)
      by false z = inner_of g (at_input g e.input K M) M (input_sound g e.input K M q z (are_others g J))

  pub bytes_now : (x : ℕ) → bytes x N ≡ bytes x K ++ cond (was_opened x K) (piece_of x e.input) []
  bytes_now x = by_stop (λ Z. bytes x Z ≡ bytes x K ++ cond (was_opened x K) (piece_of x e.input) []) (λ s. refl)
      (λ t. inner_bytes x (at_input g e.input K M) M inner_marks)

  none : (b : Bool) → cond {A = List ℕ} b [] [] ≡ []
  none true = refl
  none false = refl

  pub bytes_same : (x : ℕ) → piece_of x e.input ≡ [] → bytes x N ≡ bytes x K
  bytes_same x p = bytes_now x ∙ ap (λ o. bytes x K ++ cond (was_opened x K) o []) p ∙ ap (λ o. bytes x K ++ o) (none (was_opened x K)) ∙ append-nil (bytes x K)

  pub still_old : (x : ℕ) → IsOld x K → IsOld x N
  still_old x (inl n) = inl (by_stop (λ Z. is_new x Z ≡ false) (λ s. n) (λ t. old_after x (at_input g e.input K M) M n))
  still_old x (inr s) = by_stop (λ Z. IsOld x Z) (λ z. inr s) (λ t. absurd (true≢false (sym s ∙ t)))

  pub opened_now : (x : ℕ) → IsOld x K → was_opened x N ≡ was_opened x K
  opened_now x (inl n) = by_stop (λ Z. was_opened x Z ≡ was_opened x K) (λ s. refl) (λ t. opened_after x (at_input g e.input K M) M (input_allowed g e.input K M q) n)
  opened_now x (inr s) = by_stop (λ Z. was_opened x Z ≡ was_opened x K) (λ z. refl) (λ t. absurd (true≢false (sym s ∙ t)))

  -- so it is after an entry with which it opens
  pub new_old : (x : ℕ) → e.input ≡ input.Opened x → IsOld x N
  new_old x i = by_stop (λ Z. IsOld x Z) (λ s. inr s) (λ t. inl (ap (λ j. is_new x (after (at_input g j K M) M)) i ∙ opens_it (is_new x M) refl (ltb (length (open_ones M)) CONNECTIONS)))
    where
      not_before : (n : Bool) → (ltb x x && n) ≡ false
      not_before n = by (ltb x x) refl
        where
          by : (b : Bool) → ltb x x ≡ b → (b && n) ≡ false
          by true z = let l = ltb-true x x z in absurd (omega (arith, l))
          by false z = refl

      opens_it : (n : Bool) → is_new x M ≡ n → (b : Bool) → is_new x (after (cond n (cond b (Opens x ∷ []) (TurnsAway x ∷ [])) []) M) ≡ false
      opens_it true z true = not_before (is_new x M)
      opens_it true z false = not_before (is_new x M)
      opens_it false z b = z

  -- and an entry that isn't about it leaves whether it was opened
  pub opened_same : (x : ℕ) → is_of x e.input ≡ false → was_opened x N ≡ was_opened x K
  opened_same x far = by_stop (λ Z. was_opened x Z ≡ was_opened x K) (λ s. refl)
      (λ t. all_same (Quiet x) (was_opened x) one (at_input g e.input K M) M (input_quiet g e.input K M q x far))
    where
      one : (h : Mark) (H : List Mark) → Quiet x h → was_opened x (h ∷ H) ≡ was_opened x H
      one (Comes d) H z = absurd z
      one (Opens d) H z = ap (λ b. cond b true (was_opened x H)) z
      one _ H z = refl

-- Octets that come in two pieces at one reading, or in one: the same came about at the same times.
use Rattle.std.proofs.Common.{◌≡◌, ℕ, ◌≤◌, Bool, true, false, cond, not, ◌&&◌, eqb, ltb, List, [], ◌∷◌, ◌++◌, reverse, refl, sym, ap, ◌∙◌, subst, arith, append_assoc, append-nil, true≢false}
use Rattle.std.proofs.lemmas.List.{reverse-append, reverse-reverse, append_cancel_right}
use Rattle.std.specs.Option.{option_map_or}
use Rattle.zre_outside.specs.declared.entry.Entry.{Entry}
use Rattle.zre_outside.specs.declared.entry.Input.TheVariants as input
use Rattle.zre_values.specs.declared.settings.Settings.{Settings as Config}
use Rattle.zre_journal.specs.Chronicle.{Mark, Comes, Opens, TurnsAway, Ends, after}
use Rattle.zre_journal.specs.Connections.{is_new, turns, since}
use Rattle.zre_journal.specs.Cutting.{is_entry, but_entries, piece}
use Rattle.zre_journal.specs.Events.{chronicle}
use Rattle.zre_journal.specs.Happens.{has_stopped, at_input, marks, with_entry}
use Rattle.zre_journal.specs.Heard.{clock}
use Rattle.zre_journal.specs.Links.{is_linked, replies}
use Rattle.zre_journal.specs.Peers.{refreshes, active}
use Rattle.zre_journal.proofs.ProperChronicles.{is_proper}
use Rattle.zre_journal.proofs.WithoutEntryMarks.{same_runs}
use Rattle.zre_journal.proofs.CutPieces.{AreInner, inner_of, inner_clock, same_cut}
use Rattle.zre_journal.proofs.MarkByMark.{are_others}
use Rattle.zre_journal.proofs.JoinedEntries.{continues, after-append}
use Rattle.zre_journal.proofs.SaidOnConnections.{input_sound}
use Rattle.zre_journal.proofs.ProperPeers.{Comes-proper}

-- ---- marks that are no entries

-- those of a piece are such
piece_inner : (g : Config) (J : List Entry) (at c : ℕ) (o : List ℕ) → AreInner (marks g (piece at c o) (chronicle g J))
piece_inner g J at c o = by (has_stopped H) refl
  where
    H : List Mark
    H = chronicle g J

    M : List Mark
    M = Comes (piece at c o) ∷ H

    by : (b : Bool) → has_stopped H ≡ b → AreInner (cond b [] (at_input g (input.Piece c o) H M))
    by true s = tt
    by false s = inner_of g (at_input g (input.Piece c o) H M) M (input_sound g (input.Piece c o) H M (Comes-proper H (is_proper g J) (piece at c o)) refl (are_others g J))

but_after : (hs K : List Mark) → AreInner hs → but_entries (after hs K) ≡ after hs (but_entries K)
but_after [] K n = refl
but_after (h ∷ hs) K n = but_after hs (h ∷ K) n.1 ∙ ap (λ b. after hs (cond (not b) (h ∷ but_entries K) (but_entries K))) n.0

onto : (hs K : List Mark) → after hs K ≡ reverse hs ++ K
onto [] K = refl
onto (h ∷ hs) K = onto hs (h ∷ K) ∙ sym (append_assoc (reverse hs) (h ∷ []) K) ∙ ap (λ xs. xs ++ K) (sym (reverse-append (h ∷ []) hs))

same_marks : (hs ks B : List Mark) → after hs B ≡ after ks B → hs ≡ ks
same_marks hs ks B e =
    sym (reverse-reverse hs)
    ∙ ap reverse (append_cancel_right (reverse hs) (reverse ks) B (sym (onto hs B) ∙ e ∙ onto ks B))
    ∙ reverse-reverse ks

-- ---- connections that are new, but for the marks of entries

pub new_but : (c : ℕ) (H : List Mark) → is_new c (but_entries H) ≡ is_new c H
new_but c [] = refl
new_but c (Opens d ∷ H) = ap (λ b. ltb d c && b) (new_but c H)
new_but c (TurnsAway d ∷ H) = ap (λ b. ltb d c && b) (new_but c H)
new_but c (_ ∷ H) = new_but c H

-- ---- chronicles in which the same came about at the same times

pub record Sim (K L : List Mark) : Type 0 where
  pub alike : but_entries K ≡ but_entries L
  pub clocks : clock K ≡ clock L
  pub actives : (l : ℕ) → active l K ≡ active l L
  pub sinces : (c : ℕ) → since c K ≡ since c L
  pub replied : (l : ℕ) → replies l K ≡ replies l L

same_turns : (K L : List Mark) → but_entries K ≡ but_entries L → (c : ℕ) (h : Mark) → turns c K h ≡ turns c L h
same_turns K L alike c (Ends l why) = ap (λ o. option_map_or (eqb l) o false) (same_runs K L alike c)
same_turns K L alike c _ = refl

-- one mark more, which is no entry
one_more : (h : Mark) (K L : List Mark) → is_entry h ≡ false → Sim K L → Sim (h ∷ K) (h ∷ L)
one_more h K L n s = record {
  alike = ap (λ X. cond (not (is_entry h)) (h ∷ X) X) s.alike;
  clocks = at_clock h n;
  actives = λ l. ap (λ m. cond (refreshes l h) m (active l K)) s.clocks ∙ ap (λ m. cond (refreshes l h) (clock L) m) (s.actives l);
  sinces = λ c. ap (λ b. cond b (clock K) (since c K)) (same_turns K L s.alike c h) ∙ ap (λ m. cond (turns c L h) m (since c K)) s.clocks
      ∙ ap (λ m. cond (turns c L h) (clock L) m) (s.sinces c);
  replied = λ l. on_replies l h n;
}
  where
    at_clock : (h : Mark) → is_entry h ≡ false → clock (h ∷ K) ≡ clock (h ∷ L)
    at_clock (Comes e) z = absurd (true≢false z)
    at_clock _ z = s.clocks

    on_replies : (l : ℕ) (h : Mark) → is_entry h ≡ false → replies l (h ∷ K) ≡ replies l (h ∷ L)
    on_replies l (Comes e) z = absurd (true≢false z)
    on_replies l _ z = s.replied l

many_more : (hs K L : List Mark) → AreInner hs → Sim K L → Sim (after hs K) (after hs L)
many_more [] K L n s = s
many_more (h ∷ hs) K L n s = many_more hs (h ∷ K) (h ∷ L) n.1 (one_more h K L n.0 s)

-- a piece comes in its place, or once more at the same time
in_place : (H : List Mark) (at c : ℕ) (a b : List ℕ) → Sim (Comes (piece at c a) ∷ H) (Comes (piece at c b) ∷ H)
in_place H at c a b = record { alike = refl; clocks = refl; actives = λ l. refl; sinces = λ d. refl; replied = λ l. refl }

once_more : (K L : List Mark) (at c : ℕ) (b : List ℕ) → at ≤ clock K → Sim K L → Sim (Comes (piece at c b) ∷ K) L
once_more K L at c b low s = record {
  alike = s.alike;
  clocks = (omega (arith, low)) ∙ s.clocks;
  actives = s.actives;
  sinces = s.sinces;
  replied = λ l. ap (λ o. replies l K ++ o) (nothing (is_linked l K)) ∙ append-nil (replies l K) ∙ s.replied l;
}
  where
    nothing : (t : Bool) → cond {A = List ℕ} t [] [] ≡ []
    nothing true = refl
    nothing false = refl

-- ---- a piece that is cut

module _ (g : Config) (J : List Entry) (at c : ℕ) (a b : List ℕ) where
  abbrev H : List Mark
  H = chronicle g J

  abbrev M : List Mark
  M = marks g (piece at c a) H

  abbrev X : List Mark
  X = with_entry g (piece at c a) H

  abbrev N : List Mark
  N = marks g (piece at c b) X

  abbrev W : List Mark
  W = marks g (piece at c (a ++ b)) H

  reached : chronicle g (J ++ piece at c a ∷ []) ≡ X
  reached = (continues g J (piece at c a ∷ [])).happened

  inner_first : AreInner M
  inner_first = piece_inner g J at c a

  inner_second : AreInner N
  inner_second = subst (λ Y. AreInner (marks g (piece at c b) Y)) reached (piece_inner g (J ++ piece at c a ∷ []) at c b)

  twice : chronicle g (J ++ piece at c a ∷ piece at c b ∷ []) ≡ after N (Comes (piece at c b) ∷ X)
  twice = (continues g J (piece at c a ∷ piece at c b ∷ [])).happened

  once : chronicle g (J ++ piece at c (a ++ b) ∷ []) ≡ after W (Comes (piece at c (a ++ b)) ∷ H)
  once = (continues g J (piece at c (a ++ b) ∷ [])).happened

  together : M ++ N ≡ W
  together = same_marks (M ++ N) W (but_entries H)
      (after-append M N (but_entries H)
      ∙ ap (after N) (sym (but_after M (Comes (piece at c a) ∷ H) inner_first))
      ∙ sym (but_after N (Comes (piece at c b) ∷ X) inner_second)
      ∙ sym (ap but_entries twice) ∙ (same_cut g J at c a b).happened ∙ ap but_entries once
      ∙ but_after W (Comes (piece at c (a ++ b)) ∷ H) (piece_inner g J at c (a ++ b)))

  alike_at_last : Sim (after N (Comes (piece at c b) ∷ X)) (after N (after M (Comes (piece at c (a ++ b)) ∷ H)))
  alike_at_last = many_more N (Comes (piece at c b) ∷ X) (after M (Comes (piece at c (a ++ b)) ∷ H)) inner_second
      (once_more X (after M (Comes (piece at c (a ++ b)) ∷ H)) at c b late
      (many_more M (Comes (piece at c a) ∷ H) (Comes (piece at c (a ++ b)) ∷ H) inner_first (in_place H at c a (a ++ b))))
    where
      late : at ≤ clock X
      late = let e = inner_clock M (Comes (piece at c a) ∷ H) inner_first in omega (arith, e)

  ends_alike : after N (after M (Comes (piece at c (a ++ b)) ∷ H)) ≡ chronicle g (J ++ piece at c (a ++ b) ∷ [])
  ends_alike = sym (after-append M N (Comes (piece at c (a ++ b)) ∷ H)) ∙ ap (λ hs. after hs (Comes (piece at c (a ++ b)) ∷ H)) together ∙ sym once

  pub sim : Sim (chronicle g (J ++ piece at c a ∷ piece at c b ∷ [])) (chronicle g (J ++ piece at c (a ++ b) ∷ []))
  sim = subst (λ Y. Sim Y (chronicle g (J ++ piece at c (a ++ b) ∷ []))) (sym twice) (subst (λ Z. Sim (after N (Comes (piece at c b) ∷ X)) Z) ends_alike alike_at_last)

-- Counts of more events.
use Rattle.std.proofs.Common.{◌≡◌, ℕ, ◌+◌, ◌<◌, ◌≤◌, List, [], ◌∷◌, ◌++◌, length, get_or, take, refl, sym, ap, ◌∙◌, append_assoc, append-nil, add-one, take_all}
use Rattle.std.proofs.Math.Seq.{take-suc}
use Rattle.std.proofs.lemmas.List.Sums.{sum_by_push}
use Rattle.zre_peer.specs.declared.event.Event.{Event}
use Rattle.zre_commands.specs.declared.exercise.counts.Counts.{Counts}
use Rattle.zre_commands.specs.exercise.Counts.{counts_of, tally, with_event}

same : (a b c d e f g h a' b' c' d' e' f' g' h' : ℕ) → a ≡ a' → b ≡ b' → c ≡ c' → d ≡ d' → e ≡ e' → f ≡ f' → g ≡ g' → h ≡ h' →
    ◌≡◌ {A = Counts} (record { entries = a; enter = b; join = c; leave = d; whisper = e; shout = f; exit = g; content = h }) (record { entries = a'; enter = b'; join = c'; leave = d'; whisper = e'; shout = f'; exit = g'; content = h' })
same a b c d e f g h a' b' c' d' e' f' g' h' e1 e2 e3 e4 e5 e6 e7 e8 = cc

pub one_event : (n : ℕ) (es : List Event) (e : Event) → with_event (tally n es) e ≡ tally n (es ++ e ∷ [])
one_event n es e =
    let p = sum_by_push (λ x. (counts_of x).enter) es e in
    let q = sum_by_push (λ x. (counts_of x).join) es e in
    let r = sum_by_push (λ x. (counts_of x).leave) es e in
    let s = sum_by_push (λ x. (counts_of x).whisper) es e in
    let t = sum_by_push (λ x. (counts_of x).shout) es e in
    let u = sum_by_push (λ x. (counts_of x).exit) es e in
    let v = sum_by_push (λ x. (counts_of x).content) es e in
    same _ _ _ _ _ _ _ _ _ _ _ _ _ _ _ _ refl (sym p) (sym q) (sym r) (sym s) (sym t) (sym u) (sym v)

-- none was counted of those that follow
pub no_event : (n : ℕ) (es before : List Event) (c : Counts) → c ≡ tally n before → c ≡ tally n (before ++ take 0 es)
no_event n es before c so_far = so_far ∙ ap (tally n) (sym (append-nil before))

-- one more of those that follow is counted
pub next_event : (n i : ℕ) (es before : List Event) (e : Event) (c d : Counts) → i < length es → e ≡ get_or es i e →
    c ≡ tally n (before ++ take i es) → d ≡ with_event c e → d ≡ tally n (before ++ take (i + 1) es)
next_event n i es before e c d lt is so_far counted =
    let step : take (i + 1) es ≡ take i es ++ e ∷ [] = rw add-one (take-suc es i e lt ∙ ap (λ x. take i es ++ x ∷ []) (sym is)) in
    counted ∙ ap (λ k. with_event k e) so_far ∙ one_event n (before ++ take i es) e
    ∙ ap (tally n) (append_assoc before (take i es) (e ∷ []) ∙ ap (λ xs. before ++ xs) (sym step))

-- all of them are
pub all_events : (n i : ℕ) (es before : List Event) (c : Counts) → length es ≤ i → c ≡ tally n (before ++ take i es) → c ≡ tally n (before ++ es)
all_events n i es before c le so_far = so_far ∙ ap (λ xs. tally n (before ++ xs)) (take_all i es le)

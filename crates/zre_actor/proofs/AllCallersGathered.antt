-- What the actor's pass knows once it took in all callers.
use Rattle.std.proofs.Common.{◌≡◌, ℕ, zero, suc, ◌+◌, ◌≤◌, ◌<◌, List, [], ◌∷◌, ◌++◌, get_or, length, refl, sym, ap, ◌∙◌, subst, arith, append_assoc, append-nil, length-append}
use mathlib.Core.List.{IsPrefix}
use Rattle.zre_outside.specs.declared.entry.Command.{Command}
use Rattle.zre_actor.specs.declared.views.Placed.{Placed}
use Rattle.zre_actor.specs.declared.views.CommandView.{CommandView}
use Rattle.zre_actor.specs.declared.passes.CallerPass.{CallerPass}
use Rattle.zre_actor.specs.Commands.{times, under, Closed, live, numbers, joined, Accounts, IsActor, HasAll, Rule}
use Rattle.zre_actor.specs.Passes.{caller, put_by, puts_of, live_of, how_many}
use Rattle.zre_actor.proofs.SumsOverPasses.{times-append, under-append}
use Rattle.crossbeam_queue.specs.Fifo.{Learns}
use Rattle.zre_actor.proofs.CommandPipeInvariant.{counts, counts_live, accounts}
use Rattle.zre_actor.proofs.CountsOverNumbers.{same_length}

-- the pass v after it took in the others
abbrev pub gathered : CommandView → List CallerPass → CommandView
gathered v [] = v
gathered v (p ∷ ps) = gathered (joined v (caller p)) ps

pub gathered-snoc : (v : CommandView) (ps : List CallerPass) (p : CallerPass) → gathered v (ps ++ p ∷ []) ≡ joined (gathered v ps) (caller p)
gathered-snoc v [] p = refl
gathered-snoc v (q ∷ qs) p = gathered-snoc (joined v (caller q)) qs p

pub gathered_popped : (v : CommandView) (ps : List CallerPass) → (gathered v ps).popped ≡ v.popped
gathered_popped v [] = refl
gathered_popped v (p ∷ ps) = gathered_popped (joined v (caller p)) ps

pub gathered_actor : (v : CommandView) (ps : List CallerPass) → (gathered v ps).actor ≡ v.actor
gathered_actor v [] = refl
gathered_actor v (p ∷ ps) = gathered_actor (joined v (caller p)) ps

pub gathered_put : (v : CommandView) (ps : List CallerPass) → (gathered v ps).put ≡ v.put ++ puts_of ps
gathered_put v [] = sym (append-nil v.put)
gathered_put v (p ∷ ps) = gathered_put (joined v (caller p)) ps ∙ append_assoc v.put (put_by p) (puts_of ps)

-- how often n stands among the numbers of these passes
among_callers : ℕ → List CallerPass → ℕ
among_callers n [] = 0
among_callers n (p ∷ ps) = times n (live_of p) + among_callers n ps

live_joined : (n : ℕ) (v w : CommandView) → times n (live (joined v w)) ≡ times n (live v) + times n (live w)
live_joined n v w = omega (arith, counts_live n (joined v w), counts_live n v, times-append n v.ended (live w))

gathered_live : (n : ℕ) (v : CommandView) (ps : List CallerPass) → times n (live (gathered v ps)) ≡ times n (live v) + among_callers n ps
unfolding among_callers
gathered_live n v [] = omega arith
gathered_live n v (p ∷ ps) = omega (arith, gathered_live n (joined v (caller p)) ps, live_joined n v (caller p))

pub gathered_numbers : (v : CommandView) (ps : List CallerPass) → length (numbers (gathered v ps)) ≡ length (numbers v) + how_many ps
gathered_numbers v [] = omega arith
gathered_numbers v (p ∷ ps) = let w = caller p in
    let none : length w.unused ≡ 0 = ap length p.is_caller.2 in
    omega (arith, gathered_numbers (joined v w) ps, length-append (live v) v.unused, length-append v.own v.ended, length-append (v.own ++ (v.ended ++ live w)) (v.unused ++ w.unused), length-append v.own (v.ended ++ live w), length-append v.ended (live w), length-append v.unused w.unused)

none_put : (n : ℕ) (ps : List CallerPass) → among_callers n ps ≡ 0 → under n (puts_of ps) ≡ []
unfolding among_callers
none_put n [] h = refl
none_put n (p ∷ ps) h = under-append n (put_by p) (puts_of ps) ∙ ap (λ l. l ++ under n (puts_of ps)) (p.is_caller.3 n (omega arith)) ∙ none_put n ps (omega arith)

one_among : (n : ℕ) (ps : List CallerPass) (k : ℕ) (d : CallerPass) → k < length ps → times n (live_of (get_or ps k d)) ≤ among_callers n ps
unfolding among_callers
one_among n [] k d h = absurd (omega arith)
one_among n (p ∷ ps) zero d h = omega arith
one_among n (p ∷ ps) (suc k) d h = omega (arith, one_among n ps k d (omega arith))

one_put : (n : ℕ) (ps : List CallerPass) (k : ℕ) (d : CallerPass) → k < length ps → among_callers n ps ≤ 1 → 1 ≤ times n (live_of (get_or ps k d)) → under n (puts_of ps) ≡ under n (put_by (get_or ps k d))
unfolding among_callers
one_put n [] k d less one here = absurd (omega arith)
one_put n (p ∷ ps) zero d less one here = under-append n (put_by p) (puts_of ps) ∙ ap (λ l. under n (put_by p) ++ l) (none_put n ps (omega arith)) ∙ append-nil (under n (put_by p))
one_put n (p ∷ ps) (suc k) d less one here = under-append n (put_by p) (puts_of ps) ∙ ap (λ l. l ++ under n (puts_of ps)) (p.is_caller.3 n (omega (arith, one_among n ps k d (omega arith)))) ∙ one_put n ps k d (omega arith) (omega arith) here

-- no command stands after one that names its number as ended
closed_after : (before : List Placed) (last : Placed) (later : List Placed) (n : ℕ) → Closed ((before ++ last ∷ []) ++ later) → 1 ≤ times n last.ended → under n later ≡ []
closed_after [] last later n c h = c.0 n h
closed_after (e ∷ es) last later n c h = closed_after es last later n c.1 h

module _ (v : CommandView) (ps : List CallerPass) (items : List Command) (nothing : v.put ≡ []) (known : Accounts (gathered v ps) items) where
  history : List Placed
  history = v.popped ++ known.queued

  all_put : (n : ℕ) → under n (v.popped ++ known.queued) ≡ under n (puts_of ps)
  all_put n = ap (λ l. under n (l ++ known.queued)) (sym (gathered_popped v ps)) ∙ known.all_put n ∙ ap (under n) (gathered_put v ps ∙ ap (λ l. l ++ puts_of ps) nothing)

  pub fronts : (n : ℕ) → IsPrefix (under n v.popped) (under n (puts_of ps))
  fronts n = (under n known.queued, sym (under-append n v.popped known.queued) ∙ all_put n)

  pub each_prefix : (k : ℕ) (d : CallerPass) → k < length ps → (n : ℕ) → 1 ≤ times n (live_of (get_or ps k d)) → IsPrefix (under n v.popped) (under n (put_by (get_or ps k d)))
  each_prefix k d less n here = (
    under n known.queued,
    sym (under-append n v.popped known.queued) ∙ all_put n
        ∙ one_put n ps k d less (let a = known.apart n in omega (arith, gathered_live n v ps, counts n (gathered v ps))) here,
  )

  pub all_left : length known.queued + length v.popped ≡ length (puts_of ps)
  all_left = let same = same_length (v.popped ++ known.queued) (puts_of ps) all_put (λ n out. ap (λ l. under n (l ++ known.queued)) (sym (gathered_popped v ps)) ∙ known.known n out) in
      omega (arith, length-append v.popped known.queued)

  pub all_ended : (before : List Placed) (last : Placed) (n : ℕ) → v.popped ≡ before ++ last ∷ [] → 1 ≤ times n last.ended → under n v.popped ≡ under n (puts_of ps)
  all_ended before last n is here =
      let closed = subst Closed (ap (λ l. l ++ known.queued) (gathered_popped v ps ∙ is)) known.closed in
      sym (append-nil (under n v.popped)) ∙ ap (λ l. under n v.popped ++ l) (sym (closed_after before last known.queued n closed here)) ∙ sym (under-append n v.popped known.queued) ∙ all_put n

-- the loop took in every pass
took_all : (given taken left : List CallerPass) (n : ℕ) → given ≡ taken ++ left → n ≡ length left → n ≡ 0 → taken ≡ given
took_all given taken [] n is long none = sym (append-nil taken) ∙ sym is
took_all given taken (p ∷ ps) n is long none = absurd (omega arith)

-- so it knows what they know
pub gathered_all : (v w : CommandView) (given taken left : List CallerPass) (n : ℕ) → given ≡ taken ++ left → n ≡ length left → n ≡ 0 → w ≡ gathered v taken → w ≡ gathered v given
gathered_all v w given taken left n is long none known = known ∙ ap (gathered v) (took_all given taken left n is long none)

pub has_all : (v : CommandView) (ps : List CallerPass) → IsActor v → length v.unused + how_many ps ≡ 16 → HasAll (gathered v ps)
has_all v ps a back = let own : length v.own ≡ 0 = ap length a.1 in let gone : length v.ended ≡ 0 = ap length a.2 in
    omega (arith, gathered_numbers v ps, length-append (live v) v.unused, length-append v.own v.ended)

-- what a pass with this view is to know
pub learns_all_put : (port : ℕ) (u v : CommandView) (ps : List CallerPass) → u ≡ gathered v ps → IsActor v → length v.unused + how_many ps ≡ 16 → Learns Rule port u (Accounts u)
learns_all_put port u v ps is a back = accounts port u (ap (λ (x : CommandView). x.actor) is ∙ gathered_actor v ps ∙ a.0) (subst HasAll (sym is) (has_all v ps a back))

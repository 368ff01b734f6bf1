-- Each step of the command pipe keeps its rule.
use Rattle.std.proofs.Common.{◌≡◌, ◌≢◌, ℕ, zero, suc, ◌+◌, ◌≤◌, ◌<◌, ◌==◌, Bool, true, false, cond, List, [], ◌∷◌, ◌++◌, map, take, set, refl, sym, ap, ◌∙◌, subst, arith, append_assoc, append-nil, eq-eqb, ⊎_elim}
use Rattle.std.proofs.lemmas.List.{map-append}
use mathlib.Core.Option.{some, some-injective, some-ne-none}
use mathlib.Core.Logic.{dite}
use native.Mathlib.Decide.{dec_le}
use lib.ListN.{get_elem?}
use Rattle.crossbeam_queue.specs.Fifo.{Pushes, Pops, Forks, Merges, Learns}
use Rattle.crossbeam_queue.proofs.Lists.{at_set, at_snoc}
use Rattle.zre_outside.specs.declared.entry.Command.{Command}
use Rattle.zre_actor.specs.declared.views.Placed.{Placed}
use Rattle.zre_actor.specs.declared.views.CommandView.{CommandView}
use Rattle.zre_actor.specs.Commands.{times, under, naming, Closed, total, among, live, numbers, Each, Kept, Rule, command_of, row, first, without_one, one_caller, joined, nobody, head_or, written, wrote, Reads, Accounts, HasAll, view}
use Rattle.std.proofs.lemmas.Bool.Decides.{nat_tests}
use Rattle.zre_actor.proofs.CountsOverNumbers.{all_there}
use Rattle.zre_actor.proofs.SumsOverPasses.{times-append, times_cut, under-append, under_other, naming-append, Closed-snoc, total_set, total_snoc, total_one, total_two, total_sum}

each_set : (F : CommandView → Type 0) (views : List CommandView) (p : ℕ) (w : CommandView) → F w → ((q : ℕ) (u : CommandView) → q ≢ p → get_elem? views q ≡ some u → F u) → Each (set views p w) F
each_set F views p w mine others q u at = ⊎_elim (λ (x : (q ≡ p) × (w ≡ u)). subst F x.1 mine) (λ (x : (q ≢ p) × (get_elem? views q ≡ some u)). others q u x.0 x.1) (at_set views p q w u at)

each_snoc : (F : CommandView → Type 0) (views : List CommandView) (r : CommandView) → F r → Each views F → Each (views ++ r ∷ []) F
each_snoc F views r last old q u at = ⊎_elim (λ (x : get_elem? views q ≡ some u). old q u x) (λ (x : r ≡ u). subst F x last) (at_snoc views r u q at)

total_kept : (f : CommandView → ℕ) (views : List CommandView) (p : ℕ) (v w : CommandView) → get_elem? views p ≡ some v → f w ≡ f v → total f (set views p w) ≡ total f views
total_kept f views p v w at same = omega (arith, total_set f views p v w at)

pub counts : (n : ℕ) (v : CommandView) → times n (numbers v) ≡ times n (live v) + times n v.unused
counts n v = times-append n (live v) v.unused

pub counts_live : (n : ℕ) (v : CommandView) → times n (live v) ≡ times n v.own + times n v.ended
counts_live n v = times-append n v.own v.ended

among_numbers : (n : ℕ) (views : List CommandView) → among numbers n views ≡ among live n views + among (λ v. v.unused) n views
among_numbers n views = total_sum (λ v. times n (live v)) (λ v. times n v.unused) (λ v. times n (numbers v)) (counts n) views

among_live : (n : ℕ) (views : List CommandView) → among live n views ≡ among (λ v. v.own) n views + among (λ v. v.ended) n views
among_live n views = total_sum (λ v. times n v.own) (λ v. times n v.ended) (λ v. times n (live v)) (counts_live n) views

-- a live number of one pass is no number of another
elsewhere : (n : ℕ) (views : List CommandView) (p q : ℕ) (v u : CommandView) → among numbers n views ≤ 1 → q ≢ p → get_elem? views p ≡ some v → get_elem? views q ≡ some u → 1 ≤ times n (live u) → times n (numbers v) ≡ 0
elsewhere n views p q v u apart other at at' here = let two = total_two (λ x. times n (numbers x)) views p q v u other at at' in omega (arith, counts n u)

pub own_once : (m : ℕ) (v : CommandView) → v.own ≡ m ∷ [] → times m v.own ≡ 1
own_once m v own = ap (times m) own ∙ (let yes : (m == m) ≡ true = eq-eqb m m refl in ap (λ b. cond b 1 0 + 0) yes)

module _ (out history : List Placed) (views : List CommandView) (port : ℕ) (v : CommandView) (k : Kept out history views) (at : get_elem? views port ≡ some v) where
  kept_push : (m : ℕ) (x : Command) → v.own ≡ m ∷ [] → Kept out (history ++ written v x ∷ []) (set views port (wrote v x))
  kept_push m x own =
      let e : Placed = written v x in
      let w : CommandView = wrote v x in
      let is : e.number ≡ m = ap head_or own in
      let mine : times m v.own ≡ 1 = own_once m v own in
      let same : (f : CommandView → ℕ) → f w ≡ f v → total f (set views port w) ≡ total f views = λ f. total_kept f views port v w at in
      let not_m : (n : ℕ) (z : ℕ) → times n v.own ≡ z → z ≡ 0 → e.number ≢ n = λ n z t none i. (let a : times m v.own ≡ times n v.own = ap (λ j. times j v.own) (sym is ∙ i) in omega arith) in
      record {
        actor = same (λ u. cond u.actor 1 0) refl ∙ k.actor;
        popped = each_set (λ u. u.popped ≡ cond u.actor out []) views port w (k.popped port v at) (λ q u _ there. k.popped q u there);
        range = λ n h. k.range n (let s = same (λ u. times n (numbers u)) refl in omega arith);
        apart = λ n. (let s = same (λ u. times n (numbers u)) refl in let a = k.apart n in omega arith);
        puts = each_set (λ u. (n : ℕ) → 1 ≤ times n (live u) → under n (history ++ e ∷ []) ≡ under n u.put) views port w
            (λ n h. under-append n history (e ∷ []) ∙ ap (λ l. l ++ under n (e ∷ [])) (k.puts port v at n h) ∙ sym (under-append n v.put (e ∷ [])))
            (λ q u other there n h. let z = elsewhere n views port q v u (k.apart n) other at there h in
            under-append n history (e ∷ []) ∙ ap (λ l. under n history ++ l) (under_other n e (not_m n (times n v.own) refl (omega (arith, counts n v, counts_live n v)))) ∙ append-nil (under n history) ∙ k.puts q u there n h);
        alone = each_set (λ u. (n : ℕ) → times n (live u) ≡ 0 → under n u.put ≡ []) views port w
            (λ n h. under-append n v.put (e ∷ []) ∙ ap (λ l. l ++ under n (e ∷ [])) (k.alone port v at n h) ∙ under_other n e (not_m n (times n v.own) refl (omega (arith, counts_live n v))))
            (λ q u other there. k.alone q u there);
        known = λ n h. (let s = same (λ u. times n (live u)) refl in let o = total_one (λ u. times n (live u)) views port v at in
            under-append n history (e ∷ []) ∙ ap (λ l. l ++ under n (e ∷ [])) (k.known n (omega arith)) ∙ under_other n e (not_m n (times n v.own) refl (omega (arith, counts_live n v))));
        named = λ n h. (let s = same (λ u. times n u.ended) refl in let o = total_one (λ u. times n u.ended) views port v at in let old = k.named n (omega arith) in
            omega (arith, naming-append n history (e ∷ [])));
        closed = Closed-snoc history e k.closed (
            let o = total_one (λ u. times m u.own) views port v at in
            let none : naming m history ≡ 0 = k.named m (let a = k.apart m in omega (arith, among_numbers m views, among_live m views)) in
            ap (λ j. naming j history) is ∙ none);
      }

pub pushes : (n port : ℕ) (v : CommandView) (m : ℕ) (x : Command) → v.own ≡ m ∷ [] → Pushes Rule n port v x (λ w. w ≡ wrote v x)
pushes n port v m x own items views _ h at = let out = h.0 in let queued = h.1 in let e : Placed = written v x in (
  wrote v x,
  (
    out,
    queued ++ e ∷ [],
    map-append command_of queued (e ∷ []) ∙ ap (λ l. l ++ x ∷ []) h.2,
    subst (λ l. Kept out l (set views port (wrote v x))) (append_assoc out queued (e ∷ [])) (kept_push out (out ++ queued) views port v h.3 at m x own),
  ),
  refl,
)

none_left : (b : Bool) → (z : ℕ) → z ≡ cond b 1 0 → z ≡ 0 → b ≡ false
none_left true z e h = absurd (omega arith)
none_left false z e h = refl

-- the actor's is the only pass that has popped anything
other_idle : (views : List CommandView) (p q : ℕ) (v u : CommandView) → total (λ u. cond u.actor 1 0) views ≡ 1 → q ≢ p → get_elem? views p ≡ some v → get_elem? views q ≡ some u → v.actor ≡ true → u.actor ≡ false
other_idle views p q v u one other at at' is = let two = total_two (λ x. cond x.actor 1 0) views p q v u other at at' in
    let count : Bool → ℕ = λ b. cond b 1 0 in let a : count v.actor ≡ 1 = ap count is in none_left u.actor (count u.actor) refl (omega arith)

-- a number that one of two passes has live is under what both put as it was under that one's
under_both : (history : List Placed) (n : ℕ) (v w : CommandView) → times n (live v) + times n (live w) ≤ 1
    → (1 ≤ times n (live v) → under n history ≡ under n v.put) → (1 ≤ times n (live w) → under n history ≡ under n w.put)
    → (times n (live v) ≡ 0 → under n v.put ≡ []) → (times n (live w) ≡ 0 → under n w.put ≡ [])
    → 1 ≤ times n (live v) + times n (live w) → under n history ≡ under n (v.put ++ w.put)
under_both history n v w one pv pw av aw h = dite (dec_le 1 (times n (live v)))
    (λ mine. pv mine ∙ sym (append-nil (under n v.put)) ∙ ap (λ l. under n v.put ++ l) (sym (aw (omega arith))) ∙ sym (under-append n v.put w.put))
    (λ not. let z : times n (live v) ≡ 0 = omega arith in pw (omega arith) ∙ ap (λ l. l ++ under n w.put) (sym (av z)) ∙ sym (under-append n v.put w.put))

module _ (out history : List Placed) (views : List CommandView) (port : ℕ) (v : CommandView) (k : Kept out history views) (at : get_elem? views port ≡ some v) where
  kept_pop : (e : Placed) → v.actor ≡ true → Kept (out ++ e ∷ []) history (set views port (view v.actor (v.popped ++ e ∷ []) v.own v.ended v.unused v.put))
  kept_pop e is =
      let w : CommandView = view v.actor (v.popped ++ e ∷ []) v.own v.ended v.unused v.put in
      let same : (f : CommandView → ℕ) → f w ≡ f v → total f (set views port w) ≡ total f views = λ f. total_kept f views port v w at in
      record {
        actor = same (λ u. cond u.actor 1 0) refl ∙ k.actor;
        popped = each_set (λ u. u.popped ≡ cond u.actor (out ++ e ∷ []) []) views port w
            (ap (λ l. l ++ e ∷ []) (k.popped port v at ∙ ap (λ b. cond b out []) is) ∙ ap (λ b. cond b (out ++ e ∷ []) []) (sym is))
            (λ q u other there. let idle = other_idle views port q v u k.actor other at there is in k.popped q u there ∙ ap (λ b. cond b out []) idle ∙ ap (λ b. cond b (out ++ e ∷ []) []) (sym idle));
        range = λ n h. k.range n (let s = same (λ u. times n (numbers u)) refl in omega arith);
        apart = λ n. (let s = same (λ u. times n (numbers u)) refl in let a = k.apart n in omega arith);
        puts = each_set (λ u. (n : ℕ) → 1 ≤ times n (live u) → under n history ≡ under n u.put) views port w (k.puts port v at) (λ q u _ there. k.puts q u there);
        alone = each_set (λ u. (n : ℕ) → times n (live u) ≡ 0 → under n u.put ≡ []) views port w (k.alone port v at) (λ q u _ there. k.alone q u there);
        known = λ n h. k.known n (let s = same (λ u. times n (live u)) refl in omega arith);
        named = λ n h. k.named n (let s = same (λ u. times n u.ended) refl in omega arith);
        closed = k.closed;
      }

  kept_split : Kept out history (set views port (without_one v) ++ one_caller v ∷ [])
  kept_split =
      let l : CommandView = without_one v in
      let r : CommandView = one_caller v in
      let cut : List CommandView = set views port l in
      let sums : (f : CommandView → ℕ) → total f (cut ++ r ∷ []) + f v ≡ total f views + f l + f r = λ f. omega (arith, total_set f views port v l at, total_snoc f cut r) in
      let all : (n : ℕ) → times n (numbers l) + times n (numbers r) ≡ times n (numbers v) = λ n. omega (arith, counts n l, counts n r, counts n v, counts_live n r, times_cut n v.unused) in
      let lives : (n : ℕ) → times n (live l) + times n (live r) ≡ times n (live v) + times n (take 1 v.unused) = λ n. omega (arith, counts_live n r) in
      record {
        actor = (let s = sums (λ u. cond u.actor 1 0) in omega (arith, k.actor));
        popped = each_snoc (λ u. u.popped ≡ cond u.actor out []) cut r refl (each_set (λ u. u.popped ≡ cond u.actor out []) views port l (k.popped port v at) (λ q u _ there. k.popped q u there));
        range = λ n h. k.range n (let s = sums (λ u. times n (numbers u)) in omega (arith, all n));
        apart = λ n. (let s = sums (λ u. times n (numbers u)) in let a = k.apart n in omega (arith, all n));
        puts = each_snoc (λ u. (n : ℕ) → 1 ≤ times n (live u) → under n history ≡ under n u.put) cut r
            (λ n h. k.known n (let o = total_one (λ u. times n u.unused) views port v at in let a = k.apart n in omega (arith, counts_live n r, times_cut n v.unused, among_numbers n views)))
            (each_set (λ u. (n : ℕ) → 1 ≤ times n (live u) → under n history ≡ under n u.put) views port l (k.puts port v at) (λ q u _ there. k.puts q u there));
        alone = each_snoc (λ u. (n : ℕ) → times n (live u) ≡ 0 → under n u.put ≡ []) cut r (λ n h. refl) (each_set (λ u. (n : ℕ) → times n (live u) ≡ 0 → under n u.put ≡ []) views port l (k.alone port v at) (λ q u _ there. k.alone q u there));
        known = λ n h. k.known n (let s = sums (λ u. times n (live u)) in omega (arith, lives n));
        named = λ n h. k.named n (let s = sums (λ u. times n u.ended) in omega arith);
        closed = k.closed;
      }

  kept_join : (q : ℕ) (w : CommandView) → w.actor ≡ false → q ≢ port → get_elem? (set views port (joined v w)) q ≡ some w → Kept out history (set (set views port (joined v w)) q nobody)
  kept_join q w caller other at' =
      let both : CommandView = joined v w in
      let near : List CommandView = set views port both in
      let there : get_elem? views q ≡ some w = ⊎_elim (λ x. absurd (other x.0)) (λ x. x.1) (at_set views port q both w at') in
      let sums : (f : CommandView → ℕ) → total f (set near q nobody) + f v + f w ≡ total f views + f both + f nobody = λ f. omega (arith, total_set f views port v both at, total_set f near q w nobody at') in
      let lives : (n : ℕ) → times n (live both) ≡ times n (live v) + times n (live w) = λ n. omega (arith, counts_live n both, counts_live n v, times-append n v.ended (live w)) in
      let all : (n : ℕ) → times n (numbers both) ≡ times n (numbers v) + times n (numbers w) = λ n. omega (arith, lives n, counts n both, counts n v, counts n w, times-append n v.unused w.unused) in
      let two : (n : ℕ) → times n (numbers v) + times n (numbers w) ≤ 1 = λ n. (let t = total_two (λ x. times n (numbers x)) views port q v w other at there in let a = k.apart n in omega arith) in
      let P : CommandView → Type 0 = λ u. u.popped ≡ cond u.actor out [] in
      let Q : CommandView → Type 0 = λ u. (n : ℕ) → 1 ≤ times n (live u) → under n history ≡ under n u.put in
      let R : CommandView → Type 0 = λ u. (n : ℕ) → times n (live u) ≡ 0 → under n u.put ≡ [] in
      let each : (F : CommandView → Type 0) → F both → F nobody → Each views F → Each (set near q nobody) F =
      λ F a b old. each_set F near q nobody b (λ j u _ e. each_set F views port both a (λ j u _ e. old j u e) j u e) in
      record {
        actor = (let s = sums (λ u. cond u.actor 1 0) in let count : Bool → ℕ = λ b. cond b 1 0 in let z : count w.actor ≡ 0 = ap count caller in omega (arith, k.actor));
        popped = each P (k.popped port v at) refl k.popped;
        range = λ n h. k.range n (let s = sums (λ u. times n (numbers u)) in omega (arith, all n));
        apart = λ n. (let s = sums (λ u. times n (numbers u)) in let a = k.apart n in omega (arith, all n));
        puts = each Q
            (λ n h. under_both history n v w (omega (arith, two n, counts n v, counts n w)) (k.puts port v at n) (k.puts q w there n) (k.alone port v at n) (k.alone q w there n) (omega (arith, lives n)))
            (λ n h. absurd (omega arith)) k.puts;
        alone = each R
            (λ n h. under-append n v.put w.put ∙ ap (λ l. l ++ under n w.put) (k.alone port v at n (omega (arith, lives n))) ∙ k.alone q w there n (omega (arith, lives n)))
            (λ n h. refl) k.alone;
        known = λ n h. k.known n (let s = sums (λ u. times n (live u)) in omega (arith, lives n));
        named = λ n h. k.named n (let s = sums (λ u. times n u.ended) in omega (arith, times-append n v.ended (live w), counts_live n w));
        closed = k.closed;
      }

popped_from : (port : ℕ) (v : CommandView) (x : Command) (items : List Command) (views : List CommandView) → v.actor ≡ true → get_elem? views port ≡ some v
    → (out queued : List Placed) → map command_of queued ≡ x ∷ items → Kept out (out ++ queued) views
    → (w : CommandView) × Rule items (set views port w) × Reads v x w
popped_from port v x items views is at out [] none k = absurd (cc)
popped_from port v x items views is at out (e ∷ queued) some_ k = let w : CommandView = view v.actor (v.popped ++ e ∷ []) v.own v.ended v.unused v.put in
    let rest : map command_of queued ≡ items = cc in
    let this : e.command ≡ x = cc in (
      w,
      (out ++ e ∷ [], queued, rest, subst (λ l. Kept (out ++ e ∷ []) l (set views port w)) (sym (append_assoc out (e ∷ []) queued)) (kept_pop out (out ++ e ∷ queued) views port v k at e is)),
      (e, this, refl),
    )

pub pops : (port : ℕ) (v : CommandView) → v.actor ≡ true → Pops Rule port v (Reads v)
pops port v is x items views h at = popped_from port v x items views is at h.0 h.1 h.2 h.3

pub forks : (port : ℕ) (v : CommandView) → Forks Rule port v (without_one v) (one_caller v)
forks port v items views h at = (h.0, h.1, h.2, kept_split h.0 (h.0 ++ h.1) views port v h.3 at)

pub merges : (port : ℕ) (v : CommandView) (other : ℕ) (w : CommandView) → w.actor ≡ false → Merges Rule port v other w (joined v w) nobody
merges port v other w caller items views h at apart at' = (h.0, h.1, h.2, kept_join h.0 (h.0 ++ h.1) views port v h.3 at other w caller apart at')

-- a number that is in range, and one that is not
out_of_range : (out history : List Placed) (views : List CommandView) (k : Kept out history views) (n : ℕ) → ¬ ((1 ≤ n) × (n ≤ 16)) → among numbers n views ≡ 0
out_of_range out history views k n outside = dite (dec_le 1 (among numbers n views)) (λ (here : 1 ≤ among numbers n views). absurd (outside (k.range n here))) (λ (away : ¬ (1 ≤ among numbers n views)). omega arith)

settled : (out history : List Placed) (views : List CommandView) (port : ℕ) (v : CommandView) → Kept out history views → get_elem? views port ≡ some v → HasAll v → (n : ℕ) → under n history ≡ under n v.put
settled out history views port v k at all n = dite (dec_le 1 (times n (live v))) (k.puts port v at n)
    (λ not. let z : times n (live v) ≡ 0 = omega arith in let a = k.apart n in
    k.known n (dite (dec_le 1 (among numbers n views))
    (λ (here : 1 ≤ among numbers n views). let r = k.range n here in
    let o = total_one (λ u. times n u.unused) views port v at in
    let one : (j : ℕ) → times j (numbers v) ≤ 1 = λ j. (let b = k.apart j in let t = total_one (λ u. times j (numbers u)) views port v at in omega arith) in
    let within : (j : ℕ) → 1 ≤ times j (numbers v) → (1 ≤ j) × (j ≤ 16) = λ j h. k.range j (let t = total_one (λ u. times j (numbers u)) views port v at in omega arith) in
    let there = all_there (numbers v) all one within n r.0 r.1 in omega (arith, counts n v, among_numbers n views))
    (λ (away : ¬ (1 ≤ among numbers n views)). omega (arith, among_numbers n views)))
    ∙ sym (k.alone port v at n z))

pub accounts : (port : ℕ) (v : CommandView) → v.actor ≡ true → HasAll v → Learns Rule port v (Accounts v)
accounts port v is all items views h at = let k = h.3 in let same : v.popped ≡ h.0 = k.popped port v at ∙ ap (λ b. cond b h.0 []) is in record {
  queued = h.1;
  are_queued = h.2;
  all_put = λ n. ap (λ l. under n (l ++ h.1)) same ∙ settled h.0 (h.0 ++ h.1) views port v k at all n;
  known = λ n outside. ap (λ l. under n (l ++ h.1)) same ∙ k.known n (let z = out_of_range h.0 (h.0 ++ h.1) views k n outside in omega (arith, among_numbers n views));
  closed = subst Closed (ap (λ l. l ++ h.1) (sym same)) k.closed;
  apart = λ n. (let a = k.apart n in let t = total_one (λ u. times n (numbers u)) views port v at in omega arith);
}

-- a row has its numbers, each once
row_from : (n a k : ℕ) → 1 ≤ times n (row a k) → (a ≤ n) × (n < a + k)
row_from n a zero h = absurd (omega arith)
row_from n a (suc k) h = grind (arith, nat_tests, row_from n (suc a) k)

row_once : (n a k : ℕ) → times n (row a k) ≤ 1
row_once n a zero = omega arith
row_once n a (suc k) = grind (arith, nat_tests, row_once n (suc a) k, row_from n (suc a) k)

single : (F : CommandView → Type 0) (v : CommandView) → F v → Each (v ∷ []) F
single F v h zero u at = subst F (some-injective v u at) h
single F v h (suc p) u at = absurd (some-ne-none u (sym at))

pub begins : Rule [] (first ∷ [])
begins = (
  [],
  [],
  refl,
  record {
    actor = refl;
    popped = single (λ u. u.popped ≡ cond u.actor [] []) first refl;
    range = λ n h. (let r = row_from n 1 16 (omega arith) in omega arith);
    apart = λ n. (let r = row_once n 1 16 in omega arith);
    puts = single (λ u. (n : ℕ) → 1 ≤ times n (live u) → under n [] ≡ under n u.put) first (λ n h. refl);
    alone = single (λ u. (n : ℕ) → times n (live u) ≡ 0 → under n u.put ≡ []) first (λ n h. refl);
    known = λ n h. refl;
    named = λ n h. refl;
    closed = tt;
  },
)

-- A network before any move, and who runs at a node from now on.
use Rattle.std.proofs.Common.{◌≡◌, ℕ, zero, suc, ◌<◌, Bool, true, false, cond, eqb, List, [], ◌∷◌, ◌++◌, length, drop, replicate, Option, Some, None, refl, sym, ap, ◌∙◌, subst, arith, eqb-true, eq-eqb, true≢false}
use Rattle.std.specs.Prelude.{slice_set, option_and_then, sum_by}
use Rattle.std.specs.List.{list_all}
use Rattle.zre_net.specs.declared.running.network.Network.{Network}
use Rattle.zre_net.specs.declared.running.rows.Started.{Started}
use Rattle.zre_net.specs.declared.running.rows.Carrier.{Carrier}
use Rattle.zre_net.specs.Lines.{octets_in}
use Rattle.zre_net.specs.Lists.{nth}
use Rattle.zre_net.specs.Rows.{running_at, has_node, fits_owner, with_running}
use Rattle.zre_net.specs.Running.{AreStarted, AreConns, StandsAfter}
use Rattle.zre_net.proofs.ListsCountedFromOne.{got_same, got_other}

none_at : (k n : ℕ) → running_at n (replicate k None) ≡ None
none_at zero n = refl
none_at (suc k) zero = refl
none_at (suc k) (suc n) = none_at k n

pub begins : (net : Network) → net.handed ≡ 0 → net.said ≡ [] → net.started.items ≡ [] → net.running.items ≡ replicate 17 None → net.owners ≡ [] → net.beacons ≡ [] → net.links ≡ [] → net.conns.items ≡ [] → net.queued ≡ 0 → net.pending ≡ 0 → StandsAfter [] net
begins net handed said started running owners beacons links conns queued pending = record {
  nodes = record {
    said = record { few = omega (arith, handed); is = said ∙ ap (λ n. drop n []) (sym handed) };
    started = subst (λ xs. AreStarted [] xs) (sym started) (record { count = refl; each = λ k a e. none k e; none_yet = λ a z. refl });
    runs = λ n. ap (running_at n) running ∙ none_at 17 n;
    live = λ n k e. nobody k (sym (ap (running_at n) running ∙ none_at 17 n) ∙ e);
    gone = λ k z. ap (λ xs. has_node (nth k xs)) started ∙ no_node k;
    owners = λ n id. ap (list_all (fits_owner n id)) owners;
    beacons = beacons;
    links = links;
    known = tt;
    queued = queued ∙ ap (λ xs. sum_by (λ (x : Started). octets_in x.sender.lines) xs) (sym started);
  };
  conns_are = subst (λ xs. AreConns [] xs) (sym conns) (record { count = refl; each = λ x c e. none x e; silent = λ a k x z. refl });
  pending_is = pending ∙ ap (λ xs. sum_by (λ (y : Carrier). length y.waiting) xs) (sym conns);
}
  where
    no_node : (k : ℕ) → has_node (nth k []) ≡ false
    no_node zero = refl
    no_node (suc k) = refl

    nobody : {B : Type 0} (k : ℕ) → None ≡ Some k → B
    nobody k e = absurd cc

    none : {A B : Type 0} {x : A} (k : ℕ) → nth k [] ≡ Some x → B
    none zero e = absurd cc
    none (suc k) e = absurd cc

pub runs_now : (n : ℕ) (start : Option ℕ) (rows now : List (Option ℕ)) → n < length rows → now ≡ slice_set rows n start → with_running n start rows now
runs_now n start rows now z e k = ap (running_at k) e ∙ by (eqb k n) refl
  where
    by : (t : Bool) → eqb k n ≡ t → running_at k (slice_set rows n start) ≡ cond t start (running_at k rows)
    by true q = ap (λ j. running_at j (slice_set rows n start)) (eqb-true k n q) ∙ ap (λ (o : Option (Option ℕ)). option_and_then (λ z. z) o) (got_same rows n start z)
    by false q = ap (λ (o : Option (Option ℕ)). option_and_then (λ z. z) o) (got_other rows n k start (turned (eqb n k) refl))
      where
        turned : (t : Bool) → eqb n k ≡ t → t ≡ false
        turned false r = refl
        turned true r = absurd (true≢false (sym (eq-eqb k n (sym (eqb-true n k r))) ∙ q))

-- a row in which nothing runs, after the others
pub nothing_more : (k : ℕ) (rows : List (Option ℕ)) → running_at k (rows ++ None ∷ []) ≡ running_at k rows
nothing_more zero [] = refl
nothing_more (suc k) [] = refl
nothing_more zero (r ∷ rows) = refl
nothing_more (suc k) (r ∷ rows) = nothing_more k rows

-- who runs where, with a start in a row that there is room for
pub runs_then : (n : ℕ) (start : Option ℕ) (rows mid now : List (Option ℕ)) → ((k : ℕ) → running_at k mid ≡ running_at k rows) → n < length mid → now ≡ slice_set mid n start → with_running n start rows now
runs_then n start rows mid now same z e k = runs_now n start mid now z e k ∙ ap (λ o. cond (eqb k n) start o) (same k)

-- What waits on a connection that isn't numbered yet: nothing.
use Rattle.std.proofs.Common.{◌≡◌, ℕ, zero, suc, ◌+◌, ◌≤◌, ◌<◌, Bool, true, false, cond, eqb, List, [], ◌∷◌, ◌++◌, length, drop, Option, Some, None, refl, ap, ◌∙◌, arith}
use Rattle.std.specs.Option.{option_map_or}
use Rattle.zre_journal.specs.Chronicle.{followed}
use Rattle.zre_net.specs.declared.moves.Move.{Move}
use Rattle.zre_net.specs.declared.moves.Move.TheVariants as move
use Rattle.zre_net.specs.Carried.{spelling, appended, pending}
use Rattle.zre_net.specs.History.{Happening, Happens, running as running_in}
use Rattle.zre_net.specs.Lists.{nth}
use Rattle.zre_net.specs.Numbers.{CarriedConn, routes, conns, conn_of}
use Rattle.zre_net.proofs.JournalsOfIncarnations.{length-last}
use Rattle.zre_net.proofs.ListsCountedFromOne.{nth_past}

drop-none : (n : ℕ) (o : List ℕ) → o ≡ [] → drop n o ≡ []
drop-none zero o e = e
drop-none (suc n) [] e = refl
drop-none (suc n) (z ∷ o) e = absurd cc

pub no_pending : (x : ℕ) (H : List Happening) → length (conns H) < x → pending x H ≡ []
no_pending x [] z = refl
no_pending x (Happens m t ∷ H) z = by m z (λ l. no_pending x H l)
  where
    same : (b : Bool) (o q : List ℕ) → o ≡ [] → q ≡ [] → cond b o q ≡ []
    same true o q e f = e
    same false o q e f = f

    grows : (o : Option CarriedConn) → length (conns H) ≤ length (followed (conns H) o)
    grows None = omega arith
    grows (Some c) = let l = length-last (conns H) c in omega (arith, l)

    by : (m : Move) → length (conns (Happens m t ∷ H)) < x → (length (conns H) < x → pending x H ≡ []) → pending x (Happens m t ∷ H) ≡ []
    by (move.Open g n at) z f = f (let q = grows (conn_of (length (conns H) + 1) (nth g (routes H)) (running_in n H)) in omega (arith, q, z))
    by (move.Carry y p) z f =
        let r = f z in
        same (eqb x y) (pending x H ++ appended x p H) (pending x H) (ap (λ q. q ++ appended x p H) r ∙ ap (λ o. option_map_or (λ (c : CarriedConn). spelling c.along H p) o []) (nth_past x (conns H) z)) r
    by (move.Piece y count at) z f =
        let r = f z in
        same (eqb x y) (drop count (pending x H)) (pending x H) (drop-none count (pending x H) r) r
    by (move.Start n at id name host port) z f = f z
    by (move.Crash n) z f = f z
    by (move.Tick n at) z f = f z
    by (move.Do n at c) z f = f z
    by (move.Beacon k n at) z f = f z
    by (move.Shut y at) z f = f z
    by (move.Linked g at) z f = f z
    by (move.Unlinked g at) z f = f z
    by (move.Reply g at o) z f = f z
    by (move.Took g count at) z f = f z

-- A schedule in which connections carry few messages is within the window.
use Rattle.std.proofs.Common.{◌≡◌, ℕ, zero, suc, ◌≤◌, List, [], ◌∷◌, length, Some, subst, arith}
use Rattle.std.specs.Prelude.{slice_get}
use Rattle.std.specs.List.{AllByRecursion}
use Rattle.zre_peer.specs.Ledger.{IsNear}
use Rattle.zre_net.specs.Agreement.{ledger_of, IsWithinWindow, CarryFew}
use Rattle.zre_net.specs.History.{Happening}
use Rattle.zre_net.proofs.ListsCountedFromOne.{some_one, in_reach}

got_low : (picks : List ℕ) (n pick : ℕ) → AllByRecursion (λ k. k ≤ 65535) picks → slice_get picks n ≡ Some pick → pick ≤ 65535
got_low [] n pick a e = absurd cc
got_low (k ∷ picks) zero pick a e = subst (λ j. j ≤ 65535) (some_one e) a.0
got_low (k ∷ picks) (suc n) pick a e = got_low picks n pick a.1 e

short_near : (picks : List ℕ) (n pick : ℕ) → length picks ≤ 65535 → AllByRecursion (λ k. k ≤ 65535) picks → slice_get picks n ≡ Some pick → IsNear n pick
short_near picks n pick few low e =
    let r = in_reach picks n pick e in
    let l = got_low picks n pick low e in
    record { before = omega (arith, r, few); after = omega (arith, l) }

pub few_are_near : (H : List Happening) → CarryFew H → IsWithinWindow H
few_are_near H f b known c l pick m K arrives run got = short_near ((ledger_of H).picks c) _ pick (f c).0 (f c).1 got

-- A fault on a connection, and connections that aren't live.
use Rattle.std.proofs.Common.{◌≡◌, ℕ, true, false, List, [], ◌∷◌, ◌++◌, Option, Some, None, MatchOption, is_some, refl, append-nil}
use Rattle.zre_mailbox.specs.Talk.{Said, Fault}
use Rattle.zre_zmtp.specs.declared.fault.ZmtpFault.{ZmtpFault}
use Rattle.zre_peer.specs.declared.causes.Cause.TheVariants as cause
use Rattle.zre_peer.specs.declared.causes.CloseWhy.TheVariants as close
use Rattle.zre_values.specs.declared.settings.Settings.{Settings as Config}
use Rattle.zre_journal.specs.Chronicle.{Mark, Closes, in_turn}
use Rattle.zre_journal.specs.Connections.{is_live, runs}
use Rattle.zre_journal.specs.Arrivals.{at_place, end_of_run}

-- where a connection isn't live, nothing that it says has an effect
pub dead_places : (g : Config) (c : ℕ) (K : List Mark) → is_live c K ≡ false → (xs : List Said) → in_turn (at_place g c) xs K ≡ []
dead_places g c K e [] = refl
dead_places g c K e (x ∷ xs) = rw e (dead_places g c K e xs)

pub fault_live : (g : Config) (c : ℕ) (f : ZmtpFault) (K : List Mark) → is_live c K ≡ true → in_turn (at_place g c) (Fault f ∷ []) K ≡ end_of_run g (runs c K) cause.Fault ++ Closes c (close.Zmtp f) ∷ []
fault_live g c f K e = rw e (append-nil (end_of_run g (runs c K) cause.Fault ++ Closes c (close.Zmtp f) ∷ []))

pub stands_not : {A : Type 0} {Q : Type 0} (P : A → Type 0) (o : Option A) → MatchOption o Q P → is_some o ≡ false → Q
stands_not P None m e = m
stands_not P (Some a) m e = absurd cc

pub stands_so : {A : Type 0} {P : A → Type 0} (Q : Type 0) (o : Option A) → MatchOption o Q P → is_some o ≡ true → (a : A) × P a
stands_so Q None m e = absurd cc
stands_so Q (Some a) m e = (a, m)

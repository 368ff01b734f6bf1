-- A piece that is taken where it lies.
use Rattle.std.proofs.Common.{◌≡◌, ◌≢◌, ℕ, Result, Ok, Err, IsErr, Bool, true, false, cond, List, [], ◌∷◌, ◌++◌, map, Option, None, Some, refl, sym, ap, ◌∙◌}
use Rattle.std.specs.Prelude.{option_map, option_to_list}
use Rattle.std.proofs.lemmas.List.{append-nil}
use Rattle.zre_values.specs.declared.memory.OutOfMemory.{OutOfMemory}
use Rattle.zre_zmtp.specs.Looks.{Looks, IsPaidOnRefusal}
use Rattle.zre_zmtp.specs.declared.bodies.Came.{Came}
use Rattle.zre_zmtp.specs.declared.bodies.Came.TheVariants as came
use Rattle.zre_zmtp.specs.declared.bodies.LentBodies.{LentBodies}
use Rattle.zre_msg.specs.declared.message.Message.{Message}
use Rattle.zre_mailbox.specs.declared.arrival.Arrival.{Arrival}
use Rattle.zre_mailbox.specs.declared.arrival.Arrival.TheVariants as arrived
use Rattle.zre_mailbox.specs.Talk.{Arrived}
use Rattle.zre_values.specs.declared.settings.Settings.{Settings as Config}
use Rattle.zre_journal.specs.Chronicle.{Mark}
use Rattle.zre_journal.specs.Connections.{is_live, runs}
use Rattle.zre_journal.specs.Arrivals.{at_arrival, at_message, at_places}
use Rattle.zre_node.specs.Said.{at_item, at_read}

nothing_live : (b : Bool) (none : List Mark) → none ≡ cond b none none
nothing_live true none = refl
nothing_live false none = refl

-- what arrives alone comes about at one place
pub one_arrives : (g : Config) (c : ℕ) (a : Option Arrival) (K : List Mark) → at_places g c (map (λ x. Arrived x) (option_to_list a)) K ≡ cond (is_live c K) (at_item g c a K) []
one_arrives g c None K = nothing_live (is_live c K) []
one_arrives g c (Some a) K = append-nil (cond (is_live c K) (at_arrival g c a K) [])

-- a message on a connection that runs the peer of link l is one after the first
pub comes_later : (g : Config) (c l : ℕ) (o : Option Message) (H : List Mark) → runs c H ≡ Some l → at_read g c l o H ≡ at_item g c (option_map (λ m. arrived.Message m) o) H
comes_later g c l None H on = refl
comes_later g c l (Some m) H on = ap (λ r. at_message g c r m H) (sym on)

-- ---- which piece was taken

pub message_taken : (c : Came) (l : LentBodies) → c ≡ came.Message l → let r : Result Came OutOfMemory = Ok c in r ≢ Ok came.Other
message_taken c l is z = let q : (let r : Result Came OutOfMemory = Ok (came.Message l) in r) ≡ Ok came.Other = ap (λ x. Ok x) (sym is) ∙ z in cc

pub part_taken : (c : Came) → c ≡ came.Part → let r : Result Came OutOfMemory = Ok c in r ≢ Ok came.Other
part_taken c is z = let q : (let r : Result Came OutOfMemory = Ok came.Part in r) ≡ Ok came.Other = ap (λ x. Ok x) (sym is) ∙ z in cc

-- looks where nothing was taken for want of memory
pub err_lent : (r : Result Came OutOfMemory) (looks looks' a b n : ℕ) → IsErr r → IsPaidOnRefusal looks looks' a n → Looks looks looks' a b n r
err_lent (Ok x) looks looks' a b n e p = absurd cc
err_lent (Err x) looks looks' a b n e p = (tt, p)

-- What comes back of a client.
use Rattle.std.proofs.Common.{◌≡◌, ℕ, ◌≤◌, List, [], ◌++◌, map, length, Option, refl, sym, ap, ◌∙◌, subst, arith}
use mathlib.Core.Logic.{inl}
use Rattle.std.proofs.Props.{props}
use Rattle.std.proofs.KnownBytes.{Appends-nil, Consumes-nil}
use Rattle.zre_outside.specs.Causes.{Rose}
use Rattle.zre_actor.specs.declared.passes.Pipes.{Pipes}
use Rattle.zre_actor.specs.declared.passes.CallerPass.{CallerPass}
use Rattle.zre_actor.specs.declared.views.Placed.{Placed}
use Rattle.zre_actor.specs.Commands.{placed}
use Rattle.zre_actor.specs.Passes.{IsCallerOf, number, ended}
use Rattle.zre_console.specs.lines.Orders.{typed}
use Rattle.zre_console.specs.declared.reader.ending.InputEnd.{InputEnd}
use Rattle.zre_console.specs.declared.reader.ending.InputEnd.TheVariants as end
use Rattle.zre_console.specs.reader.Reading.{LinesOutcome, HasReadLines, EndsByRefusal}
use Rattle.zre_console.proofs.lines.OrdersUpToQuit.{typed-begin}
use Rattle.zre_console.proofs.reader.PutCommands.{puts-none}
use Rattle.zre_gate.specs.Clients.{SeenClient}
use Rattle.zre_gate.specs.ClientLists.{ClientList, IsNewClient, IsAnswer}

-- what was read of a client of a client_list is its answer
pub answered : (client_list : Option ClientList) (pipes : Pipes) (limit place : ℕ) (pass pass' : CallerPass) (before after : SeenClient) (e : InputEnd)
    → IsNewClient client_list pipes limit place pass before → IsCallerOf pipes pass'
    → HasReadLines e limit pass pass' before.left after.left before.taken after.taken (Rose before.faults after.faults)
    → before.faults ≤ after.faults → EndsByRefusal e before.refused after.refused → IsAnswer client_list place after pass' e
answered client_list pipes limit place pass pass' before after e k of_pipes h later refused = record {
  there = k.there;
  is_client_list = k.is_client_list;
  served = record { number = number pass; before = before; after = after; octets = h.octets; commands = h.commands; end = e };
  is_new_client = k.is_new_client;
  is_after = refl;
  is_end = refl;
  is_served = record {
    moved = h.moved;
    within = subst (λ (l : ℕ). length h.octets ≤ l) k.same_limit h.within;
    later = later;
    outcome = subst (λ (l : ℕ). LinesOutcome e l h.commands h.octets after.left (Rose before.faults after.faults)) k.same_limit h.outcome;
    refused = refused;
  };
  of_pipes = subst (λ (p : Pipes). IsCallerOf p pass') k.same_pipes of_pipes;
  is_number = h.puts.same_number;
  none_ended = h.puts.same_ended ∙ k.is_new.0;
  is_put = h.puts.put ∙ ap (λ (l : List Placed). l ++ map (placed (number pass) (ended pass)) h.commands) k.is_new.1
      ∙ ap (λ (ns : List ℕ). map (placed (number pass) ns) h.commands) k.is_new.0;
}

-- of one that wasn't started nothing was read
pub left_alone : (client_list : Option ClientList) (pipes : Pipes) (limit place : ℕ) (pass : CallerPass) (before : SeenClient)
    → IsNewClient client_list pipes limit place pass before → IsAnswer client_list place before pass end.Over
left_alone client_list pipes limit place pass before k =
    answered client_list pipes limit place pass pass before before end.Over k (subst (λ (p : Pipes). IsCallerOf p pass) (sym k.same_pipes) k.of_pipes) (record {
      octets = [];
      moved = record { consumed = Consumes-nil before.left; recorded = Appends-nil before.taken };
      within = omega arith;
      commands = [];
      puts = puts-none pass;
      outcome = (typed-begin [] [] [] refl refl, (typed [], refl), inl refl);
    }) (omega arith) refl

-- that a pass is a caller's of these pipes has one proof
pub caller_prop : (pipes : Pipes) (p : CallerPass) → IsProp (IsCallerOf pipes p)
caller_prop pipes p = hlevel props

pub nat_prop : (a b : ℕ) → IsProp (a ≡ b)
nat_prop a b = hlevel props

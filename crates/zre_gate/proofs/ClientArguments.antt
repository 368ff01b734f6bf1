-- Each client's thread is given arguments of its own.
use Rattle.std.proofs.Common.{◌≡◌, ℕ, ◌+◌, List, [], ◌∷◌, ◌++◌, map, length, Option, Some, refl, sym, ap, ◌∙◌, subst}
use Rattle.std.specs.Prelude.{All}
use Rattle.std.specs.Arc.{arc_value}
use Rattle.std.proofs.lemmas.List.{map-append, length-map}
use Rattle.std.proofs.lemmas.List.Elements.{All-head, All-tail}
use Rattle.zre_actor.specs.declared.passes.Pipes.{Pipes}
use Rattle.zre_console.specs.declared.places.CallerArgs.{CallerArgs}
use Rattle.zre_console.specs.Tables.{AreCallerArgs}
use Rattle.zre_gate.specs.Clients.{SeenClient}
use Rattle.zre_gate.specs.ClientLists.{ClientList, client_list_of, new_client_at, new_clients_of, IsNewClient}
use Rattle.zre_gate.specs.Tables.{caller_number}
use Rattle.zre_gate.proofs.ClientPlaces.{new_client_there}

-- one amid others
amid : {X : Type 0} (P : X → Type 0) (front rest : List X) (x : X) → All P (front ++ x ∷ rest) → P x
amid P [] rest x a = All-head P x rest a
amid P (y ∷ front) rest x a = amid P front rest x (All-tail P y (front ++ x ∷ rest) a)

-- one of them amid the others
pub args_among : (pipes : Pipes) (all_args front rest : List CallerArgs) (caller : CallerArgs) → All (AreCallerArgs pipes) all_args → all_args ≡ front ++ caller ∷ rest → AreCallerArgs pipes caller
args_among pipes all_args front rest caller are of_args = amid (AreCallerArgs pipes) front rest caller (subst (All (AreCallerArgs pipes)) of_args are)

-- the client at a place is a new_client of the client_list
pub started_client : {C : Type 0} (look : C → SeenClient) (client_list : Option ClientList) (pipes : Pipes) (limit : ℕ) (all_args front rest : List CallerArgs) (caller : CallerArgs) (clients before after : List C) (x : C) (place : ℕ)
    → All (AreCallerArgs pipes) all_args → client_list ≡ Some (client_list_of pipes limit (map caller_number all_args) (map look clients))
    → all_args ≡ front ++ caller ∷ rest → clients ≡ before ++ x ∷ after → length front ≡ place → length before ≡ place
    → IsNewClient client_list (arc_value caller.pipes) limit place caller.pass (look x)
started_client look client_list pipes limit all_args front rest caller clients before after x place are known of_args of_clients long also =
    let c = args_among pipes all_args front rest caller are of_args in
    let numbers : map caller_number all_args ≡ map caller_number front ++ caller_number caller ∷ map caller_number rest = ap (map caller_number) of_args ∙ map-append caller_number front (caller ∷ rest) in
    let rows : map look clients ≡ map look before ++ look x ∷ map look after = ap (map look) of_clients ∙ map-append look before (x ∷ after) in
    let at : length (map caller_number front) ≡ place = length-map front caller_number ∙ long in
    let same : length (map caller_number front) ≡ length (map look before) = at ∙ sym also ∙ sym (length-map before look) in record {
      there = client_list_of pipes limit (map caller_number all_args) (map look clients);
      is_client_list = known;
      same_pipes = c.0;
      same_limit = refl;
      is_new_client = (λ i. new_client_at (new_clients_of (numbers i) (rows i)) (sym at i))
          ∙ new_client_there (map caller_number front) (map caller_number rest) (map look before) (map look after) (caller_number caller) (look x) same;
      of_pipes = c.1;
      is_new = c.2;
    }

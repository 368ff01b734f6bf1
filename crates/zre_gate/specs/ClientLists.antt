-- The clients of a gate, as they come to be waited for.
use Rattle.std.specs.Prelude.{◌≡◌, ℕ, zero, suc, List, [], ◌∷◌, Option, Some, None}
use Rattle.zre_actor.specs.declared.passes.Pipes.{Pipes}
use Rattle.zre_actor.specs.declared.passes.CallerPass.{CallerPass}
use Rattle.zre_actor.specs.Passes.{IsCallerOf, IsNew, number, ended, put_by}
use Rattle.zre_console.specs.declared.reader.ending.InputEnd.{InputEnd}
use Rattle.zre_gate.specs.Clients.{SeenClient, Served, IsServed, put_for}

-- a client before anything was read of it: under which number its commands are put, and what it tells
pub record NewClient : Type 0 where
  pub number : ℕ
  pub before : SeenClient

abbrev pub new_client : ℕ → SeenClient → NewClient
new_client number before = record { number = number; before = before }

abbrev pub number_of : NewClient → ℕ
number_of x = x.number

abbrev pub before_of : NewClient → SeenClient
before_of x = x.before

-- all clients, the pipes into which their commands are put, and the most octets that are read of each
pub record ClientList : Type 0 where
  pub pipes : Pipes
  pub limit : ℕ
  pub new_clients : List NewClient

-- the one at a place, counted from 0
abbrev pub new_client_at : List NewClient → ℕ → Option NewClient
new_client_at [] place = None
new_client_at (x ∷ xs) zero = Some x
new_client_at (x ∷ xs) (suc place) = new_client_at xs place

-- these numbers, each for the client beside it
abbrev pub new_clients_of : List ℕ → List SeenClient → List NewClient
new_clients_of [] rows = []
new_clients_of (n ∷ ns) [] = []
new_clients_of (n ∷ ns) (r ∷ rs) = new_client n r ∷ new_clients_of ns rs

abbrev pub client_list_of : Pipes → ℕ → List ℕ → List SeenClient → ClientList
client_list_of pipes limit numbers rows =
    record { pipes = pipes; limit = limit; new_clients = new_clients_of numbers rows }

-- as it came
abbrev pub new_client_of : Served → NewClient
new_client_of x = new_client x.number x.before

-- a client at a place of a client_list, with a pass under which nothing was put
pub record IsNewClient (client_list : Option ClientList) (pipes : Pipes) (limit place : ℕ) (pass : CallerPass)
    (before : SeenClient) : Type 0 where
  pub there : ClientList
  pub is_client_list : client_list ≡ Some there
  pub same_pipes : pipes ≡ there.pipes
  pub same_limit : limit ≡ there.limit
  pub is_new_client : new_client_at there.new_clients place ≡ Some (new_client (number pass) before)
  pub of_pipes : IsCallerOf there.pipes pass
  pub is_new : IsNew pass

-- the client at a place of a client_list was read, and this pass has what was put for it
pub record IsAnswer (client_list : Option ClientList) (place : ℕ) (after : SeenClient) (pass : CallerPass)
    (end : InputEnd) : Type 0 where
  pub there : ClientList
  pub is_client_list : client_list ≡ Some there
  pub served : Served
  pub is_new_client : new_client_at there.new_clients place ≡ Some (new_client_of served)
  pub is_after : served.after ≡ after
  pub is_end : served.end ≡ end
  pub is_served : IsServed there.limit served
  pub of_pipes : IsCallerOf there.pipes pass
  pub is_number : number pass ≡ served.number
  pub none_ended : ended pass ≡ []
  pub is_put : put_by pass ≡ put_for served

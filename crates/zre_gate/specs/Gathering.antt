-- What comes of waiting for all clients.
use Rattle.std.specs.Prelude.{◌≡◌, ◌⊎◌, ℕ, Bool, true, false, List, [], ◌++◌, map, length, All, Contains, Option}
use Rattle.std.specs.Prelude.{Some}
use Rattle.zre_outside.specs.declared.entry.Command.{Command}
use Rattle.zre_actor.specs.declared.passes.Pipes.{Pipes}
use Rattle.zre_actor.specs.declared.passes.CallerPass.{CallerPass}
use Rattle.zre_actor.specs.Passes.{number, ended, put_by}
use Rattle.zre_console.specs.declared.reader.ending.InputEnd.TheVariants as end
use Rattle.zre_console.specs.reader.Putting.{Puts, IsClose}
use Rattle.zre_commands.specs.declared.pump.status.Status.{Status}
use Rattle.zre_commands.specs.declared.pump.status.Status.TheVariants.{Done, TooLong, OutOfMemory}
use Rattle.zre_gate.specs.Clients.{SeenClient, Served, IsServed, put_for_all, after_of, is_over, of_client}
use Rattle.zre_gate.specs.ClientLists.{ClientList, NewClient, number_of, new_client_of}

-- it ended otherwise than because the gate was over
abbrev pub IsOwnEnd : Served → Type 0
IsOwnEnd x = is_over x.end ≡ false

abbrev pub IsWell : Served → Type 0
IsWell x = of_client x.end ≡ Done

-- what all ends come to: where all went well, each did; else memory ran out for one, or one was too long
pub record Ends (served : List Served) (status : Status) : Type 0 where
  pub well : status ≡ Done → All IsWell served
  pub cause : (status ≡ Done) ⊎ ((status ≡ OutOfMemory)
      ⊎ ((status ≡ TooLong) × (x : Served) × Contains served x × (x.end ≡ end.TooLong)))

-- these clients were waited for, and a pass absorbed theirs
pub record Gathers (limit : ℕ) (new_clients : List NewClient) (afters : List SeenClient) (old new : CallerPass)
    (status : Status) (over : Bool) : Type 0 where
  pub served : List Served
  pub are_new_clients : map new_client_of served ≡ new_clients
  pub are_after : map after_of served ≡ afters
  pub each : All (IsServed limit) served
  pub same_number : number new ≡ number old
  pub absorbed : ended new ≡ ended old ++ map number_of new_clients
  pub put : put_by new ≡ put_by old ++ put_for_all served
  pub ends : Ends served status
  pub own_ends : over ≡ false → All IsOwnEnd served

-- and then a quit was put or nothing, and nothing where one ended because the gate was over
pub record Closes (limit : ℕ) (new_clients : List NewClient) (afters : List SeenClient) (old new : CallerPass)
    (status : Status) : Type 0 where
  pub mid : CallerPass
  pub over : Bool
  pub gathers : Gathers limit new_clients afters old mid status over
  pub tail : List Command
  pub closes : IsClose tail
  pub puts : Puts mid new tail
  pub calm : over ≡ true → tail ≡ []

-- a client_list is known, with these pipes
abbrev pub IsClientList : Option ClientList → Pipes → Type 0
IsClientList client_list pipes = (there : ClientList) × (client_list ≡ Some there) × (there.pipes ≡ pipes)

-- and it has so many clients
abbrev pub IsFull : Option ClientList → ℕ → Type 0
IsFull client_list many = (there : ClientList) → client_list ≡ Some there → length there.new_clients ≡ many

-- all clients of the client_list that is known
abbrev pub GathersAll : Option ClientList → List SeenClient → (old new : CallerPass) → Status → Bool → Type 0
GathersAll client_list afters old new status over =
    (there : ClientList) → client_list ≡ Some there
    → ∥ Gathers there.limit there.new_clients afters old new status over ∥₁

abbrev pub ClosesAll : Option ClientList → List SeenClient → (old new : CallerPass) → Status → Type 0
ClosesAll client_list afters old new status =
    (there : ClientList) → client_list ≡ Some there → ∥ Closes there.limit there.new_clients afters old new status ∥₁

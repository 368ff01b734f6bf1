-- A piece of a connection that is taken where it lies.
use Rattle.std.proofs.Common.{◌≡◌, ◌≢◌, ℕ, List, [], ◌++◌, length, map, Some, None, Result, Ok, Err, IfOk, refl, sym, ap, subst, ◌∙◌}
use Rattle.std.proofs.lemmas.List.{append-nil}
use Rattle.zre_values.specs.declared.peer_id.PeerId.{PeerId}
use Rattle.zre_values.specs.declared.memory.OutOfMemory.{OutOfMemory}
use Rattle.zre_zmtp.specs.Looks.{Looks, IsPaid, IsPaidOnRefusal}
use Rattle.zre_zmtp.specs.declared.bodies.Came.{Came}
use Rattle.zre_zmtp.specs.declared.bodies.Came.TheVariants as came
use Rattle.zre_mailbox.specs.declared.arrival.Arrival.{Arrival}
use Rattle.zre_mailbox.specs.Conn.{ConnHearing, conn_after, Hears, HearsLent, lent_arrivals, held_of}
use Rattle.zre_mailbox.specs.Talk.{Arrived, completed, fault_in, fault_said, new_arrivals}
use Rattle.zre_tables.specs.Lending.{ConnTakes, RowTakes}
use Rattle.zre_tables.specs.Rows.{with_row}
use Rattle.zre_tables.specs.declared.connection.Connection.{Connection}

-- all that a piece without a fault completes
said_all : (own : PeerId) (o piece : List ℕ) (now : ConnHearing) (all : List Arrival) → (fault_in own (o ++ piece) ≡ None) × Hears own o piece now [] all
    → (now ≡ conn_after own (o ++ piece)) × (map (λ a. Arrived a) all ≡ completed own o piece)
said_all own o piece now all h = (
  h.1.now_is,
  ap (λ (l : List Arrival). map (λ a. Arrived a) l) h.1.appended ∙ sym (append-nil (map (λ a. Arrived a) (new_arrivals own o piece)))
      ∙ ap (λ f. map (λ a. Arrived a) (new_arrivals own o piece) ++ fault_said f) (sym h.0) ∙ sym h.1.completes,
)

pub conn_takes : (c : Came) (own : PeerId) (o piece : List ℕ) (was now : ConnHearing) → HearsLent c own o piece was now → ConnTakes c own o piece was now
conn_takes (came.Message l) own o piece was now h = said_all own o piece now (lent_arrivals (came.Message l)) h
conn_takes came.Part own o piece was now h = said_all own o piece now [] h
conn_takes came.Other own o piece was now h = h

-- by the rows, where the row of the connection is put back
pub row_takes : (c : Came) (n : ℕ) (x : Connection) (own : PeerId) (o piece : List ℕ) (h h' : ConnHearing) (was now : List (ℕ × Connection)) → (h' ≡ conn_after own (o ++ piece) → now ≡ with_row n (record x { conn = Some (conn_after own (o ++ piece)) }) was)
    → (h' ≡ h → now ≡ was) → ConnTakes c own o piece h h' → RowTakes c n x own o piece was now
row_takes (came.Message l) n x own o piece h h' was now put same t = (put t.0, t.1)
row_takes came.Part n x own o piece h h' was now put same t = (put t.0, t.1)
row_takes came.Other n x own o piece h h' was now put same t = same t

-- looks of a piece that was taken, by what is kept after it
pub taken_looks : (r : Result Came OutOfMemory) (own : PeerId) (o piece : List ℕ) (h h' : ConnHearing) (looks looks' : ℕ) → h ≡ conn_after own o → IfOk r (λ c. ConnTakes c own o piece h h') → r ≢ Ok came.Other
    → Looks looks looks' (held_of h) (held_of h') (length piece) r → Looks looks looks' (held_of (conn_after own o)) (held_of (conn_after own (o ++ piece))) (length piece) r
taken_looks (Ok (came.Message l)) own o piece h h' looks looks' e t taken p = (subst (λ (x : ConnHearing). IsPaid looks looks' (held_of x) (held_of (conn_after own (o ++ piece))) (length piece)) e (subst (λ (x : ConnHearing). IsPaid looks looks' (held_of h) (held_of x) (length piece)) t.0 p.0), p.1)
taken_looks (Ok came.Part) own o piece h h' looks looks' e t taken p = (subst (λ (x : ConnHearing). IsPaid looks looks' (held_of x) (held_of (conn_after own (o ++ piece))) (length piece)) e (subst (λ (x : ConnHearing). IsPaid looks looks' (held_of h) (held_of x) (length piece)) t.0 p.0), p.1)
taken_looks (Ok came.Other) own o piece h h' looks looks' e t taken p = absurd (taken refl)
taken_looks (Err x) own o piece h h' looks looks' e t taken p = (p.0, subst (λ (y : ConnHearing). IsPaidOnRefusal looks looks' (held_of y) (length piece)) e p.1)

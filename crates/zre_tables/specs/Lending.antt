-- What a piece of a connection that is taken where it lies does to the rows.
use Rattle.std.specs.Prelude.{◌≡◌, ℕ, List, [], ◌++◌, Some, map}
use Rattle.zre_values.specs.declared.peer_id.PeerId.{PeerId}
use Rattle.zre_zmtp.specs.declared.bodies.Came.{Came}
use Rattle.zre_zmtp.specs.declared.bodies.Came.TheVariants as came
use Rattle.zre_mailbox.specs.Conn.{ConnHearing, conn_after, lent_arrivals}
use Rattle.zre_mailbox.specs.Talk.{Said, Arrived, completed}
use Rattle.zre_tables.specs.Rows.{with_row}
use Rattle.zre_tables.specs.declared.connection.Connection.{Connection}

-- what it completes of what its connection says
abbrev pub said_lent : Came → List Said
said_lent c = map (λ a. Arrived a) (lent_arrivals c)

-- After the octets o the connection read it; or nothing changed.
abbrev pub ConnTakes : Came → PeerId → List ℕ → List ℕ → ConnHearing → ConnHearing → Type 0
ConnTakes (came.Message l) own o piece was now =
    (now ≡ conn_after own (o ++ piece)) × (said_lent (came.Message l) ≡ completed own o piece)
ConnTakes came.Part own o piece was now =
    (now ≡ conn_after own (o ++ piece)) × (said_lent came.Part ≡ completed own o piece)
ConnTakes came.Other own o piece was now = now ≡ was

-- After the octets o the connection of number n, whose row is x, read it; or nothing changed.
abbrev pub RowTakes : Came → ℕ → Connection → PeerId → List ℕ → List ℕ → List (ℕ × Connection)
    → List (ℕ × Connection) → Type 0
RowTakes (came.Message l) n x own o piece was now =
    (now ≡ with_row n (record x { conn = Some (conn_after own (o ++ piece)) }) was)
    × (said_lent (came.Message l) ≡ completed own o piece)
RowTakes came.Part n x own o piece was now =
    (now ≡ with_row n (record x { conn = Some (conn_after own (o ++ piece)) }) was)
    × (said_lent came.Part ≡ completed own o piece)
RowTakes came.Other n x own o piece was now = now ≡ was

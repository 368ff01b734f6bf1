-- What becomes of a connection that comes: it is given as opened at once, waits, or is closed.
use Rattle.std.specs.Prelude.{ℕ, ◌&&◌, ◌++◌, ◌∷◌, [], not, nat_lt, length, List, Option, Some, None, if◌then◌else◌}
use Rattle.zre_fabric.specs.declared.arrivals.Arrival.{Arrival}
use Rattle.zre_fabric.specs.declared.shares.Share.{Share}
use Rattle.zre_fabric.specs.Shares.{may_enter, may_open}

-- given, where its address has room and a share left, and isn't held
abbrev pub given_at : Share → Arrival → ℕ → Option Arrival
given_at s came at = if may_enter s && may_open s came.at at then Some came else None

-- those that wait, after it came: 128 at most
abbrev pub waiting_after : Share → Arrival → ℕ → List Arrival → List Arrival
waiting_after s came at waiting =
    if may_enter s && (not (may_open s came.at at) && nat_lt (length waiting) 128)
    then waiting ++ came ∷ [] else waiting

-- What is kept beside the rows of known peers agrees with them.
use Rattle.std.specs.Prelude.{◌≡◌, ℕ, ◌-◌, ◌^◌, ◌≤◌, Bool, false, List, Some, IfSome, is_some}
use Rattle.std.specs.List.Sorted.{IsStrictlySortedBy}
use Rattle.std.specs.Map.{keys_of}
use Rattle.std.specs.Ordering.{nat_cmp}
use Rattle.zre_timers.specs.Moments.{Moments, NoneAfter, moment_of}
use Rattle.zre_tables.specs.declared.peer.Peer.{Peer}
use Rattle.zre_tables.specs.Rows.{row_at}

-- each known peer has a moment, and no other link has one. Unless a reading went back, the peer has shown at or after
-- its moment that it is there
pub record AreHeard (rows : List (ℕ × Peer)) (heard : Moments) (rewound : Bool) : Type 0 where
  pub timed : (link : ℕ) → is_some (moment_of heard link) ≡ is_some (row_at link rows)
  pub moments : rewound ≡ false → (link : ℕ) (x : Peer) → row_at link rows ≡ Some x
      → IfSome (moment_of heard link) (λ m. m ≤ x.active)
  pub past : NoneAfter (2 ^ 64 - 1) heard

-- so they do, and the links rise
pub record Agree (rows : List (ℕ × Peer)) (heard : Moments) (rewound : Bool) : Type 0 where
  pub rising : IsStrictlySortedBy nat_cmp (keys_of rows)
  pub times : AreHeard rows heard rewound

-- What addresses have and had, and what is counted of them.
use Rattle.std.specs.Prelude.{ℕ, Bool, ◌≡◌, ◌+◌, ◌-◌, List, min, slice_index_or, slice_set, if◌then◌else◌, not}
use Rattle.std.specs.Prelude.{◌&&◌, nat_lt, nat_le}
use Rattle.zre_values.specs.declared.endpoint.Endpoint.{Endpoint}
use Rattle.zre_fabric.specs.declared.redial.Redial.{Redial}
use Rattle.zre_fabric.specs.declared.shares.Share.{Share}
use Rattle.zre_fabric.specs.declared.shares.Shares.{Shares}
use Rattle.zre_fabric.specs.Places.{place_of, place_at}
use Rattle.zre_fabric.specs.Retries.{latest, delay_of, closings_after, is_again}

-- an address that has and had nothing
abbrev pub nothing : Share
nothing = record {
  connections = 0;
  opened = record { spent = 0 };
  beacons = record { spent = 0 };
  redial = record { closed = 0; due = 0; closings = 0 };
  hold = record { until = 0 };
}

abbrev pub share_in : List Share → ℕ → Share
share_in shares place = slice_index_or shares place nothing

-- the share at a place
abbrev pub share_at : Shares → ℕ → Share
share_at s place = share_in s.shares.items place

-- the share at a place has changed so, and no other
abbrev pub IsChangedBy : (Share → Share) → ℕ → Shares → Shares → Type 0
IsChangedBy change place old new = new.shares.items ≡ slice_set old.shares.items place (change (share_at old place))

-- an address may have one more connection: at most 128
abbrev pub may_enter : Share → Bool
may_enter s = nat_lt s.connections 128

-- a connection that came at one reading may be given as opened at another: its address isn't held, and has a share left
-- of 64 at once and then 20 a second
abbrev pub may_open : Share → ℕ → ℕ → Bool
may_open s came at =
    not (nat_lt at s.hold.until && nat_lt (at - came) 3000) && nat_le (s.opened.spent - at) 3150

-- a connection came, and has a place or not
abbrev pub with_one_more : Bool → Share → Share
with_one_more has s = if has then record s { connections = s.connections + 1 } else s

-- one is gone
abbrev pub with_one_fewer : Share → Share
with_one_fewer s = record s { connections = s.connections - 1 }

-- what is spent where something happened, at the steady rate
abbrev pub spent_after : ℕ → ℕ → ℕ → ℕ
spent_after spent apart at = latest (at + (spent - at) + apart)

-- a connection was given as opened or not: 20 a second
abbrev pub with_opened : ℕ → Bool → Share → Share
with_opened at does s = if does then record s { opened = record { spent = spent_after s.opened.spent 50 at } } else s

-- a beacon was given or not: 31 a second
abbrev pub with_beacon : ℕ → Bool → Share → Share
with_beacon at does s = if does then record s { beacons = record { spent = spent_after s.beacons.spent 32 at } } else s

-- a link was closed
abbrev pub redial_after : Redial → ℕ → ℕ → Redial
redial_after r at chance =
    let n = closings_after r.due r.closed r.closings at in
    record { closed = at; due = latest (at + delay_of n chance); closings = n }

abbrev pub with_closing : ℕ → ℕ → Share → Share
with_closing at chance s = record s { redial = redial_after s.redial at chance }

-- connections wait, up to 3 seconds from now on
abbrev pub with_hold : ℕ → Share → Share
with_hold at s = record s { hold = record { until = latest (at + 3000) } }

-- the shares after a link to this endpoint was closed
abbrev pub shares_after_closing : Endpoint → ℕ → ℕ → List Share → List Share
shares_after_closing to at chance shares =
    let closed = slice_set shares (place_at to) (with_closing at chance (share_in shares (place_at to))) in
    if is_again (redial_after (share_in shares (place_at to)).redial at chance).closings
    then slice_set closed (place_of to.addr) (with_hold at (share_in closed (place_of to.addr))) else closed

-- a link came to stand
abbrev pub with_link : ℕ → Share → Share
with_link at s = record s { hold = record { until = min s.hold.until (latest (at + 200)) } }

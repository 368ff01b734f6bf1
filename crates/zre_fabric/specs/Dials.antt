-- How far a link has come, and what is due for it.
use Rattle.std.specs.Prelude.{ℕ, Bool, ◌+◌, ◌-◌, true, false, nat_lt, nat_le, if◌then◌else◌}
use Rattle.zre_fabric.specs.declared.link.Stage.{Stage}
use Rattle.zre_fabric.specs.declared.link.Stage.TheVariants as stage
use Rattle.zre_fabric.specs.declared.link.Due.{Due}
use Rattle.zre_fabric.specs.declared.link.Due.TheVariants as due
use Rattle.zre_fabric.specs.declared.link.Offered.{Offered}
use Rattle.zre_fabric.specs.declared.link.Offered.TheVariants as offered
use Rattle.zre_fabric.specs.declared.link.TcpLink.{TcpLink}
use Rattle.zre_fabric.specs.Retries.{latest, delay_of}

abbrev pub is_standing : Stage → Bool
is_standing stage.Stands = true
is_standing _ = false

-- 30 seconds have passed since the link was asked for
abbrev pub is_over : TcpLink → ℕ → Bool
is_over l at = nat_le 30000 (at - l.retry.begun)

-- a link that waits is dialed from its reading on, and a try is cut off at its limit, both up to 30 seconds
abbrev pub due_at : Stage → Bool → ℕ → ℕ → Due
due_at stage.Stands over at limit = due.Nothing
due_at stage.Failed over at limit = due.Nothing
due_at (stage.Waits from) over at limit = if over then due.GiveUp else if nat_lt at from then due.Waits else due.Dial
due_at (stage.Dials since) over at limit =
    if over then due.GiveUp else if nat_lt (at - since) limit then due.Dials else due.Cut

-- after a try that failed: another one after a while, unless the link is tried once
abbrev pub stage_after_failure : TcpLink → ℕ → ℕ → Stage
stage_after_failure l at chance =
    if l.is_once then stage.Failed else stage.Waits (latest (at + delay_of l.retry.tries chance))

-- the poll told that it can be written to, or only read
abbrev pub heard : Offered → Bool → Offered
heard offered.Waits true = offered.Took 0
heard o _ = o

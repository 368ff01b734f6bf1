-- How many looks a call takes that reads a piece of a stream.
use Rattle.std.specs.Prelude.{◌≡◌, ℕ, ◌+◌, ◌*◌, ◌<◌, ◌≤◌, Result, OnOk, OnErr}

-- The looks before and after, how many octets are kept before and after, and how many were read: looks and three times
-- what is kept rise by at most four for each.
abbrev pub IsPaid : ℕ → ℕ → ℕ → ℕ → ℕ → Type 0
IsPaid looks looks' kept kept' n = looks' + 3 * kept' ≤ looks + 3 * kept + 4 * n

-- The bound on looks where the octets were refused: nothing is said of what is kept then.
abbrev pub IsPaidOnRefusal : ℕ → ℕ → ℕ → ℕ → Type 0
IsPaidOnRefusal looks looks' kept n = looks' ≤ looks + 3 * kept + 4 * n

-- The bound on looks by what the call answered: `IsPaid` where it took the octets, `IsPaidOnRefusal` where not.
abbrev pub Looks : {A E : Type 0} → ℕ → ℕ → ℕ → ℕ → ℕ → Result A E → Type 0
Looks looks looks' kept kept' n result =
    OnOk result (IsPaid looks looks' kept kept' n) × OnErr result (IsPaidOnRefusal looks looks' kept n)

-- Each of n octets was looked at once at most, and that is paid.
pub record LooksOnce {A E : Type 0} (looks looks' kept kept' n : ℕ) (result : Result A E) : Type 0 where
  pub once : looks' ≤ looks + n
  pub paid : Looks looks looks' kept kept' n result

-- A ledger of this name and these parts, which is yet to be opened, as its blank says it: a count of looks begins with
-- it.
abbrev pub IsOpenTo : ℕ → ℕ → ℕ → ℕ → Type 0
IsOpenTo name parts blank_name blank_parts = (blank_name ≡ name) × (blank_parts ≡ parts) × (0 < blank_parts)

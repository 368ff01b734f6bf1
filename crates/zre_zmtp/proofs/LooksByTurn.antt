-- How many octets are kept turn by turn, and how many looks that costs.
use Rattle.std.proofs.Common.{◌≡◌, ℕ, ◌+◌, ◌*◌, ◌≤◌, Bool, true, false, cond, not, List, [], ◌∷◌, ◌++◌, length, ap, arith}
use Rattle.std.specs.Prelude.{sum_by, Result, Ok, Err, OnOk}
use Rattle.std.proofs.lemmas.List.Sums.{sum_by-append}
use Rattle.zre_zmtp.specs.declared.header.Header.{Header}
use Rattle.zre_zmtp.specs.declared.expected.Expected.{Expected}
use Rattle.zre_zmtp.specs.declared.expected.Expected.TheVariants as expect
use Rattle.zre_zmtp.specs.declared.fault.FeedFault.{FeedFault}
use Rattle.zre_zmtp.specs.Frame.{is_message, has_more}
use Rattle.zre_zmtp.specs.Stream.{Want, Kind, Before, cut, opened_by}
use Rattle.zre_zmtp.specs.Shown.{frame_after}
use Rattle.zre_zmtp.specs.Reading.{Reading, Reads, kept}
use Rattle.zre_zmtp.specs.Looks.{Looks}

-- what stands in a loop over n octets when the rest is to be read: all looks are paid with the octets that were
abbrev pub IsPaidSoFar : ℕ → ℕ → ℕ → ℕ → ℕ → ℕ → Type 0
IsPaidSoFar looks looks' kept kept' n rest = looks' + 3 * kept' + 4 * rest ≤ looks + 3 * kept + 4 * n

opened_in : (m t : Bool) (bodies : List (List ℕ)) (o : List ℕ) → sum_by length (cond (not m) bodies (cond t (bodies ++ o ∷ []) [])) ≤ sum_by length bodies + length o
opened_in false t bodies o = omega arith
opened_in true false bodies o = omega arith
opened_in true true bodies o = omega (arith, sum_by-append length bodies (o ∷ []))

opened_most : (e : Expected) (bodies : List (List ℕ)) (f : ℕ) (o : List ℕ) → sum_by length (opened_by e bodies f o) ≤ sum_by length bodies + length o
opened_most expect.Greeting bodies f o = omega arith
opened_most expect.Ready bodies f o = omega arith
opened_most expect.Traffic bodies f o = opened_in (is_message f) (has_more f) bodies o

-- after a frame no more is kept than before it, and its body
pub frame_kept : (b : Before) (h : Header) (o : List ℕ) (len : ℕ) (now : Before) (left : List ℕ) → now ≡ frame_after b h o len → left ≡ [] → sum_by length now.opened + length left ≤ sum_by length b.opened + length o
frame_kept b h o len now left is none =
    let opened : sum_by length now.opened ≡ sum_by length (opened_by b.expected b.opened h.flags o) = ap (λ (x : Before). sum_by length x.opened) is in
    omega (arith, opened, ap length none, opened_most b.expected b.opened h.flags o)

pub at_most : (r : Result (Unit {0}) FeedFault) (kept s t : ℕ) → s ≤ t → OnOk r (kept ≤ s) → OnOk r (kept ≤ t)
at_most (Ok x) kept s t le h = omega (arith, le, h)
at_most (Err e) kept s t le h = tt

-- a call that keeps at most s octets, for which and for its looks enough was paid
pub paid : (r : Result (Unit {0}) FeedFault) (looks looks' kept kept' n s : ℕ) → looks' + 3 * s ≤ looks + 3 * kept + 4 * n → OnOk r (kept' ≤ s) → Looks looks looks' kept kept' n r
paid (Ok x) looks looks' kept kept' n s enough h = (omega (arith, enough, h), tt)
paid (Err e) looks looks' kept kept' n s enough h = (tt, omega (arith, enough))

-- a reader of no octets keeps none
pub nothing_kept : (want : Want) (kind : Kind) (r : Reading) → Reads want kind [] r → kept r ≡ 0
unfolding cut
nothing_kept want kind r h = omega (arith, ap (λ (b : Before). sum_by length b.opened) h.before, ap length h.left)

-- which has paid for all looks then
pub all_paid : (r : Result (Unit {0}) FeedFault) (looks looks' kept kept' n : ℕ) → kept ≡ 0 → Looks looks looks' kept kept' n r → looks' ≤ looks + 4 * n
all_paid (Ok x) looks looks' kept kept' n none h = omega (arith, none, h.0)
all_paid (Err e) looks looks' kept kept' n none h = omega (arith, none, h.1)

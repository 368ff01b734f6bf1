-- PINGs are answered one after another.
use Rattle.std.specs.Prelude.{◌≡◌, ℕ, ◌+◌, ◌≤◌, List, ◌++◌, length, flat_map}
use Rattle.zre_values.specs.declared.limits.TheConstants.{UNSENT_OCTETS}
use Rattle.zre_zmtp.specs.Written.{pong_frame}
use Rattle.zre_link.specs.Link.{answered, slow_at}

-- the octets of PONGs
abbrev pub pongs : List (List ℕ) → List ℕ
pongs ts = flat_map pong_frame ts

-- What was queued and is written so far, where these contexts are left of all, is what all of them come to.
pub record IsAnswering (all left : List (List ℕ)) (q0 q : List ℕ) (w0 w : ℕ) : Type 0 where
  pub slow : slow_at (length q0) all ≡ slow_at (length q) left
  pub queue : q ++ pongs (answered (length q) left) ≡ q0 ++ pongs (answered (length q0) all)
  pub written : w + length (pongs (answered (length q) left)) ≡ w0 + length (pongs (answered (length q0) all))
  pub balanced : length q + w0 ≡ length q0 + w
  pub grows : w0 ≤ w
  pub within : length q0 ≤ UNSENT_OCTETS → length q ≤ UNSENT_OCTETS

-- A sender's numbered list of messages, of which some come, each by its place in the list.
use Rattle.std.specs.Prelude.{◌≡◌, ◌≢◌, ℕ, ◌+◌, ◌-◌, ◌%◌, ◌<◌, ◌≤◌, ◌==◌, ◌&&◌, List, [], ◌∷◌, ◌++◌, length, Some}
use Rattle.std.specs.Prelude.{false, slice_get, take, if◌then◌else◌, Result, OnOk, IfErr}
use Rattle.std.specs.List.{range_with_len}
use Rattle.zre_msg.specs.declared.message.Message.{Message}
use Rattle.zre_peer.specs.declared.peer_run.RunFault.{RunFault}
use Rattle.zre_peer.specs.declared.peer_run.RunFault.TheVariants as faults
use Rattle.zre_peer.specs.Runs.{due, is_hello, may_follow, fault_of}
use Rattle.zre_peer.specs.Views.{view_of, is_small}

-- a list that is numbered as RFC 36 has it: HELLO is first and no other is HELLO, and the message at place i, counted
-- from 1, has the number i modulo 65536
abbrev pub IsNumbered : List Message → Type 0
IsNumbered sent =
    (i : ℕ) (m : Message) → slice_get sent i ≡ Some m → (is_hello m.body ≡ (i == 0)) × (m.sequence ≡ (i + 1) % 65536)

-- the message at this place of the list, counted from 1
pub record IsPicked (sent : List Message) (pick : ℕ) (m : Message) : Type 0 where
  pub some : 1 ≤ pick
  pub is_there : slice_get sent (pick - 1) ≡ Some m

-- fewer than 65536 places from place n + 1, before it or after it
pub record IsNear (n pick : ℕ) : Type 0 where
  pub before : n + 1 < pick + 65536
  pub after : pick < n + 1 + 65536

-- messages that came one after another, after n others, are those at the first of these places
abbrev pub ArePicked : List Message → List ℕ → List Message → Type 0
ArePicked sent picks [] = Unit {0}
ArePicked sent [] (m ∷ ms) = ⊥
ArePicked sent (pick ∷ picks) (m ∷ ms) = IsPicked sent pick m × ArePicked sent picks ms

-- after n others each comes near the one that is due; a first one may come from anywhere, since HELLO is known as such
abbrev pub AreNear : ℕ → List ℕ → Type 0
AreNear n [] = Unit {0}
AreNear n (pick ∷ picks) = (0 < n → IsNear n pick) × AreNear (n + 1) picks

-- why one that isn't the next is refused after these
abbrev pub fault_of_another : List Message → ℕ → RunFault
fault_of_another [] pick = faults.NotHello
fault_of_another (d ∷ ds) pick =
    if pick == 1 then faults.SecondHello else faults.Broken (due (d ∷ ds)) (pick % 65536)

-- what becomes of the message at place pick, where these were taken
pub record Follows (ms : List Message) (pick : ℕ) (m : Message) : Type 0 where
  -- it is taken exactly where it is the next one, and the view after it is within the limits
  pub taken : may_follow ms m ≡ ((pick == length ms + 1) && is_small (view_of (ms ++ m ∷ [])))
  -- a missing, repeated or reordered one shows
  pub another : pick ≢ length ms + 1 → fault_of ms m ≡ fault_of_another ms pick
  -- the next one fails by nothing but a limit
  pub next : pick ≡ length ms + 1 → fault_of ms m ≡ faults.Limit

-- ---- a run over such a list

-- these messages are the beginning of the list, and came from its first places, one after another
pub record IsBeginning (sent : List Message) (picks : List ℕ) (ms : List Message) : Type 0 where
  pub places : take (length ms) picks ≡ range_with_len 1 (length ms)
  pub messages : take (length ms) sent ≡ ms

-- why the message at place pick was refused after these: it isn't the next one, or the view after it would pass a limit
pub record IsRefused (ms : List Message) (pick : ℕ) (m : Message) (e : RunFault) : Type 0 where
  pub why : ((pick == length ms + 1) && is_small (view_of (ms ++ m ∷ []))) ≡ false
  pub another : pick ≢ length ms + 1 → e ≡ fault_of_another ms pick
  pub next : pick ≡ length ms + 1 → e ≡ faults.Limit

-- A run that had taken these was given one more. Whatever numbered list they come from, each near the one that was due:
-- it took the message, and all that it took is the beginning of the list; or it refused it, and memory isn't why, for
-- where it stands in the list.
abbrev pub KeepsItsList : {A : Type 0} → Result A RunFault → List Message → Message → Type 0
KeepsItsList result ms m =
    (sent : List Message) (picks : List ℕ) (pick : ℕ) → IsNumbered sent → ArePicked sent picks (ms ++ m ∷ [])
    → AreNear 0 (take (length ms + 1) picks) → slice_get picks (length ms) ≡ Some pick
    → OnOk result (IsBeginning sent picks (ms ++ m ∷ []))
    × IfErr result (λ e. e ≢ faults.OutOfMemory → IsRefused ms pick m e)
